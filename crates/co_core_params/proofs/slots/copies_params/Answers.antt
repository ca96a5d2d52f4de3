use Rattle.co_core_params.proofs.Room.{all_done, none_left}
use Rattle.co_core_params.proofs.slots.copies_params.Goals as goal

pub returns-in_default : goal.returns-in_default
returns-in_default c = none_left c.args.func.now c.loop-copy.rest.now c.args.copies.now c.loop-copy.copy-index c.copy-item.result _ c.loop-copy-test.true c.in_default.len_below c.loop-copy.invariant

pub returns : goal.returns
returns c = all_done c.args.func.now c.loop-copy.rest.now c.args.copies.now c.loop-copy.copy-index _ c.is_empty.result c.loop-copy-test.false c.is_empty.ensures c.loop-copy.invariant
