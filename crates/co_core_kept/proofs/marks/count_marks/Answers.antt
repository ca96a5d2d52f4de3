use Rattle.co_core_kept.proofs.Counting.{count_end}
use Rattle.co_core_kept.proofs.marks.count_marks.Goals as goal

pub returns : goal.returns
returns c = count_end c.args.slots.now _ _ c.loop-slot-test.false c.loop-slot.invariant.counted
