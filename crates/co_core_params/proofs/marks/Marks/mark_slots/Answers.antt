use Rattle.std.proofs.Common.{refl}
use Rattle.co_core_params.specs.Marked.{marked}
use Rattle.co_core_params.proofs.Loops.{fold_end, fold_step_at}
use Rattle.co_core_params.proofs.marks.Marks.mark_slots.Goals as goal

pub loop-slot-init : goal.loop-slot-init
loop-slot-init c = refl

pub loop-slot-preserved : goal.loop-slot-preserved
loop-slot-preserved c = fold_step_at marked _ _ c.args.slots.now c.loop-slot.slot-index (record { 0 = 0 }) _ c.loop-slot-test.true c.mark.ensures c.loop-slot.invariant

pub returns : goal.returns
returns c = fold_end marked _ _ _ _ c.loop-slot-test.false c.loop-slot.invariant
