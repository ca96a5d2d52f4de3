use Rattle.std.proofs.Common.{refl}
use Rattle.co_core_params.specs.Marked.{marked_copy}
use Rattle.co_core_params.proofs.Loops.{fold_end, fold_step}
use Rattle.co_core_params.proofs.marks.Marks.mark_copies.Goals as goal

pub loop-copy-init : goal.loop-copy-init
loop-copy-init c = refl

pub loop-copy-preserved : goal.loop-copy-preserved
loop-copy-preserved c = fold_step marked_copy _ _ _ _ _ _ c.loop-copy-test.true c.copy-item.is c.mark.ensures c.loop-copy.invariant

pub returns : goal.returns
returns c = fold_end marked_copy _ _ _ _ c.loop-copy-test.false c.loop-copy.invariant
