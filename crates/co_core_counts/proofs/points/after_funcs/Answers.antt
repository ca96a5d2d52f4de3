use Rattle.std.proofs.Common.{refl}
use Rattle.co_core_counts.proofs.Left.{sum_end, sum_step}
use Rattle.co_core_counts.proofs.points.after_funcs.Goals as goal

pub loop-func-init : goal.loop-func-init
loop-func-init c = refl

pub loop-func-preserved : goal.loop-func-preserved
loop-func-preserved c = sum_step c.args.funcs.now _ _ _ _ _ _ c.loop-func-test.true c.func-item.is c.after_func-now.ensures c.loop-func.invariant

pub returns : goal.returns
returns c = sum_end c.args.funcs.now _ _ _ _ c.loop-func-test.false c.loop-func.invariant
