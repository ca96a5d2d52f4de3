use Rattle.std.proofs.Common.{refl}
use Rattle.co_core.specs.Jumps as spec
use Rattle.co_core_scopes.proofs.Loops.{all_end, all_fails, all_step}
use Rattle.co_core_scopes.proofs.points.each_differs.Goals as goal

pub loop-func-init : goal.loop-func-init
loop-func-init c = (c.requires, refl)

pub loop-func-preserved : goal.loop-func-preserved
loop-func-preserved c =
    (c.func_points_differ-differ.ensures.clear, all_step (spec.func_points_differ c.args.unit.now.funcs) _ _ _ _ _ c.loop-func-test.true c.func-item.is (c.func_points_differ-differ.ensures.differ c.args.unit.now.funcs) c.if-not-differ.false c.loop-func.invariant.1)

pub returns-then-not-differ : goal.returns-then-not-differ
returns-then-not-differ c =
    all_fails (spec.func_points_differ c.args.unit.now.funcs) _ _ _ _ _ c.loop-func-test.true c.func-item.is (c.func_points_differ-differ.ensures.differ c.args.unit.now.funcs) c.if-not-differ.true c.loop-func.invariant.1

pub returns : goal.returns
returns c = all_end (spec.func_points_differ c.args.unit.now.funcs) _ _ _ c.loop-func-test.false c.loop-func.invariant.1
