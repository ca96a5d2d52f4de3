use Rattle.std.proofs.Common.{refl}
use Rattle.co_core.specs.Jumps as spec
use Rattle.co_core_walks.proofs.Loops.{all_end, all_fails, all_step}
use Rattle.co_core_walks.proofs.jumps.each_jumps.Goals as goal

pub loop-func-init : goal.loop-func-init
loop-func-init c = refl

pub loop-func-preserved : goal.loop-func-preserved
loop-func-preserved c =
    all_step (spec.func_jumps c.args.unit.now.funcs) _ _ _ _ _ c.loop-func-test.true c.func-item.is c.func_jumps-fits.ensures c.if-not-fits.false c.loop-func.invariant

pub returns-then-not-fits : goal.returns-then-not-fits
returns-then-not-fits c =
    all_fails (spec.func_jumps c.args.unit.now.funcs) _ _ _ _ _ c.loop-func-test.true c.func-item.is c.func_jumps-fits.ensures c.if-not-fits.true c.loop-func.invariant

pub returns : goal.returns
returns c =
    all_end (spec.func_jumps c.args.unit.now.funcs) _ _ _ c.loop-func-test.false c.loop-func.invariant
