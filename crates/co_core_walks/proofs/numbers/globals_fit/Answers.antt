use Rattle.std.proofs.Common.{refl}
use Rattle.co_core.specs.Numbers as spec
use Rattle.co_core_walks.proofs.Loops.{all_end, all_fails, all_step}
use Rattle.co_core_walks.proofs.numbers.globals_fit.Goals as goal

pub loop-global-init : goal.loop-global-init
loop-global-init c = refl

pub loop-global-preserved : goal.loop-global-preserved
loop-global-preserved c =
    all_step spec.global_value _ _ _ _ _ c.loop-global-test.true c.global-item.is c.global_value-fits.ensures c.if-not-fits.false c.loop-global.invariant

pub returns-then-not-fits : goal.returns-then-not-fits
returns-then-not-fits c =
    all_fails spec.global_value _ _ _ _ _ c.loop-global-test.true c.global-item.is c.global_value-fits.ensures c.if-not-fits.true c.loop-global.invariant

pub returns : goal.returns
returns c =
    all_end spec.global_value _ _ _ c.loop-global-test.false c.loop-global.invariant
