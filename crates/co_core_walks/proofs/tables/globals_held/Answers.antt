use Rattle.std.proofs.Common.{refl}
use Rattle.co_core.specs.Ids as spec
use Rattle.co_core_walks.proofs.Loops.{all_end, all_fails, all_step}
use Rattle.co_core_walks.proofs.tables.globals_held.Goals as goal

pub loop-global-init : goal.loop-global-init
loop-global-init c = refl

pub loop-global-preserved : goal.loop-global-preserved
loop-global-preserved c =
    all_step (spec.global_held c.args.unit.now) _ _ _ _ _ c.loop-global-test.true c.global-item.is c.global_held-fits.ensures c.if-not-fits.false c.loop-global.invariant

pub returns-then-not-fits : goal.returns-then-not-fits
returns-then-not-fits c =
    all_fails (spec.global_held c.args.unit.now) _ _ _ _ _ c.loop-global-test.true c.global-item.is c.global_held-fits.ensures c.if-not-fits.true c.loop-global.invariant

pub returns : goal.returns
returns c =
    all_end (spec.global_held c.args.unit.now) _ _ _ c.loop-global-test.false c.loop-global.invariant
