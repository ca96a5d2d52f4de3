use Rattle.std.proofs.Common.{refl}
use Rattle.co_core.specs.Ids as spec
use Rattle.co_core_walks.proofs.Loops.{all_end, all_fails, all_step}
use Rattle.co_core_walks.proofs.tables.types_held.Goals as goal

pub loop-of-init : goal.loop-of-init
loop-of-init c = refl

pub loop-of-preserved : goal.loop-of-preserved
loop-of-preserved c =
    all_step (spec.type_held c.args.unit.now) _ _ _ _ _ c.loop-of-test.true c.of-item.is c.type_held-fits.ensures c.if-not-fits.false c.loop-of.invariant

pub returns-then-not-fits : goal.returns-then-not-fits
returns-then-not-fits c =
    all_fails (spec.type_held c.args.unit.now) _ _ _ _ _ c.loop-of-test.true c.of-item.is c.type_held-fits.ensures c.if-not-fits.true c.loop-of.invariant

pub returns : goal.returns
returns c =
    all_end (spec.type_held c.args.unit.now) _ _ _ c.loop-of-test.false c.loop-of.invariant
