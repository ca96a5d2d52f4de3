use Rattle.std.proofs.Common.{refl}
use Rattle.co_core.specs.Ids as spec
use Rattle.co_core_walks.proofs.Loops.{all_end, all_fails, all_step}
use Rattle.co_core_walks.proofs.tables.aliases_held.Goals as goal

pub loop-alias-init : goal.loop-alias-init
loop-alias-init c = refl

pub loop-alias-preserved : goal.loop-alias-preserved
loop-alias-preserved c =
    all_step (spec.alias_held c.args.unit.now) _ _ _ _ _ c.loop-alias-test.true c.alias-item.is c.alias_held-fits.ensures c.if-not-fits.false c.loop-alias.invariant

pub returns-then-not-fits : goal.returns-then-not-fits
returns-then-not-fits c =
    all_fails (spec.alias_held c.args.unit.now) _ _ _ _ _ c.loop-alias-test.true c.alias-item.is c.alias_held-fits.ensures c.if-not-fits.true c.loop-alias.invariant

pub returns : goal.returns
returns c =
    all_end (spec.alias_held c.args.unit.now) _ _ _ c.loop-alias-test.false c.loop-alias.invariant
