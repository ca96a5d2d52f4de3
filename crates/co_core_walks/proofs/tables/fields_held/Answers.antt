use Rattle.std.proofs.Common.{refl}
use Rattle.co_core.specs.Ids as spec
use Rattle.co_core_walks.proofs.Loops.{all_end, all_fails, all_step}
use Rattle.co_core_walks.proofs.tables.fields_held.Goals as goal

pub loop-field-init : goal.loop-field-init
loop-field-init c = refl

pub loop-field-preserved : goal.loop-field-preserved
loop-field-preserved c =
    all_step (spec.field_held c.args.unit.now) _ _ _ _ _ c.loop-field-test.true c.field-item.is c.field_held-fits.ensures c.if-not-fits.false c.loop-field.invariant

pub returns-then-not-fits : goal.returns-then-not-fits
returns-then-not-fits c =
    all_fails (spec.field_held c.args.unit.now) _ _ _ _ _ c.loop-field-test.true c.field-item.is c.field_held-fits.ensures c.if-not-fits.true c.loop-field.invariant

pub returns : goal.returns
returns c =
    all_end (spec.field_held c.args.unit.now) _ _ _ c.loop-field-test.false c.loop-field.invariant
