use Rattle.std.proofs.Common.{refl}
use Rattle.co_core.specs.Ids as spec
use Rattle.co_core_walks.proofs.Loops.{all_end, all_fails, all_step}
use Rattle.co_core_walks.proofs.ids.slot_types_held.Goals as goal

pub loop-slot-init : goal.loop-slot-init
loop-slot-init c = refl

pub loop-slot-preserved : goal.loop-slot-preserved
loop-slot-preserved c =
    all_step (spec.slot_type_held c.args.scene.unit.now c.args.scene.func.now) _ _ _ _ _ c.loop-slot-test.true c.slot-item.is c.slot_type_held-fits.ensures c.if-not-fits.false c.loop-slot.invariant

pub returns-then-not-fits : goal.returns-then-not-fits
returns-then-not-fits c =
    all_fails (spec.slot_type_held c.args.scene.unit.now c.args.scene.func.now) _ _ _ _ _ c.loop-slot-test.true c.slot-item.is c.slot_type_held-fits.ensures c.if-not-fits.true c.loop-slot.invariant

pub returns : goal.returns
returns c =
    all_end (spec.slot_type_held c.args.scene.unit.now c.args.scene.func.now) _ _ _ c.loop-slot-test.false c.loop-slot.invariant
