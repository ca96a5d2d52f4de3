use Rattle.std.proofs.Common.{refl}
use Rattle.co_core.specs.Ids as spec
use Rattle.co_core_walks.proofs.Loops.{all_end, copy_fails, copy_step}
use Rattle.co_core_walks.proofs.ids.params_held.Goals as goal

pub loop-param-init : goal.loop-param-init
loop-param-init c = refl

pub loop-param-preserved : goal.loop-param-preserved
loop-param-preserved c =
    copy_step (spec.slot_held c.args.scene.unit.now c.args.scene.func.now) c.args.params.now c.loop-param.param-index (record { 0 = 0 }) _ _ c.loop-param-test.true c.slot_held-fits.ensures c.if-not-fits.false c.loop-param.invariant

pub returns-then-not-fits : goal.returns-then-not-fits
returns-then-not-fits c =
    copy_fails (spec.slot_held c.args.scene.unit.now c.args.scene.func.now) c.args.params.now c.loop-param.param-index (record { 0 = 0 }) _ _ c.loop-param-test.true c.slot_held-fits.ensures c.if-not-fits.true c.loop-param.invariant

pub returns : goal.returns
returns c =
    all_end (spec.slot_held c.args.scene.unit.now c.args.scene.func.now) _ _ _ c.loop-param-test.false c.loop-param.invariant
