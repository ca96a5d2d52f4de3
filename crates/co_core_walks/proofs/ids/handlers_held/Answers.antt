use Rattle.std.proofs.Common.{refl}
use Rattle.co_core_walks.specs.Lists.{handler_names}
use Rattle.co_core_walks.proofs.Loops.{all_end, all_fails, all_step}
use Rattle.co_core_walks.proofs.ids.handlers_held.Goals as goal

pub loop-handler-init : goal.loop-handler-init
loop-handler-init c = refl

pub loop-handler-preserved : goal.loop-handler-preserved
loop-handler-preserved c =
    all_step (handler_names c.args.scene.unit.now c.args.scene.func.now) _ _ _ _ _ c.loop-handler-test.true c.handler-item.is c.handler_held-fits.ensures c.if-not-fits.false c.loop-handler.invariant

pub returns-then-not-fits : goal.returns-then-not-fits
returns-then-not-fits c =
    all_fails (handler_names c.args.scene.unit.now c.args.scene.func.now) _ _ _ _ _ c.loop-handler-test.true c.handler-item.is c.handler_held-fits.ensures c.if-not-fits.true c.loop-handler.invariant

pub returns : goal.returns
returns c =
    all_end (handler_names c.args.scene.unit.now c.args.scene.func.now) _ _ _ c.loop-handler-test.false c.loop-handler.invariant
