use Rattle.std.proofs.Common.{refl}
use Rattle.co_core_scopes.specs.Makes.{handler_local}
use Rattle.co_core_scopes.proofs.Loops.{all_end, all_fails, all_step}
use Rattle.co_core_scopes.proofs.kinds.variables_are_local.Goals as goal

pub loop-handler-init : goal.loop-handler-init
loop-handler-init c = refl

pub loop-handler-preserved : goal.loop-handler-preserved
loop-handler-preserved c =
    all_step (handler_local c.args.func.now) _ _ _ _ _ c.loop-handler-test.true c.handler-item.is c.variable_is_local-fits.ensures c.if-not-fits.false c.loop-handler.invariant

pub returns-then-not-fits : goal.returns-then-not-fits
returns-then-not-fits c =
    all_fails (handler_local c.args.func.now) _ _ _ _ _ c.loop-handler-test.true c.handler-item.is c.variable_is_local-fits.ensures c.if-not-fits.true c.loop-handler.invariant

pub returns : goal.returns
returns c = all_end (handler_local c.args.func.now) _ _ _ c.loop-handler-test.false c.loop-handler.invariant
