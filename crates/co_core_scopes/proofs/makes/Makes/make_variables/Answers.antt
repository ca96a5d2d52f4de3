use Rattle.std.proofs.Common.{refl}
use Rattle.co_core_scopes.specs.Makes.{marked, slot_list}
use Rattle.co_core_scopes.proofs.Loops.{flat_end, flat_step}
use Rattle.co_core_scopes.proofs.makes.Makes.make_variables.Goals as goal

pub loop-handler-init : goal.loop-handler-init
loop-handler-init c = refl

pub loop-handler-preserved : goal.loop-handler-preserved
loop-handler-preserved c = flat_step marked (λ handler. slot_list handler.slot) _ _ _ _ _ _ c.loop-handler-test.true c.handler-item.is c.make_if.ensures c.loop-handler.invariant

pub returns : goal.returns
returns c = flat_end marked (λ handler. slot_list handler.slot) _ _ _ _ c.loop-handler-test.false c.loop-handler.invariant
