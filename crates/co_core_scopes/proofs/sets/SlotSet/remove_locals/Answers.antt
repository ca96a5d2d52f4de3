use Rattle.std.specs.Prelude.{fold}
use Rattle.std.proofs.Common.{refl, ap, ◌∙◌}
use Rattle.co_core_scopes.specs.Makes.{slot_list}
use Rattle.co_core_scopes.specs.Sets.{local_of, removed}
use Rattle.co_core_scopes.proofs.Loops.{flat_end, flat_step}
use Rattle.co_core_scopes.proofs.sets.SlotSet.remove_locals.Goals as goal

pub loop-s-init : goal.loop-s-init
loop-s-init c = refl

pub loop-s-preserved : goal.loop-s-preserved
loop-s-preserved c =
    flat_step removed (λ s. slot_list (local_of s)) _ _ _ _ _ _ c.loop-s-test.true c.s-item.is (c.remove_if.ensures ∙ ap (λ o. fold removed c.loop-s.self (slot_list o)) c.local_of.ensures) c.loop-s.invariant

pub returns : goal.returns
returns c = flat_end removed (λ s. slot_list (local_of s)) _ _ _ _ c.loop-s-test.false c.loop-s.invariant
