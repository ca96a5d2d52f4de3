use Rattle.std.proofs.Common.{◌≡◌, flat_map, fold, drop}
use Rattle.co_core_scopes.specs.Makes.{marked, slot_list}
use Rattle.co_core_scopes.proofs.makes.Makes.make_variables.Given as goal

abbrev pub invariant-loop-handler : goal.invariant-loop-handler
invariant-loop-handler l = fold marked l.self (flat_map (λ handler. slot_list handler.slot) (drop l.handler-index l.handlers)) ≡ fold marked l.initial.self (flat_map (λ handler. slot_list handler.slot) l.handlers)
