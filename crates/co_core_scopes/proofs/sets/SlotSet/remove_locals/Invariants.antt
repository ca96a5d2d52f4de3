use Rattle.std.proofs.Common.{◌≡◌, flat_map, fold, drop}
use Rattle.co_core_scopes.specs.Makes.{slot_list}
use Rattle.co_core_scopes.specs.Sets.{local_of, removed}
use Rattle.co_core_scopes.proofs.sets.SlotSet.remove_locals.Given as goal

abbrev pub invariant-loop-s : goal.invariant-loop-s
invariant-loop-s l = fold removed l.self (flat_map (λ s. slot_list (local_of s)) (drop l.s-index l.stmts)) ≡ fold removed l.initial.self (flat_map (λ s. slot_list (local_of s)) l.stmts)
