use Rattle.std.proofs.Common.{◌≡◌, [], ◌∷◌, flat_map, fold, drop}
use Rattle.co_core_scopes.specs.Makes.{marked}
use Rattle.co_core_scopes.proofs.makes.Makes.make_copies.Given as goal

abbrev pub invariant-loop-copy : goal.invariant-loop-copy
invariant-loop-copy l = fold marked l.self (flat_map (λ copy. copy.to ∷ []) (drop l.copy-index l.copies)) ≡ fold marked l.initial.self (flat_map (λ copy. copy.to ∷ []) l.copies)
