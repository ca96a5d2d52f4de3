-- A temporary that is passed over.
use Rattle.std.specs.Prelude.{◌≡◌, ℕ, zero, suc, ◌==◌, false, List, [], ◌∷◌, take, slice_get, Some}
use Rattle.std.proofs.Common.{◌+◌, ◌<◌, add-one, arith, get_or, length, rules, tests, refl}
use Rattle.std.proofs.lemmas.Bool.Decides.{nat_tests}
use Rattle.co_eval_data.specs.declared.frames.Temporal.{Temporal}
use Rattle.co_eval_commit.specs.Temporaries.{AreOthers}
use Rattle.co_eval_commit.proofs.Slots.{one_more}

get_at : (ts : List Temporal) (at : ℕ) (d : Temporal) → at < length ts → slice_get ts at ≡ Some (get_or ts at d)
get_at [] at d within = absurd (omega (arith, within))
get_at (t ∷ ts) zero d within = refl
get_at (t ∷ ts) (suc at) d within = get_at ts at d (omega (arith, within))

differs : (a b : ℕ) → (a ≡ b → ⊥) → (a == b) ≡ false
differs a b differ = first_of (grind (arith, nat_tests), search (rules, tests))

pub one_more_at : (slot : ℕ) (ts : List Temporal) (at : ℕ) (d : Temporal) → at < length ts → ((get_or ts at d).slot ≡ slot → ⊥) → AreOthers slot (take at ts) → AreOthers slot (take (at + 1) ts)
one_more_at slot ts at d within differ others = rw add-one (one_more slot ts at (get_or ts at d) (get_at ts at d within) (differs (get_or ts at d).slot slot differ) others)
