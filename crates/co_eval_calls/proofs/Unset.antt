-- Lists that are made one item after the other.
use Rattle.std.specs.Prelude.{◌≡◌, ◌≤◌, ℕ, zero, suc, List, [], ◌∷◌, length, slice_set}
use Rattle.std.proofs.Common.{refl, ap, arith}

pub unset_past : {A : Type 0} (xs : List A) (n : ℕ) (x : A) → length xs ≤ n → slice_set xs n x ≡ xs
unset_past [] n x past = refl
unset_past (y ∷ xs) zero x past = absurd (omega (arith, past))
unset_past (y ∷ xs) (suc n) x past = ap (λ k. y ∷ k) (unset_past xs n x (omega (arith, past)))
