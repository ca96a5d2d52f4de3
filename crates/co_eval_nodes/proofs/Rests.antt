-- What is left of a list.
use Rattle.std.specs.Prelude.{◌≡◌, ℕ, zero, suc, ◌+◌, List, [], ◌∷◌, drop, length, slice_get, Some}
use Rattle.std.proofs.Common.{refl, ap, add-one, arith, ◌≤◌}

after_one : {X : Type 0} (xs : List X) (n : ℕ) → drop (suc n) xs ≡ drop 1 (drop n xs)
after_one [] zero = refl
after_one [] (suc n) = refl
after_one (x ∷ xs) zero = refl
after_one (x ∷ xs) (suc n) = after_one xs n

pub one_more : {X : Type 0} (xs : List X) (n : ℕ) → drop (n + 1) xs ≡ drop 1 (drop n xs)
one_more xs n = rw add-one (after_one xs n)

pub past_end : {X : Type 0} (xs : List X) (n : ℕ) → length xs ≤ n → drop 1 (drop n xs) ≡ []
past_end [] zero past = refl
past_end [] (suc n) past = refl
past_end (x ∷ xs) zero past = absurd (omega (arith, past))
past_end (x ∷ xs) (suc n) past = past_end xs n (omega (arith, past))

-- a list that has a first item is that and the others
pub first_and_rest : {X : Type 0} (xs : List X) (x : X) → slice_get xs 0 ≡ Some x → xs ≡ x ∷ drop 1 xs
first_and_rest [] x e = cc
first_and_rest (y ∷ xs) x e = let same : y ≡ x = cc in ap (λ z. z ∷ xs) same
