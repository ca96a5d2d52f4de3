-- The items that are left from a number on.
use Rattle.std.specs.Prelude.{◌≡◌, ℕ, zero, suc, ◌+◌, List, [], ◌∷◌, drop, slice_get, None, Some}
use Rattle.std.proofs.Common.{refl, ap, ◌∙◌, sym, arith}

some_left : {A : Type 0} (xs : List A) (n : ℕ) (x : A) → slice_get xs n ≡ Some x → drop n xs ≡ x ∷ drop (n + 1) xs
some_left [] n x e = absurd (cc e)
some_left (y ∷ xs) zero x e = let same : y ≡ x = cc e in ap (λ k. k ∷ xs) same
some_left (y ∷ xs) (suc n) x e =
    let count : suc (n + 1) ≡ suc n + 1 = omega arith in
    some_left xs n x e ∙ ap (λ k. x ∷ drop k (y ∷ xs)) count

pub first_left : {A : Type 0} (xs : List A) (n next : ℕ) (x : A) → slice_get xs n ≡ Some x → next ≡ n + 1 → drop n xs ≡ x ∷ drop next xs
first_left xs n next x e more = some_left xs n x e ∙ ap (λ k. x ∷ drop k xs) (sym more)

pub none_left : {A : Type 0} (xs : List A) (n : ℕ) → slice_get xs n ≡ None → drop n xs ≡ []
none_left [] zero e = refl
none_left [] (suc n) e = refl
none_left (y ∷ xs) zero e = absurd (cc e)
none_left (y ∷ xs) (suc n) e = none_left xs n e
