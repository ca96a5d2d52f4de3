-- Loops over lists.
use Rattle.std.specs.Prelude.{◌≡◌, ℕ, ◌+◌, ◌<◌, ◌≤◌, Bool, true, false, ◌&&◌, List, [], ◌∷◌, length, get_or}
use Rattle.std.specs.List.{list_all}
use Rattle.std.proofs.Common.{sym, ap, ◌∙◌, drop, zero, suc, arith}
use Rattle.std.proofs.lemmas.Bool.{and_parts}
use Rattle.std.proofs.lemmas.List.{at_drop_all, at_drop_more}

module _ {A : Type 0} (test : A → Bool) (xs : List A) (k : ℕ) where
  -- the rest of the list, whose first item is this one
  split : (x : A) (b z : Bool) → k < length xs → x ≡ get_or xs k x → b ≡ test x → list_all test (drop k xs) ≡ z → (b && list_all test (drop (k + 1) xs)) ≡ z
  split x b z less is tested keeps =
      ap (λ t. t && list_all test (drop (k + 1) xs)) (tested ∙ ap test is) ∙ sym (at_drop_more (list_all test) xs k x less) ∙ keeps

  -- a loop that ends at the first item that fails
  pub all_step : (x : A) (b z : Bool) → k < length xs → x ≡ get_or xs k x → b ≡ test x → b ≡ true → list_all test (drop k xs) ≡ z → list_all test (drop (k + 1) xs) ≡ z
  all_step x b z less is tested passed keeps = sym (ap (λ t. t && list_all test (drop (k + 1) xs)) passed) ∙ split x b z less is tested keeps

  pub all_fails : (x : A) (b z : Bool) → k < length xs → x ≡ get_or xs k x → b ≡ test x → b ≡ false → list_all test (drop k xs) ≡ z → false ≡ z
  all_fails x b z less is tested failed keeps = sym (ap (λ t. t && list_all test (drop (k + 1) xs)) failed) ∙ split x b z less is tested keeps

  pub all_end : (z : Bool) → length xs ≤ k → list_all test (drop k xs) ≡ z → true ≡ z
  all_end z less keeps = sym (at_drop_all (list_all test) xs k less) ∙ keeps

pub at_all : {A : Type 0} (test : A → Bool) (xs : List A) (k : ℕ) (x : A) → list_all test xs ≡ true → k < length xs → x ≡ get_or xs k x → test x ≡ true
at_all test [] k x all less is = absurd (omega (arith, less))
at_all test (y ∷ ys) zero x all less is = ap test is ∙ (and_parts (test y) (list_all test ys) all).0
at_all test (y ∷ ys) (suc k) x all less is = at_all test ys k x ((and_parts (test y) (list_all test ys) all).1) (omega (arith, less)) is

-- ---- a test that is the first of two

pub and_then : (a b r : Bool) → a ≡ true → (a && b) ≡ r → b ≡ r
and_then a b r e h = sym (ap (λ x. x && b) e) ∙ h

pub and_else : (a b r : Bool) → a ≡ false → (a && b) ≡ r → a ≡ r
and_else a b r e h = e ∙ sym (ap (λ x. x && b) e) ∙ h
