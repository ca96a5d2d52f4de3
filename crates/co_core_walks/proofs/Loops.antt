-- Loops and folds that test each item of a list.
use Rattle.std.specs.Prelude.{◌≡◌, ℕ, zero, suc, ◌+◌, ◌<◌, ◌≤◌, Bool, true, false, not, ◌&&◌, ◌||◌, List, [], ◌∷◌, fold, length, get_or, None, Some, slice_get}
use Rattle.std.specs.List.{list_all, list_any}
use Rattle.std.proofs.Common.{refl, sym, ap, ◌∙◌, drop, arith}
use Rattle.std.proofs.lemmas.List.{drop_more}

pub and_true : (a : Bool) → (a && true) ≡ a
and_true true = refl
and_true false = refl

and_false : (a : Bool) → (a && false) ≡ false
and_false true = refl
and_false false = refl

and_turned : (l t b : Bool) → (l && (t && b)) ≡ ((t && l) && b)
and_turned l true b = refl
and_turned l false b = and_false l

-- a fold over a state that keeps one truth: whether each item so far has passed
pub fold_tested : {A S : Type 0} (after : S → A → S) (make : Bool → S) (test : A → Bool) → ((b : Bool) (x : A) → after (make b) x ≡ make (test x && b)) → (b : Bool) (xs : List A) → fold after (make b) xs ≡ make (list_all test xs && b)
fold_tested after make test step b [] = refl
fold_tested after make test step b (x ∷ xs) =
    ap (λ s. fold after s xs) (step b x) ∙ fold_tested after make test step (test x && b) xs ∙ ap make (and_turned (list_all test xs) (test x) b)

-- a loop that ends at the first item that fails
pub all_step : {A : Type 0} (test : A → Bool) (xs : List A) (k : ℕ) (x : A) (b z : Bool) → k < length xs → x ≡ get_or xs k x → b ≡ test x → b ≡ true → list_all test (drop k xs) ≡ z → list_all test (drop (k + 1) xs) ≡ z
all_step test xs k x b z less is tested passed keeps =
    let d = drop_more xs k x less in
    let l = drop (k + 1) xs in
    let e : list_all test (x ∷ l) ≡ (test x && list_all test l) = refl in
    let f : (true && list_all test l) ≡ list_all test l = refl in
    let h : list_all test (get_or xs k x ∷ drop (k + 1) xs) ≡ z = ap (list_all test) (sym d) ∙ keeps in
    let i : (test x && list_all test l) ≡ (true && list_all test l) = ap (λ t. t && list_all test l) (sym tested ∙ passed) in
    sym (sym (ap (λ y. list_all test (y ∷ l)) is ∙ h) ∙ i)

pub all_fails : {A : Type 0} (test : A → Bool) (xs : List A) (k : ℕ) (x : A) (b z : Bool) → k < length xs → x ≡ get_or xs k x → b ≡ test x → b ≡ false → list_all test (drop k xs) ≡ z → false ≡ z
all_fails test xs k x b z less is tested failed keeps =
    let d = drop_more xs k x less in
    let l = drop (k + 1) xs in
    let h : list_all test (get_or xs k x ∷ drop (k + 1) xs) ≡ z = ap (list_all test) (sym d) ∙ keeps in
    let i : (test x && list_all test l) ≡ (false && list_all test l) = ap (λ t. t && list_all test l) (sym tested ∙ failed) in
    sym i ∙ ap (λ y. list_all test (y ∷ l)) is ∙ h

all_dropped : {A : Type 0} → (k : ℕ) (xs : List A) → length xs ≤ k → drop k xs ≡ []
all_dropped zero [] less = refl
all_dropped zero (x ∷ xs) less = absurd (omega (arith, less))
all_dropped (suc k) [] less = refl
all_dropped (suc k) (x ∷ xs) less = all_dropped k xs (omega (arith, less))

pub all_end : {A : Type 0} (test : A → Bool) (xs : List A) (k : ℕ) (z : Bool) → length xs ≤ k → list_all test (drop k xs) ≡ z → true ≡ z
all_end test xs k z less keeps = sym (ap (list_all test) (all_dropped k xs less)) ∙ keeps

pub any_negated : {A : Type 0} (test : A → Bool) (xs : List A) → not (list_all (λ x. not (test x)) xs) ≡ list_any test xs
any_negated test [] = refl
any_negated test (x ∷ xs) = negated (test x) (list_all (λ y. not (test y)) xs) ∙ ap (λ b. test x || b) (any_negated test xs)
  where
    negated : (a b : Bool) → not (not a && b) ≡ (a || not b)
    negated true b = refl
    negated false b = refl

-- a loop over the numbers of a list's items
none_is_not_some : {A : Type 0} (x : A) → None ≡ Some x → ⊥
none_is_not_some x h = cc

at_drop : {A : Type 0} (xs : List A) (k : ℕ) (x : A) → slice_get xs k ≡ Some x → drop k xs ≡ x ∷ drop (suc k) xs
at_drop [] k x is = absurd (none_is_not_some x is)
at_drop (y ∷ xs) zero x is = let e : y ≡ x = cc in ap (λ z. z ∷ xs) e
at_drop (y ∷ xs) (suc k) x is = at_drop xs k x is

pub number_step : {A : Type 0} (test : A → Bool) (xs : List A) (k : ℕ) (x : A) (b z : Bool) → slice_get xs k ≡ Some x → b ≡ test x → b ≡ true → list_all test (drop k xs) ≡ z → list_all test (drop (k + 1) xs) ≡ z
number_step test xs k x b z is tested passed keeps =
    let e : suc k ≡ k + 1 = omega arith in
    let h = ap (list_all test) (at_drop xs k x is) in
    let i : (test x && list_all test (drop (suc k) xs)) ≡ (true && list_all test (drop (suc k) xs)) = ap (λ t. t && list_all test (drop (suc k) xs)) (sym tested ∙ passed) in
    ap (λ j. list_all test (drop j xs)) (sym e) ∙ sym i ∙ sym h ∙ keeps

pub number_fails : {A : Type 0} (test : A → Bool) (xs : List A) (k : ℕ) (x : A) (b z : Bool) → slice_get xs k ≡ Some x → b ≡ test x → b ≡ false → list_all test (drop k xs) ≡ z → false ≡ z
number_fails test xs k x b z is tested failed keeps =
    let h = ap (list_all test) (at_drop xs k x is) in
    let i : (test x && list_all test (drop (suc k) xs)) ≡ (false && list_all test (drop (suc k) xs)) = ap (λ t. t && list_all test (drop (suc k) xs)) (sym tested ∙ failed) in
    sym i ∙ sym h ∙ keeps

pub numbers_end : {A : Type 0} (test : A → Bool) (xs : List A) (n k : ℕ) (z : Bool) → n ≡ length xs → n ≤ k → list_all test (drop k xs) ≡ z → true ≡ z
numbers_end test xs n k z is less keeps = all_end test xs k z (omega arith) keeps

-- a loop over items that are copied
pub copy_step : {A : Type 0} (test : A → Bool) (xs : List A) (k : ℕ) (d : A) (b z : Bool) → k < length xs → b ≡ test (get_or xs k d) → b ≡ true → list_all test (drop k xs) ≡ z → list_all test (drop (k + 1) xs) ≡ z
copy_step test xs k d b z less tested passed keeps =
    let l = drop (k + 1) xs in
    let i : (test (get_or xs k d) && list_all test l) ≡ (true && list_all test l) = ap (λ t. t && list_all test l) (sym tested ∙ passed) in
    sym i ∙ sym (ap (list_all test) (drop_more xs k d less)) ∙ keeps

pub copy_fails : {A : Type 0} (test : A → Bool) (xs : List A) (k : ℕ) (d : A) (b z : Bool) → k < length xs → b ≡ test (get_or xs k d) → b ≡ false → list_all test (drop k xs) ≡ z → false ≡ z
copy_fails test xs k d b z less tested failed keeps =
    let l = drop (k + 1) xs in
    let i : (test (get_or xs k d) && list_all test l) ≡ (false && list_all test l) = ap (λ t. t && list_all test l) (sym tested ∙ failed) in
    sym i ∙ sym (ap (list_all test) (drop_more xs k d less)) ∙ keeps
