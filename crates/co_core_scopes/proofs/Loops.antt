-- Loops over lists.
use Rattle.std.specs.Prelude.{◌≡◌, ℕ, zero, suc, ◌+◌, ◌<◌, ◌≤◌, Bool, true, false, ◌&&◌, List, [], ◌∷◌, ◌++◌, flat_map, fold, length, get_or}
use Rattle.std.specs.List.{list_all}
use Rattle.std.proofs.Common.{refl, sym, ap, ◌∙◌, drop, arith}
use Rattle.std.proofs.lemmas.List.{drop_more}
use Rattle.std.proofs.lemmas.List.Sums.{fold-append}

all_dropped : {A : Type 0} → (k : ℕ) (xs : List A) → length xs ≤ k → drop k xs ≡ []
all_dropped zero [] less = refl
all_dropped zero (x ∷ xs) less = absurd (omega (arith, less))
all_dropped (suc k) [] less = refl
all_dropped (suc k) (x ∷ xs) less = all_dropped k xs (omega (arith, less))

-- a loop that ends at the first item that fails
pub all_step : {A : Type 0} (test : A → Bool) (xs : List A) (k : ℕ) (x : A) (b z : Bool) → k < length xs → x ≡ get_or xs k x → b ≡ test x → b ≡ true → list_all test (drop k xs) ≡ z → list_all test (drop (k + 1) xs) ≡ z
all_step test xs k x b z less is tested passed keeps =
    let d = drop_more xs k x less in
    let l = drop (k + 1) xs in
    let e : list_all test (x ∷ l) ≡ (test x && list_all test l) = refl in
    let f : (true && list_all test l) ≡ list_all test l = refl in
    let h : list_all test (get_or xs k x ∷ drop (k + 1) xs) ≡ z = ap (list_all test) (sym d) ∙ keeps in
    let i : (test x && list_all test l) ≡ (true && list_all test l) = ap (λ t. t && list_all test l) (sym tested ∙ passed) in
    sym (sym (ap (λ y. list_all test (y ∷ l)) is ∙ h) ∙ i)

pub all_fails : {A : Type 0} (test : A → Bool) (xs : List A) (k : ℕ) (x : A) (b z : Bool) → k < length xs → x ≡ get_or xs k x → b ≡ test x → b ≡ false → list_all test (drop k xs) ≡ z → false ≡ z
all_fails test xs k x b z less is tested failed keeps =
    let d = drop_more xs k x less in
    let l = drop (k + 1) xs in
    let h : list_all test (get_or xs k x ∷ drop (k + 1) xs) ≡ z = ap (list_all test) (sym d) ∙ keeps in
    let i : (test x && list_all test l) ≡ (false && list_all test l) = ap (λ t. t && list_all test l) (sym tested ∙ failed) in
    sym i ∙ ap (λ y. list_all test (y ∷ l)) is ∙ h

pub all_end : {A : Type 0} (test : A → Bool) (xs : List A) (k : ℕ) (z : Bool) → length xs ≤ k → list_all test (drop k xs) ≡ z → true ≡ z
all_end test xs k z less keeps = sym (ap (list_all test) (all_dropped k xs less)) ∙ keeps

-- a loop over a list, whose items come to lists of acts or of statements
pub flat_step : {A X S : Type 0} (after : S → A → S) (f : X → List A) (s s1 : S) (xs : List X) (k : ℕ) (x : X) (z : S) → k < length xs → x ≡ get_or xs k x → s1 ≡ fold after s (f x) → fold after s (flat_map f (drop k xs)) ≡ z → fold after s1 (flat_map f (drop (k + 1) xs)) ≡ z
flat_step after f s s1 xs k x z less is h keeps =
    let d = drop_more xs k x less in
    let a = fold-append after s (f x) (flat_map f (drop (k + 1) xs)) in
    let b : flat_map f (x ∷ drop (k + 1) xs) ≡ f x ++ flat_map f (drop (k + 1) xs) = refl in
    cc

pub flat_end : {A X S : Type 0} (after : S → A → S) (f : X → List A) (s : S) (xs : List X) (k : ℕ) (z : S) → length xs ≤ k → fold after s (flat_map f (drop k xs)) ≡ z → s ≡ z
flat_end after f s xs k z less keeps = ap (λ l. fold after s (flat_map f l)) (sym (all_dropped k xs less)) ∙ keeps

-- a loop over a list, each of whose items is done by itself
pub each_step : {X S : Type 0} (after : S → X → S) (s s1 : S) (xs : List X) (k : ℕ) (x : X) (z : S) → k < length xs → x ≡ get_or xs k x → s1 ≡ after s x → fold after s (drop k xs) ≡ z → fold after s1 (drop (k + 1) xs) ≡ z
each_step after s s1 xs k x z less is h keeps =
    let l = drop (k + 1) xs in
    ap (λ v. fold after v l) h ∙ ap (λ y. fold after (after s y) l) is ∙ sym (ap (fold after s) (drop_more xs k x less)) ∙ keeps

pub each_end : {X S : Type 0} (after : S → X → S) (s : S) (xs : List X) (k : ℕ) (z : S) → length xs ≤ k → fold after s (drop k xs) ≡ z → s ≡ z
each_end after s xs k z less keeps = ap (fold after s) (sym (all_dropped k xs less)) ∙ keeps
