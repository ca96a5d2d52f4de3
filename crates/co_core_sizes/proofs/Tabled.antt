-- The words of each class, in a list.
use Rattle.std.specs.Prelude.{◌≡◌, ◌<◌, ◌≤◌, ℕ, zero, suc, ◌+◌, Bool, true, false, ◌&&◌, nat_le, List, [], ◌∷◌, ◌++◌, length, get_or, slice_get, Option, None, Some}
use Rattle.std.proofs.Common.{refl, ap, ◌∙◌, sym, subst, arith, ◌⊎◌, inl, inr}
use Rattle.std.proofs.lemmas.Bool.{cases_lt, leb-true}
use Rattle.std.proofs.lemmas.List.{get_or_past, get_or_append_left, get_or_push, length-append}
use Rattle.std.proofs.lemmas.Option.{slice_get_past}
use Rattle.co_base.specs.declared.ids.ClassId.{ClassId}
use Rattle.co_types.specs.declared.classes.ClassInfo.{ClassInfo}
use Rattle.co_core_tree.specs.Sizes.{class_words, class_words_within, info_words}
use Rattle.co_core.specs.Counts.{classes_nest, each_class, nests_within, words_fit}

and_left : (a b : Bool) → (a && b) ≡ true → a ≡ true
and_left true b p = refl
and_left false b p = p

and_right : (a b : Bool) → (a && b) ≡ true → b ≡ true
and_right true b p = p
and_right false true p = refl
and_right false false p = p

every : (test : ClassId → Bool) (k : ℕ) (classes : List ClassInfo) → each_class test k classes ≡ true → (j : ℕ) → j < length classes → test (record { 0 = k + j }) ≡ true
every test k [] all j less = absurd (omega (arith, less))
every test k (info ∷ infos) all zero less =
    let e : k ≡ k + 0 = omega arith in
    subst (λ n. test (record { 0 = n }) ≡ true) e (and_left (test (record { 0 = k })) (each_class test (k + 1) infos) all)
every test k (info ∷ infos) all (suc j) less =
    let e : (k + 1) + j ≡ k + suc j = omega arith in
    subst (λ n. test (record { 0 = n }) ≡ true) e (every test (k + 1) infos (and_right (test (record { 0 = k })) (each_class test (k + 1) infos) all) j (omega (arith, less)))

at_number : (test : ClassId → Bool) (classes : List ClassInfo) → each_class test 0 classes ≡ true → (j : ℕ) → j < length classes → test (record { 0 = j }) ≡ true
at_number test classes all j less =
    let e : 0 + j ≡ j = omega arith in
    subst (λ n. test (record { 0 = n }) ≡ true) e (every test 0 classes all j less)

pub nests_at : (classes : List ClassInfo) → classes_nest classes ≡ true → (j : ℕ) → j < length classes → nests_within (length classes) classes (record { 0 = j }) ≡ true
nests_at classes all j less = at_number (λ c. nests_within (length classes) classes c) classes all j less

pub fits_at : (classes : List ClassInfo) → words_fit classes ≡ true → (j : ℕ) → j < length classes → class_words classes (record { 0 = j }) ≤ 1024
fits_at classes all j less = leb-true (class_words classes (record { 0 = j })) 1024 (at_number (λ c. nat_le (class_words classes c) 1024) classes all j less)

-- ---- the list so far

-- the words of the first classes, so many
abbrev pub AreWords : List ClassInfo → ℕ → List ℕ → Type 0
AreWords classes n words = (length words ≡ n) × ((j : ℕ) → j < n → get_or words j 1 ≡ class_words classes (record { 0 = j }))

pub no_words : (classes : List ClassInfo) → AreWords classes 0 []
no_words classes = (refl, λ j less. absurd (omega (arith, less)))

pub one_more : (classes : List ClassInfo) (n w : ℕ) (words more : List ℕ) → AreWords classes n words → w ≡ class_words classes (record { 0 = n }) → more ≡ words ++ w ∷ [] → AreWords classes (n + 1) more
one_more classes n w words more are is pushed = (
  ap length pushed ∙ length-append words (w ∷ []) ∙ ap (λ k. k + 1) are.0,
  λ j less. ap (λ l. get_or l j 1) pushed ∙ below j less (cases_lt j n),
)
  where
    below : (j : ℕ) → j < n + 1 → (j < n) ⊎ (n ≤ j) → get_or (words ++ w ∷ []) j 1 ≡ class_words classes (record { 0 = j })
    below j less (inl y) = get_or_append_left words (w ∷ []) 1 j (omega (arith, y, are.0)) ∙ are.1 j y
    below j less (inr y) =
        let same : j ≡ n = omega (arith, less, y) in
        let end : length words ≡ j = omega (arith, same, are.0) in
        get_or_push words w 1 j end ∙ is ∙ ap (λ k. class_words classes (record { 0 = k })) (sym same)

no_class : (n : ℕ) (classes : List ClassInfo) (class : ClassId) → slice_get classes class.0 ≡ None → class_words_within n classes class ≡ 1
no_class zero classes class none = refl
no_class (suc n) classes class none = ap (info_words (λ c. class_words_within n classes c)) none

pub all_words : (classes : List ClassInfo) (words : List ℕ) → AreWords classes (length classes) words → (class : ClassId) → get_or words class.0 1 ≡ class_words classes class
all_words classes words are class = by (cases_lt class.0 (length classes))
  where
    by : (class.0 < length classes) ⊎ (length classes ≤ class.0) → get_or words class.0 1 ≡ class_words classes class
    by (inl y) = are.1 class.0 y
    by (inr y) = get_or_past words class.0 1 (omega (arith, y, are.0)) ∙ sym (no_class (length classes) classes class (slice_get_past classes class.0 y))

-- the list of all
pub by_end : (classes : List ClassInfo) (n : ℕ) (words : List ℕ) → n ≡ length classes → AreWords classes n words → AreWords classes (length classes) words
by_end classes n words end are = subst (λ k. AreWords classes k words) end are
