-- The words of a class are the same at each depth within which its objects nest, and so they are counted once.
use Rattle.std.specs.Prelude.{◌≡◌, ◌≢◌, ◌<◌, ◌≤◌, ℕ, zero, suc, ◌+◌, ◌-◌, Bool, true, false, ◌&&◌, Option, None, Some, List, [], ◌∷◌, length, take, drop, get_or, slice_get}
use Rattle.std.specs.List.{list_all}
use Rattle.std.proofs.Common.{refl, ap, ◌∙◌, sym, set, subst, ◌⊎◌, inl, inr, replicate, arith}
use Rattle.std.proofs.Math.Seq.{take-length}
use Rattle.std.proofs.lemmas.Bool.{cases_eq, false≢true}
use Rattle.std.proofs.lemmas.List.{get_or-set_same, get_or-set_other}
use Rattle.co_base.specs.declared.ids.ClassId.{ClassId}
use Rattle.co_types.specs.declared.types.Head.{Head}
use Rattle.co_types.specs.declared.types.Head.TheVariants as head
use Rattle.co_types.specs.declared.classes.ClassInfo.{ClassInfo}
use Rattle.co_types.specs.declared.classes.FieldInfo.{FieldInfo}
use Rattle.co_types.specs.Types.{head_of}
use Rattle.co_core_tree.specs.Sizes.{at_least_one, class_words_within, fields_words, head_words, info_words}
use Rattle.co_core.specs.Counts.{each_class, field_nests, head_nests, info_nests, nests_within}
use Rattle.co_core_sizes.specs.Counted.{AreCounted, HasWords}
use Rattle.co_core_sizes.proofs.Classes.{each_here}

and_first : (a b : Bool) → (a && b) ≡ true → a ≡ true
and_first true b p = refl
and_first false b p = p

and_second : (a b : Bool) → (a && b) ≡ true → b ≡ true
and_second true b p = p
and_second false true p = refl
and_second false false p = p

-- ---- at each depth

module _ (classes : List ClassInfo) where
  abbrev nests : ℕ → ClassId → Bool
  nests d c = nests_within d classes c

  abbrev words_at : ℕ → ClassId → ℕ
  words_at d c = class_words_within d classes c

  abbrev SameWords : ℕ → ℕ → Type 0
  SameWords d e = (c : ClassId) → nests d c ≡ true → nests e c ≡ true → words_at d c ≡ words_at e c

  same_head : (d e : ℕ) → SameWords d e → (h : Head) → head_nests (nests d) h ≡ true → head_nests (nests e) h ≡ true → head_words (words_at d) h ≡ head_words (words_at e) h
  same_head d e same (head.Class class) n m = same class n m
  same_head d e same head.ExceptionPtr n m = refl
  same_head d e same head.Void n m = refl
  same_head d e same (head.Num k) n m = refl
  same_head d e same head.Pointer n m = refl
  same_head d e same head.Ref n m = refl
  same_head d e same head.ConstRef n m = refl
  same_head d e same head.RefRef n m = refl
  same_head d e same (head.Handle promise) n m = refl
  same_head d e same (head.Atomic k) n m = refl
  same_head d e same head.SuspendAlways n m = refl
  same_head d e same head.SuspendNever n m = refl
  same_head d e same head.NullPtr n m = refl

  same_fields : (d e : ℕ) → SameWords d e → (fields : List FieldInfo) → list_all (field_nests (nests d)) fields ≡ true → list_all (field_nests (nests e)) fields ≡ true → fields_words (words_at d) fields ≡ fields_words (words_at e) fields
  same_fields d e same [] n m = refl
  same_fields d e same (field ∷ fields) n m =
      let first = same_head d e same (head_of field.of) (and_first (field_nests (nests d) field) (list_all (field_nests (nests d)) fields) n) (and_first (field_nests (nests e) field) (list_all (field_nests (nests e)) fields) m) in
      let rest = same_fields d e same fields (and_second (field_nests (nests d) field) (list_all (field_nests (nests d)) fields) n) (and_second (field_nests (nests e) field) (list_all (field_nests (nests e)) fields) m) in
      ap (λ w. w + fields_words (words_at d) fields) first ∙ ap (λ w. head_words (words_at e) (head_of field.of) + w) rest

  same_info : (d e : ℕ) → SameWords d e → (info : Option ClassInfo) → info_nests (nests d) info ≡ true → info_nests (nests e) info ≡ true → info_words (words_at d) info ≡ info_words (words_at e) info
  same_info d e same None n m = refl
  same_info d e same (Some info) n m = ap at_least_one (same_fields d e same info.fields n m)

  same_words : (d e : ℕ) → SameWords d e
  same_words zero e class n m = absurd (false≢true n)
  same_words (suc d) zero class n m = absurd (false≢true m)
  same_words (suc d) (suc e) class n m = same_info d e (same_words d e) (slice_get classes class.0) n m

-- ---- what is noted

pub words_set : (classes : List ClassInfo) (counted : List ℕ) (class words : ℕ) → class < length counted → HasWords classes class words → AreCounted classes counted → AreCounted classes (set counted class words)
words_set classes counted class words less has noted c positive = here (cases_eq c class)
  where
    here : (c ≡ class) ⊎ (c ≡ class → ⊥) → HasWords classes c (get_or (set counted class words) c 0)
    here (inl same) = subst (λ k. HasWords classes k (get_or (set counted class words) k 0)) (sym same)
        (subst (λ n. HasWords classes class n) (sym (get_or-set_same counted class words 0 less)) has)
    here (inr other) = subst (λ n. HasWords classes c n) (sym (get_or-set_other counted class c words 0 other))
        (noted c (subst (λ n. 0 < n) (get_or-set_other counted class c words 0 other) positive))

pub none_counted : (classes : List ClassInfo) (count : ℕ) → AreCounted classes (replicate count 0)
none_counted classes count class positive = absurd (omega (arith, positive, zeros count class))
  where
    zeros : (count class : ℕ) → get_or (replicate {A = ℕ} count 0) class 0 ≡ 0
    zeros zero class = refl
    zeros (suc count) zero = refl
    zeros (suc count) (suc class) = zeros count class

pub known_words : (classes : List ClassInfo) (counted : List ℕ) (class : ClassId) (depth known : ℕ) → AreCounted classes counted → known ≡ get_or counted class.0 0 → 0 < known → nests_within depth classes class ≡ true → class_words_within depth classes class ≡ known
known_words classes counted class depth known noted is positive nests =
    noted class.0 (subst (λ n. 0 < n) is positive) depth nests ∙ sym is

-- ---- one class

pub new_nests : (depth : ℕ) (classes : List ClassInfo) (class : ClassId) (info : ClassInfo) → Some info ≡ slice_get classes class.0 → list_all (field_nests (λ c. nests_within depth classes c)) info.fields ≡ true → nests_within (depth + 1) classes class ≡ true
new_nests depth classes class info found fields =
    let e : depth + 1 ≡ suc depth = omega arith in
    ap (λ d. nests_within d classes class) e ∙ ap (info_nests (λ c. nests_within depth classes c)) (sym found) ∙ fields

pub new_words : (depth : ℕ) (classes : List ClassInfo) (class : ClassId) (info : ClassInfo) (fields : List FieldInfo) → Some info ≡ slice_get classes class.0 → fields ≡ info.fields → class_words_within (depth + 1) classes class ≡ at_least_one (fields_words (λ c. class_words_within depth classes c) fields)
new_words depth classes class info fields found same =
    let e : depth + 1 ≡ suc depth = omega arith in
    ap (λ d. class_words_within d classes class) e ∙ ap (info_words (λ c. class_words_within depth classes c)) (sym found)
    ∙ ap (λ l. at_least_one (fields_words (λ c. class_words_within depth classes c) l)) (sym same)

-- what the fields leave tells the words of the class
pub words_told : (depth left room : ℕ) (classes : List ClassInfo) (class : ClassId) (info : ClassInfo) (fields : List FieldInfo) → Some info ≡ slice_get classes class.0 → fields ≡ info.fields → list_all (field_nests (λ c. nests_within depth classes c)) info.fields ≡ true →
    left + at_least_one (fields_words (λ c. class_words_within depth classes c) fields) ≡ room → HasWords classes class.0 (room - left)
words_told depth left room classes class info fields found same nests told d n =
    let w : left + class_words_within (depth + 1) classes class ≡ room = ap (λ k. left + k) (new_words depth classes class info fields found same) ∙ told in
    let e : class_words_within (depth + 1) classes class ≡ room - left = omega (arith, w) in
    same_words classes d (depth + 1) class n (new_nests depth classes class info found nests) ∙ e

pub fields_nest : (depth : ℕ) (classes : List ClassInfo) (class : ClassId) (info : ClassInfo) → depth ≢ 0 → Some info ≡ slice_get classes class.0 → nests_within depth classes class ≡ true → list_all (field_nests (λ c. nests_within (depth - 1) classes c)) info.fields ≡ true
fields_nest zero classes class info some found nests = absurd (some refl)
fields_nest (suc d) classes class info some found nests =
    let e : suc d - 1 ≡ d = omega arith in
    ap (λ k. list_all (field_nests (λ c. nests_within k classes c)) info.fields) e ∙ ap (info_nests (λ c. nests_within d classes c)) found ∙ nests

pub one_deeper : (depth : ℕ) (classes : List ClassInfo) (class : ClassId) → depth ≢ 0 → class_words_within depth classes class ≡ class_words_within (depth - 1 + 1) classes class
one_deeper zero classes class some = absurd (some refl)
one_deeper (suc d) classes class some =
    let e : suc d ≡ suc d - 1 + 1 = omega arith in
    ap (λ k. class_words_within k classes class) e

-- ---- lists of fields and of classes

pub first_nests : (f : ClassId → Bool) (rest : List FieldInfo) (field : FieldInfo) → 1 ≤ length rest → field ≡ get_or rest 0 field → list_all (field_nests f) rest ≡ true → head_nests f (head_of field.of) ≡ true
first_nests f [] field some is nests = absurd (omega (arith, some))
first_nests f (y ∷ ys) field some is nests = ap (λ z. field_nests f z) is ∙ and_first (field_nests f y) (list_all (field_nests f) ys) nests

pub others_nest : (f : ClassId → Bool) (rest : List FieldInfo) → 1 ≤ length rest → list_all (field_nests f) rest ≡ true → list_all (field_nests f) (take (length rest - 1) (drop 1 rest)) ≡ true
others_nest f [] some nests = absurd (omega (arith, some))
others_nest f (y ∷ ys) some nests =
    let count : length (y ∷ ys) - 1 ≡ length ys = omega arith in
    let rest : take (length (y ∷ ys) - 1) ys ≡ ys = ap (λ k. take k ys) count ∙ take-length ys in
    ap (λ zs. list_all (field_nests f) zs) rest ∙ and_second (field_nests f y) (list_all (field_nests f) ys) nests

pub this_class : (test : ClassId → Bool) (k : ℕ) (classes : List ClassInfo) → k < length classes → each_class test k (drop k classes) ≡ true → test (record { 0 = k }) ≡ true
this_class test k classes less all =
    and_first (test (record { 0 = k })) (each_class test (k + 1) (drop (suc k) classes)) (sym (each_here test k k classes less) ∙ all)

pub later_classes : (test : ClassId → Bool) (k : ℕ) (classes : List ClassInfo) → k < length classes → each_class test k (drop k classes) ≡ true → each_class test (k + 1) (drop (k + 1) classes) ≡ true
later_classes test k classes less all =
    let e : k + 1 ≡ suc k = omega arith in
    ap (λ j. each_class test (k + 1) (drop j classes)) e
    ∙ and_second (test (record { 0 = k })) (each_class test (k + 1) (drop (suc k) classes)) (sym (each_here test k k classes less) ∙ all)
