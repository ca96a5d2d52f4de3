-- How deep objects lie, from the depths of the objects in their fields.
use Rattle.std.specs.Prelude.{◌≡◌, ◌<◌, ◌≤◌, ℕ, zero, suc, ◌+◌, ◌-◌, Bool, true, false, ◌&&◌, nat_le, List, [], ◌∷◌, length, take, drop, get_or, slice_get, Some}
use Rattle.std.specs.List.{list_all}
use Rattle.std.proofs.Common.{refl, ap, ◌∙◌, sym, set, subst, ◌⊎◌, inl, inr, replicate, arith}
use Rattle.std.proofs.Math.Dec.{leb-suc-zero, leb-suc-suc}
use Rattle.std.proofs.Math.Seq.{take-length}
use Rattle.std.proofs.lemmas.Bool.{cases_eq, cases_lt, leb-true, le-leb, lt-leb}
use Rattle.std.proofs.lemmas.List.{get_or-set_same, get_or-set_other}
use Rattle.co_types.specs.declared.classes.ClassInfo.{ClassInfo}
use Rattle.co_types.specs.declared.classes.FieldInfo.{FieldInfo}
use Rattle.co_types.specs.Types.{head_of}
use Rattle.co_core.specs.Counts.{field_nests, head_nests, info_nests, nests_within}
use Rattle.co_core_sizes.specs.Depths.{AreNoted, HasDepth, HeadHasDepth, FieldsHaveDepth}

pub class_deeper : (classes : List ClassInfo) (class depth : ℕ) (info : ClassInfo) → slice_get classes class ≡ Some info → FieldsHaveDepth classes info.fields depth → HasDepth classes class (suc depth)
class_deeper classes class depth info is fields zero = sym (leb-suc-zero depth)
class_deeper classes class depth info is fields (suc d) =
    ap (info_nests (λ c. nests_within d classes c)) is ∙ fields d ∙ sym (leb-suc-suc depth d)

pub class_too_deep : (classes : List ClassInfo) (class left : ℕ) (info : ClassInfo) → slice_get classes class ≡ Some info → list_all (field_nests (λ c. nests_within left classes c)) info.fields ≡ false → nests_within (suc left) classes (record { 0 = class }) ≡ false
class_too_deep classes class left info is none = ap (info_nests (λ c. nests_within left classes c)) is ∙ none

and_true : (b : Bool) → (b && true) ≡ b
and_true true = refl
and_true false = refl

and_false : (b : Bool) → (b && false) ≡ false
and_false true = refl
and_false false = refl

and_assoc : (a b c : Bool) → ((a && b) && c) ≡ (a && (b && c))
and_assoc true b c = refl
and_assoc false b c = refl

-- what is no less than the greater of two numbers is no less than both
pub is_second : (a b : ℕ) → a < b → (d : ℕ) → nat_le b d ≡ (nat_le a d && nat_le b d)
is_second a b less d = here (cases_lt d b)
  where
    here : (d < b) ⊎ (b ≤ d) → nat_le b d ≡ (nat_le a d && nat_le b d)
    here (inl y) = lt-leb b d y ∙ sym (ap (λ t. nat_le a d && t) (lt-leb b d y) ∙ and_false (nat_le a d))
    here (inr y) = sym (ap (λ t. t && nat_le b d) (le-leb a d (omega (arith, less, y))))

pub is_first : (a b : ℕ) → b ≤ a → (d : ℕ) → nat_le a d ≡ (nat_le a d && nat_le b d)
is_first a b less d = here (cases_lt d a)
  where
    here : (d < a) ⊎ (a ≤ d) → nat_le a d ≡ (nat_le a d && nat_le b d)
    here (inl y) = lt-leb a d y ∙ sym (ap (λ t. t && nat_le b d) (lt-leb a d y))
    here (inr y) = sym (ap (λ t. nat_le a d && t) (le-leb b d (omega (arith, less, y))) ∙ and_true (nat_le a d))

pub noted_set : (classes : List ClassInfo) (depths : List ℕ) (class depth : ℕ) → class < length depths → HasDepth classes class depth → AreNoted classes depths → AreNoted classes (set depths class depth)
noted_set classes depths class depth less has noted c positive = here (cases_eq c class)
  where
    here : (c ≡ class) ⊎ (c ≡ class → ⊥) → HasDepth classes c (get_or (set depths class depth) c 0)
    here (inl same) = subst (λ k. HasDepth classes k (get_or (set depths class depth) k 0)) (sym same)
        (subst (λ n. HasDepth classes class n) (sym (get_or-set_same depths class depth 0 less)) has)
    here (inr other) = subst (λ n. HasDepth classes c n) (sym (get_or-set_other depths class c depth 0 other))
        (noted c (subst (λ n. 0 < n) (get_or-set_other depths class c depth 0 other) positive))

module _ (classes : List ClassInfo) where
  abbrev fields_nest : ℕ → List FieldInfo → Bool
  fields_nest d fields = list_all (field_nests (λ c. nests_within d classes c)) fields

  -- one field more has been seen
  pub one_more : (deepest depth more : ℕ) (field : FieldInfo) (rest fields : List FieldInfo) → ((d : ℕ) → (nat_le deepest d && fields_nest d (field ∷ rest)) ≡ fields_nest d fields) → HeadHasDepth classes (head_of field.of) depth → ((d : ℕ) → nat_le more d ≡ (nat_le deepest d && nat_le depth d)) → (d : ℕ) → (nat_le more d && fields_nest d rest) ≡ fields_nest d fields
  one_more deepest depth more field rest fields seen has greater d =
      ap (λ b. b && fields_nest d rest) (greater d)
      ∙ and_assoc (nat_le deepest d) (nat_le depth d) (fields_nest d rest)
      ∙ ap (λ b. nat_le deepest d && (b && fields_nest d rest)) (sym (has d))
      ∙ seen d

  -- a field is too deep
  pub one_too_deep : (deepest left : ℕ) (field : FieldInfo) (rest fields : List FieldInfo) → ((d : ℕ) → (nat_le deepest d && fields_nest d (field ∷ rest)) ≡ fields_nest d fields) → head_nests (λ c. nests_within left classes c) (head_of field.of) ≡ false → fields_nest left fields ≡ false
  one_too_deep deepest left field rest fields seen none =
      sym (seen left) ∙ ap (λ b. nat_le deepest left && (b && fields_nest left rest)) none ∙ and_false (nat_le deepest left)

  -- a field of the rest of a list
  pub field_seen : (deepest depth more : ℕ) (field : FieldInfo) (rest fields : List FieldInfo) → 1 ≤ length rest → field ≡ get_or rest 0 field → ((d : ℕ) → (nat_le deepest d && fields_nest d rest) ≡ fields_nest d fields) → HeadHasDepth classes (head_of field.of) depth → ((d : ℕ) → nat_le more d ≡ (nat_le deepest d && nat_le depth d)) → (d : ℕ) → (nat_le more d && fields_nest d (take (length rest - 1) (drop 1 rest))) ≡ fields_nest d fields
  field_seen deepest depth more field [] fields some is seen has greater d = absurd (omega (arith, some))
  field_seen deepest depth more field (y ∷ ys) fields some is seen has greater d =
      let count : length (y ∷ ys) - 1 ≡ length ys = omega arith in
      let rest : take (length (y ∷ ys) - 1) ys ≡ ys = ap (λ k. take k ys) count ∙ take-length ys in
      ap (λ zs. nat_le more d && fields_nest d zs) rest
      ∙ one_more deepest depth more y ys fields seen (subst (λ f. HeadHasDepth classes (head_of f.of) depth) is has) greater d

pub greater_fits : (more deepest depth left : ℕ) → ((d : ℕ) → nat_le more d ≡ (nat_le deepest d && nat_le depth d)) → deepest ≤ left → depth ≤ left → more ≤ left
greater_fits more deepest depth left greater h k =
    leb-true more left (greater left ∙ ap (λ b. b && nat_le depth left) (le-leb deepest left h) ∙ le-leb depth left k)

-- where no depth is noted
pub fresh : (classes : List ClassInfo) (count : ℕ) → AreNoted classes (replicate count 0)
fresh classes count class positive = absurd (omega (arith, positive, zeros count class))
  where
    zeros : (count class : ℕ) → get_or (replicate {A = ℕ} count 0) class 0 ≡ 0
    zeros zero class = refl
    zeros (suc count) zero = refl
    zeros (suc count) (suc class) = zeros count class

-- what a walk over the fields finds of their class
pub info_deeper : (classes : List ClassInfo) (class depth : ℕ) (info : ClassInfo) (read : List FieldInfo) → slice_get classes class ≡ Some info → read ≡ info.fields → FieldsHaveDepth classes read depth → HasDepth classes class (depth + 1)
info_deeper classes class depth info read is same fields =
    let e : suc depth ≡ depth + 1 = omega arith in
    subst (λ n. HasDepth classes class n) e (class_deeper classes class depth info is (subst (λ l. FieldsHaveDepth classes l depth) same fields))

pub no_deeper : (a b : ℕ) → a ≤ b → a + 1 ≤ b + 1
no_deeper a b h = omega arith

pub noted_too_deep : (classes : List ClassInfo) (depths : List ℕ) (class left known : ℕ) → AreNoted classes depths → known ≡ get_or depths class 0 → 0 < known → left < known → nests_within left classes (record { 0 = class }) ≡ false
noted_too_deep classes depths class left known noted is positive less =
    noted class (subst (λ n. 0 < n) is positive) left ∙ ap (λ n. nat_le n left) (sym is) ∙ lt-leb known left less

pub nests_fit : (classes : List ClassInfo) (class depth left : ℕ) → HasDepth classes class depth → depth ≤ left → nests_within left classes (record { 0 = class }) ≡ true
nests_fit classes class depth left has fits = has left ∙ le-leb depth left fits
