-- The specials of a class don't change with the depth, from that on to which its objects lie in one another.
use Rattle.std.specs.Prelude.{◌≡◌, ℕ, zero, suc, ◌≤◌, Bool, List, [], ◌∷◌, length, Option, None, Some, slice_get}
use Rattle.std.proofs.Common.{refl, ap, arith, subst, sym, ◌∙◌}
use Rattle.co_base.specs.declared.ids.ClassId.{ClassId}
use Rattle.co_types.specs.declared.types.Head.{Head}
use Rattle.co_types.specs.declared.types.Head.TheVariants as head
use Rattle.co_types.specs.declared.classes.ClassInfo.{ClassInfo}
use Rattle.co_types.specs.declared.classes.FieldInfo.{FieldInfo}
use Rattle.co_types.specs.declared.specials.Specials.{Specials}
use Rattle.co_types.specs.Types.{head_of}
use Rattle.co_types.specs.Special.{all_allow, both, field_allows, head_allows, in_class, special, special_within, with_fields, InFields, IsNested, OfClass, OfFields}

one_field : (f g : ClassId → Specials) (P : ClassId → Type 0) → ((c : ClassId) → P c → f c ≡ g c) → (set : Bool) (h : Head) → OfClass P h → head_allows f set h ≡ head_allows g set h
one_field f g P same set (head.Class c) p = ap (λ s. head_allows (λ d. s) set (head.Class c)) (same c p)
one_field f g P same set h p = refl

all_fields : (f g : ClassId → Specials) (P : ClassId → Type 0) → ((c : ClassId) → P c → f c ≡ g c) → (fields : List FieldInfo) → OfFields P fields → all_allow f fields ≡ all_allow g fields
all_fields f g P same [] p = refl
all_fields f g P same (field ∷ fields) p =
    ap (λ a. both a (all_allow f fields)) (one_field f g P same field.initialized (head_of field.of) p.0)
    ∙ ap (λ a. both (field_allows g field) a) (all_fields f g P same fields p.1)

one_class : (f g : ClassId → Specials) (P : ClassId → Type 0) → ((c : ClassId) → P c → f c ≡ g c) → (class : ClassId) (o : Option ClassInfo) → InFields P o → in_class f class o ≡ in_class g class o
one_class f g P same class None p = refl
one_class f g P same class (Some info) p = ap (λ a. with_fields class info a) (all_fields f g P same info.fields p)

module _ (classes : List ClassInfo) where
  deep : (n m : ℕ) (class : ClassId) → n ≤ m → IsNested n classes class → special_within m classes class ≡ special_within n classes class
  deep zero m class le p = absurd p
  deep (suc n) zero class le p = absurd (omega (arith, le))
  deep (suc n) (suc m) class le p =
      let less : n ≤ m = omega (arith, le) in
      one_class (λ c. special_within m classes c) (λ c. special_within n classes c) (λ c. IsNested n classes c) (λ c q. deep n m c less q) class (slice_get classes class.0) p

  at_length : (n : ℕ) (class : ClassId) (info : ClassInfo) → IsNested n classes class → slice_get classes class.0 ≡ Some info →
      special_within n classes class ≡ with_fields class info (all_allow (λ c. special_within n classes c) info.fields)
  at_length zero class info p e = absurd p
  at_length (suc n) class info p e =
      ap (λ o. in_class (λ c. special_within n classes c) class o) e
      ∙ ap (λ a. with_fields class info a)
      (all_fields (λ c. special_within n classes c) (λ c. special_within (suc n) classes c) (λ c. IsNested n classes c) (λ c q. sym (deep n (suc n) c (omega arith) q)) info.fields
      (subst (λ o. InFields (λ c. IsNested n classes c) o) e p))

  pub recurs : (class : ClassId) (info : ClassInfo) → IsNested (length classes) classes class → slice_get classes class.0 ≡ Some info →
      special classes class ≡ with_fields class info (all_allow (λ c. special classes c) info.fields)
  recurs class info p e = at_length (length classes) class info p e
