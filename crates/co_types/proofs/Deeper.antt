-- How the specials of a class are found one step at a time.
use Rattle.std.specs.Prelude.{◌≡◌, ◌≢◌, ℕ, zero, suc, ◌-◌, ◌≤◌, length, take, drop, Bool, true, false, ◌&&◌, List, [], ◌∷◌, Some, slice_get}
use Rattle.std.proofs.Common.{refl, arith, ap, sym, get_or, ◌∙◌}
use Rattle.std.proofs.Math.Seq.{take-length}
use Rattle.co_base.specs.declared.ids.ClassId.{ClassId}
use Rattle.co_types.specs.declared.classes.ClassInfo.{ClassInfo}
use Rattle.co_types.specs.declared.classes.FieldInfo.{FieldInfo}
use Rattle.co_types.specs.declared.specials.Specials.{Specials}
use Rattle.co_types.specs.declared.specials.Allowed.{Allowed}
use Rattle.co_types.specs.Special.{all_allow, all_allowed, both, field_allows, in_class, special_within, with_fields}

-- one depth less for the fields
pub deeper : (depth : ℕ) (classes : List ClassInfo) (class : ClassId) → depth ≢ 0 → special_within depth classes class ≡ in_class (λ c. special_within (depth - 1) classes c) class (slice_get classes class.0)
deeper zero classes class h = absurd (h refl)
deeper (suc n) classes class h =
    let e : n ≡ suc n - 1 = omega arith in
    ap (λ m. in_class (λ c. special_within m classes c) class (slice_get classes class.0)) e

and_assoc : (a b c : Bool) → ((a && b) && c) ≡ (a && (b && c))
and_assoc true b c = refl
and_assoc false b c = refl

pub both_assoc : (a b c : Allowed) → both (both a b) c ≡ both a (both b c)
both_assoc a b c = let d = and_assoc a.can_default b.can_default c.can_default in
    let e = and_assoc a.can_copy b.can_copy c.can_copy in
    let f = and_assoc a.can_move b.can_move c.can_move in
    let g = and_assoc a.trivial_end b.trivial_end c.trivial_end in
    cc

and_true : (a : Bool) → (a && true) ≡ a
and_true true = refl
and_true false = refl

made : (p q r s p' q' r' s' : Bool) → p ≡ p' → q ≡ q' → r ≡ r' → s ≡ s' →
    both all_allowed (record { can_default = p; can_copy = q; can_move = r; trivial_end = s }) ≡ record { can_default = p'; can_copy = q'; can_move = r'; trivial_end = s' }
made p q r s p' q' r' s' d e f g = cc

pub both_all : (a : Allowed) → both a all_allowed ≡ a
both_all a =
    made (a.can_default && true) (a.can_copy && true) (a.can_move && true) (a.trivial_end && true) a.can_default a.can_copy a.can_move a.trivial_end
    (and_true a.can_default) (and_true a.can_copy) (and_true a.can_move) (and_true a.trivial_end)

pub both_first : (a : Allowed) → both all_allowed a ≡ a
both_first a = refl

pub found_step : (depth : ℕ) (classes : List ClassInfo) (class : ClassId) (info : ClassInfo) (fields : List FieldInfo) (allowed : Allowed) (result : Specials) →
    depth ≢ 0 → Some info ≡ slice_get classes class.0 → fields ≡ info.fields →
    allowed ≡ all_allow (λ c. special_within (depth - 1) classes c) fields → result ≡ with_fields class info allowed →
    result ≡ special_within depth classes class
found_step depth classes class info fields allowed result some found same allows is =
    is ∙ ap (λ a. with_fields class info a) (allows ∙ ap (λ fs. all_allow (λ c. special_within (depth - 1) classes c) fs) same)
    ∙ ap (λ o. in_class (λ c. special_within (depth - 1) classes c) class o) found ∙ sym (deeper depth classes class some)

pub allow_step : (f : ClassId → Specials) (rest : List FieldInfo) (x : FieldInfo) (allowed one new whole : Allowed) →
    1 ≤ length rest → x ≡ get_or rest 0 x → one ≡ field_allows f x → new ≡ both allowed one → both allowed (all_allow f rest) ≡ whole →
    both new (all_allow f (take (length rest - 1) (drop 1 rest))) ≡ whole
allow_step f [] x allowed one new whole some is e n h = absurd (omega (arith, some))
allow_step f (y ∷ ys) x allowed one new whole some is e n h =
    let count : length (y ∷ ys) - 1 ≡ length ys = omega arith in
    let rest : take (length (y ∷ ys) - 1) ys ≡ ys = ap (λ k. take k ys) count ∙ take-length ys in
    ap (λ zs. both new (all_allow f zs)) rest
    ∙ ap (λ a. both a (all_allow f ys)) (n ∙ ap (λ o. both allowed o) (e ∙ ap (λ z. field_allows f z) is))
    ∙ both_assoc allowed (field_allows f y) (all_allow f ys) ∙ h

pub ruleset both_steps = (both_assoc, both_all, both_first)
