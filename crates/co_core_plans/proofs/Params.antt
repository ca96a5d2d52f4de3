-- The parameters of functions that take and release storage.
use Rattle.std.specs.Prelude.{◌≡◌, ◌<◌, ◌≤◌, ◌==◌, Bool, false, true, ◌&&◌, List, [], ◌∷◌, length, Some}
use Rattle.std.proofs.Math.Dec.{eqb-suc-zero}
use Rattle.std.proofs.Common.{refl, ◌∙◌, ap, sym, arith, get_or}
use Rattle.co_base.specs.declared.ids.FuncId.{FuncId}
use Rattle.co_base.specs.declared.ids.SlotId.{SlotId}
use Rattle.co_core_tree.specs.declared.units.CoreFunc.{CoreFunc}
use Rattle.co_core_tree.specs.declared.units.UnitParts.{UnitParts}
use Rattle.co_core_typing.specs.Tables.{is_plain, param_types_of, slot_type, types_of}
use Rattle.co_core.specs.Plans.{callee, gives_address, is_address_type, is_size_type, takes_address_alone, takes_address_and_size, takes_nothing, takes_size_alone, takes_storage}

module _ (u : UnitParts) (func : CoreFunc) where
  pub size_alone : (params : List SlotId) (d : SlotId) (res : Bool) → 1 ≤ length params → length params < 2 → res ≡ is_size_type u (slot_type func (get_or params 0 d)) → res ≡ takes_size_alone u (types_of func params)
  size_alone [] d res some few made = absurd (omega (arith, some))
  size_alone (x ∷ []) d res some few made = made
  size_alone (x ∷ y ∷ params) d res some few made = absurd (omega (arith, few))

  pub size_of_many : (params : List SlotId) → 2 ≤ length params → false ≡ takes_size_alone u (types_of func params)
  size_of_many [] some = refl
  size_of_many (x ∷ []) some = absurd (omega (arith, some))
  size_of_many (x ∷ y ∷ params) some = refl

  pub address_alone : (params : List SlotId) (d : SlotId) (res : Bool) → 1 ≤ length params → length params < 2 → res ≡ is_address_type u (slot_type func (get_or params 0 d)) → res ≡ takes_address_alone u (types_of func params)
  address_alone [] d res some few made = absurd (omega (arith, some))
  address_alone (x ∷ []) d res some few made = made
  address_alone (x ∷ y ∷ params) d res some few made = absurd (omega (arith, few))

  pub address_of_many : (params : List SlotId) → 2 ≤ length params → false ≡ takes_address_alone u (types_of func params)
  address_of_many [] some = refl
  address_of_many (x ∷ []) some = absurd (omega (arith, some))
  address_of_many (x ∷ y ∷ params) some = refl

  pub both_fit : (params : List SlotId) (d e : SlotId) (a b : Bool) → 2 ≤ length params → length params < 3 → a ≡ is_address_type u (slot_type func (get_or params 0 d)) → a ≡ true → b ≡ is_size_type u (slot_type func (get_or params 1 e)) → b ≡ takes_address_and_size u (types_of func params)
  both_fit [] d e a b some few ma ta mb = absurd (omega (arith, some))
  both_fit (x ∷ []) d e a b some few ma ta mb = absurd (omega (arith, some))
  both_fit (x ∷ y ∷ []) d e a b some few ma ta mb = mb ∙ ap (λ c. c && is_size_type u (slot_type func y)) (sym ta ∙ ma)
  both_fit (x ∷ y ∷ z ∷ params) d e a b some few ma ta mb = absurd (omega (arith, few))

  pub one_misfits : (params : List SlotId) (d : SlotId) (a : Bool) → 2 ≤ length params → length params < 3 → a ≡ is_address_type u (slot_type func (get_or params 0 d)) → a ≡ false → a ≡ takes_address_and_size u (types_of func params)
  one_misfits [] d a some few ma ta = absurd (omega (arith, some))
  one_misfits (x ∷ []) d a some few ma ta = absurd (omega (arith, some))
  one_misfits (x ∷ y ∷ []) d a some few ma ta = ta ∙ ap (λ c. c && is_size_type u (slot_type func y)) (sym ta ∙ ma)
  one_misfits (x ∷ y ∷ z ∷ params) d a some few ma ta = absurd (omega (arith, few))

  pub both_of_few : (params : List SlotId) → length params < 2 → false ≡ takes_address_and_size u (types_of func params)
  both_of_few [] few = refl
  both_of_few (x ∷ []) few = refl
  both_of_few (x ∷ y ∷ params) few = absurd (omega (arith, few))

  pub both_of_many : (params : List SlotId) → 3 ≤ length params → false ≡ takes_address_and_size u (types_of func params)
  both_of_many [] some = refl
  both_of_many (x ∷ []) some = refl
  both_of_many (x ∷ y ∷ []) some = absurd (omega (arith, some))
  both_of_many (x ∷ y ∷ z ∷ params) some = refl

-- a function that takes storage, where it is there
pub alone_found : (unit : UnitParts) (f : FuncId) (func : CoreFunc) → callee unit f ≡ Some func → takes_storage unit true f ≡ (is_plain (Some func) && (is_address_type unit func.result && takes_size_alone unit (types_of func func.params)))
alone_found unit f func e = ap (λ o. is_plain o && (gives_address unit o && takes_size_alone unit (param_types_of o))) e

pub all_three : (p q r p' q' r' : Bool) → p ≡ p' → q ≡ q' → r ≡ r' → p ≡ true → q ≡ true → r ≡ (p' && (q' && r'))
all_three p q r p' q' r' ep eq er tp tq = er ∙ ap (λ b. b && r') (sym tq ∙ eq) ∙ ap (λ b. b && (q' && r')) (sym tp ∙ ep)

pub second_fails : (p q p' q' r' : Bool) → p ≡ p' → q ≡ q' → p ≡ true → q ≡ false → q ≡ (p' && (q' && r'))
second_fails p q p' q' r' ep eq tp tq = tq ∙ ap (λ b. b && r') (sym tq ∙ eq) ∙ ap (λ b. b && (q' && r')) (sym tp ∙ ep)

pub some_taken : (u : UnitParts) (func : CoreFunc) (params' params : List SlotId) (empty b : Bool) → params' ≡ params → empty ≡ (length params' == 0) → empty ≡ false → empty ≡ (takes_nothing u (types_of func params) && b)
some_taken u func params' params empty b e m f = f ∙ ap (λ c. c && b) (sym f ∙ m ∙ ap (λ l. length l == 0) e ∙ by_params params)
  where
    by_params : (l : List SlotId) → (length l == 0) ≡ takes_nothing u (types_of func l)
    by_params [] = refl
    by_params (x ∷ l) = eqb-suc-zero (length l)
