-- Which parameters are objects of classes, from a number on.
use Rattle.std.specs.Prelude.{◌≡◌, ◌≤◌, ℕ, zero, suc, Bool, false, List, [], ◌∷◌, length, drop, Option, None, Some, slice_get}
use Rattle.std.proofs.Common.{refl, ap, ◌∙◌, sym}
use Rattle.std.proofs.lemmas.List.{drop_all}
use Rattle.co_base.specs.declared.ids.FuncId.{FuncId}
use Rattle.co_base.specs.declared.ids.SlotId.{SlotId}
use Rattle.co_core_tree.specs.Acts.{first, others}
use Rattle.co_core_tree.specs.Slots.{class_params, class_params_of, class_slots, holds_class, slot_at}
use Rattle.co_core_tree.specs.declared.units.CoreFunc.{CoreFunc}
use Rattle.co_meaning_calls.specs.Calls.{without}

pub all_dropped : {A : Type 0} (xs : List A) (n : ℕ) → length xs ≤ n → [] ≡ drop n xs
all_dropped xs n past = sym (drop_all n xs past)

none_without : (n : ℕ) → without n [] ≡ []
none_without zero = refl
none_without (suc n) = refl

none_dropped : {A : Type 0} (n : ℕ) → drop {A = A} n [] ≡ []
none_dropped zero = refl
none_dropped (suc n) = refl

first_dropped : (k n : ℕ) → first (drop k (without n [])) ≡ false
first_dropped k n = ap (λ l. first (drop k l)) (none_without n) ∙ ap first (none_dropped k)

abbrev holds_at : CoreFunc → Option SlotId → Bool
holds_at func None = false
holds_at func (Some slot) = holds_class (slot_at func slot)

flag_first : (func : CoreFunc) (slots : List SlotId) (k : ℕ) → first (drop k (class_slots func slots)) ≡ holds_at func (slice_get slots k)
flag_first func [] zero = refl
flag_first func [] (suc k) = refl
flag_first func (slot ∷ slots) zero = refl
flag_first func (slot ∷ slots) (suc k) = flag_first func slots k

-- the flag of the parameter that is so many after the first ones
pub flag_at : (func : CoreFunc) (slots : List SlotId) (n k : ℕ) → first (drop k (without n (class_slots func slots))) ≡ holds_at func (slice_get (drop n slots) k)
flag_at func slots zero k = flag_first func slots k
flag_at func [] (suc n) zero = refl
flag_at func [] (suc n) (suc k) = refl
flag_at func (slot ∷ slots) (suc n) k = flag_at func slots n k

pub flag_some : (func : CoreFunc) (slots : List SlotId) (n k : ℕ) (slot : SlotId) (b : Bool) → Some slot ≡ slice_get (drop n slots) k → b ≡ holds_class (slot_at func slot) → b ≡ first (drop k (without n (class_slots func slots)))
flag_some func slots n k slot b is e = e ∙ ap (holds_at func) is ∙ sym (flag_at func slots n k)

pub flag_none : (func : CoreFunc) (slots : List SlotId) (n k : ℕ) → None ≡ slice_get (drop n slots) k → false ≡ first (drop k (without n (class_slots func slots)))
flag_none func slots n k is = ap (holds_at func) is ∙ sym (flag_at func slots n k)

pub no_flag : (funcs : List CoreFunc) (f : FuncId) (n k : ℕ) → None ≡ slice_get funcs f.0 → false ≡ first (drop k (without n (class_params funcs f)))
no_flag funcs f n k is = sym (first_dropped k n) ∙ ap (λ func. first (drop k (without n (class_params_of func)))) is

pub others_more : (k : ℕ) (flags : List Bool) → others (drop k flags) ≡ drop (suc k) flags
others_more zero [] = refl
others_more zero (flag ∷ flags) = refl
others_more (suc k) [] = refl
others_more (suc k) (flag ∷ flags) = others_more k flags
