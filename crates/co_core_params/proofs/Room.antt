-- The slots that are listed are below 4,096 where each is in its table, and then the rules are those of a valid unit.
use Rattle.std.specs.Prelude.{◌≡◌, ℕ, ◌<◌, ◌≤◌, ◌==◌, nat_le, ◌+◌, Bool, true, false, ◌&&◌, ◌||◌, cond, List, [], ◌∷◌, count_by, length, Option, None, Some}
use Rattle.std.specs.List.{list_all, list_any}
use Rattle.std.proofs.Common.{refl, sym, ap, ◌∙◌, arith, drop, inl, inr}
use Rattle.std.proofs.lemmas.Bool.{and_from, and_parts, cases_Bool, false≢true, lt-ltb, leb-true}
use Rattle.std.proofs.lemmas.Option.{slice_get_cases}
use Rattle.std.proofs.lemmas.List.{drop_more}
use Rattle.std.proofs.lemmas.List.Sums.{sum_by-cons}
use lib.Dec.{eqb-suc-zero}
use Rattle.co_base.specs.declared.ids.ClassId.{ClassId}
use Rattle.co_base.specs.declared.ids.SlotId.{SlotId}
use Rattle.co_types.specs.Types.{same_type}
use Rattle.co_core_tree.specs.declared.kinds.SlotKind.{SlotKind}
use Rattle.co_core_tree.specs.declared.units.SlotInfo.{SlotInfo}
use Rattle.co_core_tree.specs.declared.units.CopyPlan.{CopyPlan}
use Rattle.co_core_tree.specs.declared.units.PromisePlan.{PromisePlan}
use Rattle.co_core_tree.specs.declared.units.CoreFunc.{CoreFunc}
use Rattle.co_core_tree.specs.declared.units.UnitParts.{UnitParts}
use Rattle.co_core_tree.specs.Slots.{slot_at}
use Rattle.co_core_typing.specs.Tables.{slot_type}
use Rattle.co_core.specs.Counts.{counts_fit, slots_fit, sum_points}
use Rattle.co_core.specs.Plans as spec
use Rattle.co_core.specs.Plans.{copies_params, copies_to, count_kind, has_promise, is_param_slot}
use Rattle.co_core.specs.Scopes.{distinct, is_copy, is_param, is_promise, slot_is}
use Rattle.co_core_params.specs.Marked.{differ, is_small}
use Rattle.co_core_params.specs.Limited as limited
use Rattle.co_core_params.specs.Limited.{each_copies, is_promise_of}
use Rattle.co_core_params.proofs.Loops.{all_dropped}

-- ---- slots of a kind

pub counts : (test : SlotKind → Bool) (slots : List SlotInfo) → count_by (λ (slot : SlotInfo). test slot.kind) slots ≡ count_kind test slots
counts test [] = refl
counts test (slot ∷ slots) = sum_by-cons (λ (s : SlotInfo). cond (test s.kind) 1 0) slot slots ∙ ap (λ n. cond (test slot.kind) 1 0 + n) (counts test slots) ∙ first
  where
    first : (cond (test slot.kind) 1 0 + count_kind test slots) ≡ count_kind test (slot ∷ slots)
    first =
        elim (cases_Bool (test slot.kind)) as (λ z. (cond (test slot.kind) 1 0 + count_kind test slots) ≡ count_kind test (slot ∷ slots)) [
          | inl e ↦ rw e refl
          | inr e ↦ rw e refl
        ]

pub kind_count : (test : SlotKind → Bool) (slots' slots : List SlotInfo) (n : ℕ) → n ≡ count_by (λ (slot : SlotInfo). test slot.kind) slots' → slots' ≡ slots → n ≡ count_kind test slots
kind_count test slots' slots n counted is = counted ∙ counts test slots' ∙ ap (count_kind test) is

promised_from : (func : CoreFunc) (class : ClassId) (slots : List SlotInfo) → list_any (is_promise_of class) slots ≡ has_promise func class slots
promised_from func class [] = refl
promised_from func class (slot ∷ slots) = ap (λ b. is_promise_of class slot || b) (promised_from func class slots)

pub promised : (func : CoreFunc) (class : ClassId) (slots' slots : List SlotInfo) (b : Bool) → b ≡ list_any (is_promise_of class) slots' → slots' ≡ slots → b ≡ has_promise func class slots
promised func class slots' slots b made is = made ∙ promised_from func class slots' ∙ ap (has_promise func class) is

pub as_many : {X : Type 0} (test : SlotKind → Bool) (xs' xs : List X) (slots : List SlotInfo) (n : ℕ) → xs' ≡ xs → n ≡ count_kind test slots → (length xs' == n) ≡ (length xs == count_kind test slots)
as_many test xs' xs slots n is counted = ap (λ l. length l == n) is ∙ ap (λ m. length xs == m) counted

-- ---- one test after the other

pub all_three : (p q r p' q' r' : Bool) → p ≡ p' → q ≡ q' → r ≡ r' → p ≡ true → q ≡ true → r ≡ (p' && (q' && r'))
all_three p q r p' q' r' ep eq er tp tq = er ∙ ap (λ b. b && r') (sym tq ∙ eq) ∙ ap (λ b. b && (q' && r')) (sym tp ∙ ep)

pub second_fails : (p q p' q' r' : Bool) → p ≡ p' → q ≡ q' → p ≡ true → q ≡ false → q ≡ (p' && (q' && r'))
second_fails p q p' q' r' ep eq tp fq = fq ∙ ap (λ b. b && r') (sym fq ∙ eq) ∙ ap (λ b. b && (q' && r')) (sym tp ∙ ep)

pub both_hold : (p q p' q' : Bool) → p ≡ p' → q ≡ q' → p ≡ true → q ≡ (p' && q')
both_hold p q p' q' ep eq tp = eq ∙ ap (λ b. b && q') (sym tp ∙ ep)

pub first_fails : (p p' q' : Bool) → p ≡ p' → p ≡ false → p ≡ (p' && q')
first_fails p p' q' ep fp = fp ∙ ap (λ b. b && q') (sym fp ∙ ep)

-- ---- copies of parameters

nested : (s k t l : Bool) → ((s && (k && t)) && l) ≡ (s && (k && (t && l)))
nested false k t l = refl
nested true false t l = refl
nested true true t l = refl

copied : (func : CoreFunc) (params : List SlotId) (copies : List CopyPlan) → each_copies func params copies ≡ copies_params func params copies
copied func [] [] = refl
copied func [] (copy ∷ copies) = refl
copied func (param ∷ params) [] = refl
copied func (param ∷ params) (copy ∷ copies) =
    let kind = slot_is is_copy (slot_at func copy.to) in
    let typed = same_type (slot_type func copy.to) (slot_type func param) in
    nested (copy.from.0 == param.0) kind typed (each_copies func params copies) ∙ ap (λ b. (copy.from.0 == param.0) && (kind && (typed && b))) (copied func params copies)

-- a loop over copies, where no parameter is left, and where it has ended
pub none_left : (func : CoreFunc) (rest : List SlotId) (copies : List CopyPlan) (k : ℕ) (d : CopyPlan) (whole : Bool) → k < length copies → length rest < 1 → each_copies func rest (drop k copies) ≡ whole → false ≡ whole
none_left func [] copies k d whole less none keeps = sym (ap (each_copies func []) (drop_more copies k d less)) ∙ keeps
none_left func (param ∷ rest) copies k d whole less none keeps = absurd (omega (arith, none))

pub all_done : (func : CoreFunc) (rest : List SlotId) (copies : List CopyPlan) (k : ℕ) (whole res : Bool) → length copies ≤ k → res ≡ (length rest == 0) → each_copies func rest (drop k copies) ≡ whole → res ≡ whole
all_done func [] copies k whole res less made keeps = made ∙ sym (ap (each_copies func []) (all_dropped k copies less)) ∙ keeps
all_done func (param ∷ rest) copies k whole res less made keeps = made ∙ eqb-suc-zero (length rest) ∙ sym (ap (each_copies func (param ∷ rest)) (all_dropped k copies less)) ∙ keeps

-- ---- room for the slots

without : (a s d c : Bool) → (a ≡ true → s ≡ true) → (a && ((s && d) && c)) ≡ (a && (d && c))
without true s d c h = ap (λ b. (b && d) && c) (h refl)
without false s d c h = refl

regroup : (a1 a2 b1 b2 b3 c : Bool) → ((a1 && a2) && ((b1 && (b2 && b3)) && c)) ≡ (a1 && (a2 && (b1 && (b2 && (b3 && c)))))
regroup false a2 b1 b2 b3 c = refl
regroup true false b1 b2 b3 c = refl
regroup true true false b2 b3 c = refl
regroup true true true false b3 c = refl
regroup true true true true b3 c = refl

module _ (func : CoreFunc) (fits : length func.slots ≤ 4096) where
  in_table : (slot : SlotId) (test : SlotKind → Bool) → slot_is test (slot_at func slot) ≡ true → is_small slot ≡ true
  in_table slot test holds =
      elim ((slice_get_cases func.slots slot.0).1) as (λ z. is_small slot ≡ true) [
        | inl w ↦ let l : slot.0 < length func.slots = w.1 in lt-ltb slot.0 4096 (omega arith)
        | inr p ↦ absurd (false≢true (sym (ap (slot_is test) p.1) ∙ holds))
      ]

  params_small : (params : List SlotId) → list_all (is_param_slot func) params ≡ true → list_all is_small params ≡ true
  params_small [] h = refl
  params_small (param ∷ params) h =
      let p = and_parts (is_param_slot func param) (list_all (is_param_slot func) params) h in
      and_from (is_small param) (list_all is_small params) (in_table param is_param p.0) (params_small params p.1)

  copies_small : (params : List SlotId) (copies : List CopyPlan) → copies_params func params copies ≡ true → list_all is_small (copies_to func copies) ≡ true
  copies_small [] [] h = refl
  copies_small [] (copy ∷ copies) h = absurd (false≢true h)
  copies_small (param ∷ params) [] h = absurd (false≢true h)
  copies_small (param ∷ params) (copy ∷ copies) h =
      let kind = slot_is is_copy (slot_at func copy.to) in
      let typed = same_type (slot_type func copy.to) (slot_type func param) in
      let rest = copies_params func params copies in
      let p = and_parts (copy.from.0 == param.0) (kind && (typed && rest)) h in
      let q = and_parts kind (typed && rest) p.1 in
      let r = and_parts typed rest q.1 in
      and_from (is_small copy.to) (list_all is_small (copies_to func copies)) (in_table copy.to is_copy q.0) (copies_small params copies r.1)

  lists_is : limited.lists_params func ≡ spec.lists_params func
  lists_is = without (list_all (is_param_slot func) func.params) (list_all is_small func.params) (distinct func.params) (length func.params == count_kind is_param func.slots) (params_small func.params)

  copies_is : (plan : PromisePlan) → limited.has_copies func plan ≡ (copies_params func func.params plan.copies && (distinct (copies_to func plan.copies) && (length plan.copies == count_kind is_copy func.slots)))
  copies_is plan =
      ap (λ b. b && (differ (copies_to func plan.copies) && (length plan.copies == count_kind is_copy func.slots))) (copied func func.params plan.copies)
      ∙ without (copies_params func func.params plan.copies) (list_all is_small (copies_to func plan.copies)) (distinct (copies_to func plan.copies)) (length plan.copies == count_kind is_copy func.slots) (copies_small func.params plan.copies)

  plan_is : (funcs : List CoreFunc) (plan : Option PromisePlan) → limited.plan_params funcs func plan ≡ spec.plan_params funcs func plan
  plan_is funcs None = refl
  plan_is funcs (Some plan) =
      ap (λ b. limited.has_one_promise func plan.promise && (b && limited.names_copies funcs func plan)) (copies_is plan)
      ∙ regroup (count_kind is_promise func.slots == 1) (has_promise func plan.promise func.slots) (copies_params func func.params plan.copies) (distinct (copies_to func plan.copies)) (length plan.copies == count_kind is_copy func.slots) (limited.names_copies funcs func plan)

  func_is : (funcs : List CoreFunc) → limited.func_params funcs func ≡ spec.func_params funcs func
  func_is funcs = ap (λ b. b && limited.plan_params funcs func func.plan) lists_is ∙ ap (λ b. spec.lists_params func && b) (plan_is funcs func.plan)

each_is : (funcs some : List CoreFunc) → list_all slots_fit some ≡ true → list_all (limited.func_params funcs) some ≡ list_all (spec.func_params funcs) some
each_is funcs [] h = refl
each_is funcs (func ∷ some) h =
    let p = and_parts (slots_fit func) (list_all slots_fit some) h in
    ap (λ b. b && list_all (limited.func_params funcs) some) (func_is func (leb-true (length func.slots) 4096 p.0) funcs) ∙ ap (λ b. spec.func_params funcs func && b) (each_is funcs some p.1)

pub all_listed : (unit : UnitParts) → counts_fit unit ≡ true → list_all (limited.func_params unit.funcs) unit.funcs ≡ spec.params_listed unit
all_listed unit h =
    let points = nat_le (sum_points unit.funcs unit.funcs) 65535 in
    let p = and_parts (nat_le (length unit.globals) 1024) (points && list_all slots_fit unit.funcs) h in
    each_is unit.funcs unit.funcs ((and_parts points (list_all slots_fit unit.funcs) p.1).1)
