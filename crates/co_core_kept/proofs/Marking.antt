-- A slot below 4,096 is marked exactly where it holds an awaiter.
use Rattle.std.specs.Prelude.{◌≡◌, ℕ, zero, suc, ◌<◌, Bool, true, false, ◌&&◌, ◌||◌, nat_lt, if◌then◌else◌, List, [], ◌∷◌, fold, length, get_or, set, replicate, slice_set, Option, Some}
use Rattle.std.proofs.Common.{refl, sym, ap, ◌∙◌, arith, inl, inr}
use Rattle.std.proofs.lemmas.Bool.{and_from, and_right, cases_Bool, cases_eq, eq-eqb, lt-ltb, ltb-false, ltb-true, ne_eqb}
use Rattle.std.proofs.lemmas.List.{get_or-set_other, get_or-set_same, length-set}
use Rattle.std.proofs.lemmas.List.Folds.{list_any-append}
use Rattle.std.proofs.lemmas.List.Sums.{fold-append}
use Rattle.co_base.specs.declared.ids.SlotId.{SlotId}
use Rattle.co_core_tree.specs.declared.exprs.CoreExpr.{CoreExpr, end_of-AwaitPlan, more_of-AwaitPlan}
use Rattle.co_core_tree.specs.declared.exprs.CoreExpr.TheVariants as expr
use Rattle.co_core_tree.specs.declared.exprs.CoreExpr.TheBlock.{shape-the_row-AwaitPlan-3, hidden-the_row-AwaitPlan-3, shown-the_row-AwaitPlan-3}
use Rattle.co_core_tree.specs.declared.exprs.AwaitPlan.{AwaitPlan}
use Rattle.co_core_tree.specs.declared.units.CoreFunc.{CoreFunc}
use Rattle.co_core_tree.specs.declared.units.PromisePlan.{PromisePlan}
use Rattle.co_core_tree.specs.declared.units.UnitParts.{UnitParts}
use Rattle.co_core_tree.specs.Acts.{Act, Does, Keeps, Passes, Starts}
use Rattle.co_core_tree.specs.Slots.{is_held, slot_at}
use Rattle.co_core.specs.Bodies.{func_acts}
use Rattle.co_core.specs.Counts.{expr_holder, func_holders, holders, plan_holders}
use Rattle.co_core.specs.Scopes.{holder_of, member, same_slot}
use Rattle.co_core_acts.specs.Visits.{back}
use Rattle.co_core_kept.specs.declared.holders.Holders.{Holders}
use Rattle.co_core_kept.specs.Marked.{expr_marked, has_mark, marked_after, with_mark}

-- ---- one mark

or_false : (b : Bool) → (b || false) ≡ b
or_false true = refl
or_false false = refl

or_assoc : (a b c : Bool) → ((a || b) || c) ≡ (a || (b || c))
or_assoc true b c = refl
or_assoc false b c = refl

or_middle : (a b c : Bool) → (b || (a || c)) ≡ ((a || b) || c)
or_middle true true c = refl
or_middle true false c = refl
or_middle false b c = refl

abbrev slot_of : ℕ → SlotId
slot_of k = record { 0 = k }

abbrev set_now : Holders → SlotId → Holders
set_now s x = record { marked = slice_set s.marked x.0 true }

abbrev mark_if : Bool → Holders → SlotId → Holders
mark_if b s x = if b then set_now s x else s

set_at : (s : Holders) (x : SlotId) (k : ℕ) → x.0 < length s.marked → k < 4096 → has_mark (set_now s x) k ≡ (same_slot (slot_of k) x || has_mark s k)
set_at s x k within below =
    elim (cases_eq k x.0) as (λ z. has_mark (set_now s x) k ≡ (same_slot (slot_of k) x || has_mark s k)) [
      | inl e ↦
          let g : get_or (set s.marked x.0 true) k false ≡ true = ap (λ j. get_or (set s.marked x.0 true) j false) e ∙ get_or-set_same s.marked x.0 true false within in
          and_from (nat_lt k 4096) (get_or (set s.marked x.0 true) k false) (lt-ltb k 4096 below) g ∙ sym (ap (λ b. b || has_mark s k) (eq-eqb k x.0 e))
      | inr n ↦ ap (λ b. nat_lt k 4096 && b) (get_or-set_other s.marked x.0 k true false n) ∙ sym (ap (λ b. b || has_mark s k) (ne_eqb k x.0 n))
    ]

mark_at : (s : Holders) (x : SlotId) (k : ℕ) → length s.marked ≡ 4096 → k < 4096 → has_mark (with_mark s x) k ≡ (same_slot (slot_of k) x || has_mark s k)
mark_at s x k size below =
    elim (cases_Bool (nat_lt x.0 4096)) as (λ z. has_mark (with_mark s x) k ≡ (same_slot (slot_of k) x || has_mark s k)) [
      | inl e ↦
          let h = ltb-true x.0 4096 e in
          ap (λ b. has_mark (mark_if b s x) k) e ∙ set_at s x k (omega (arith, h, size)) below
      | inr e ↦
          let h = ltb-false x.0 4096 e in
          ap (λ b. has_mark (mark_if b s x) k) e ∙ sym (ap (λ b. b || has_mark s k) (ne_eqb k x.0 (λ q. omega (arith, h, below, q))))
    ]

size_if : (b : Bool) (s : Holders) (x : SlotId) → length (mark_if b s x).marked ≡ length s.marked
size_if true s x = length-set s.marked x.0 true
size_if false s x = refl

mark_size : (s : Holders) (x : SlotId) → length (with_mark s x).marked ≡ length s.marked
mark_size s x = size_if (nat_lt x.0 4096) s x

-- ---- marks of a list

pub list_marked : (s : Holders) (xs : List SlotId) (k : ℕ) → length s.marked ≡ 4096 → k < 4096 → has_mark (fold with_mark s xs) k ≡ (member (slot_of k) xs || has_mark s k)
list_marked s [] k size below = refl
list_marked s (x ∷ xs) k size below =
    list_marked (with_mark s x) xs k (mark_size s x ∙ size) below
    ∙ ap (λ b. member (slot_of k) xs || b) (mark_at s x k size below)
    ∙ or_middle (same_slot (slot_of k) x) (member (slot_of k) xs) (has_mark s k)

-- ---- marks of acts

module _ (unit : UnitParts) (func : CoreFunc) where
  expr_size : (s : Holders) (e : CoreExpr) → length (expr_marked s e).marked ≡ length s.marked
  expr_size s (expr.Await' n (more_of-AwaitPlan operand holder ready suspend answer resume point span end_of-AwaitPlan)) = mark_size s holder
  expr_size s e = refl

  act_size : (s : Holders) (a : Act) → length (marked_after s a).marked ≡ length s.marked
  act_size s (Does c e) = expr_size s e
  act_size s (Passes e) = refl
  act_size s (Starts i) = refl
  act_size s (Keeps part) = refl

  acts_size : (s : Holders) (acts : List Act) → length (back marked_after s acts).marked ≡ length s.marked
  acts_size s [] = refl
  acts_size s (a ∷ acts) = act_size (back marked_after s acts) a ∙ acts_size s acts

  expr_at : (s : Holders) (e : CoreExpr) (k : ℕ) → length s.marked ≡ 4096 → k < 4096 → has_mark (expr_marked s e) k ≡ (member (slot_of k) (expr_holder unit func e) || has_mark s k)
  expr_at s (expr.Await' n (more_of-AwaitPlan operand holder ready suspend answer resume point span end_of-AwaitPlan)) k size below =
      mark_at s holder k size below ∙ sym (ap (λ b. b || has_mark s k) (or_false (same_slot (slot_of k) holder)))
  expr_at s e k size below = refl

  acts_marked : (s : Holders) (acts : List Act) (k : ℕ) → length s.marked ≡ 4096 → k < 4096 → has_mark (back marked_after s acts) k ≡ (member (slot_of k) (holders unit func acts) || has_mark s k)
  acts_marked s [] k size below = refl
  acts_marked s (Does c e ∷ acts) k size below =
      expr_at (back marked_after s acts) e k (acts_size s acts ∙ size) below
      ∙ ap (λ b. member (slot_of k) (expr_holder unit func e) || b) (acts_marked s acts k size below)
      ∙ sym (or_assoc (member (slot_of k) (expr_holder unit func e)) (member (slot_of k) (holders unit func acts)) (has_mark s k))
      ∙ sym (ap (λ b. b || has_mark s k) (list_any-append (same_slot (slot_of k)) (expr_holder unit func e) (holders unit func acts)))
  acts_marked s (Passes e ∷ acts) k size below = acts_marked s acts k size below
  acts_marked s (Starts i ∷ acts) k size below = acts_marked s acts k size below
  acts_marked s (Keeps part ∷ acts) k size below = acts_marked s acts k size below

  -- the marks of a function's awaits, where there were none before
  pub func_marks : (s t u : Holders) (k : ℕ) → length s.marked ≡ 4096 → has_mark s k ≡ false → t ≡ back marked_after s (func_acts unit.funcs func) → u ≡ fold with_mark t (plan_holders unit func func.plan) → k < 4096 → has_mark u k ≡ member (slot_of k) (func_holders unit func)
  func_marks s t u k size none visited planned below =
      let acts = func_acts unit.funcs func in
      let plan = plan_holders unit func func.plan in
      let own = holders unit func acts in
      ap (λ v. has_mark v k) planned
      ∙ list_marked t plan k (ap (λ v. length v.marked) visited ∙ acts_size s acts ∙ size) below
      ∙ ap (λ v. member (slot_of k) plan || has_mark v k) visited
      ∙ ap (λ b. member (slot_of k) plan || b) (acts_marked s acts k size below ∙ ap (λ b. member (slot_of k) own || b) none ∙ or_false (member (slot_of k) own))
      ∙ sym (list_any-append (same_slot (slot_of k)) plan own)

  -- ---- the holders of a plan

  pub plan_marked : (s t u : Holders) (whole : Option PromisePlan) (plan : PromisePlan) → whole ≡ Some plan → t ≡ fold with_mark s (holder_of func plan.initial) → u ≡ fold with_mark t (holder_of func plan.last) → u ≡ fold with_mark s (plan_holders unit func whole)
  plan_marked s t u whole plan is first second =
      second ∙ ap (λ v. fold with_mark v (holder_of func plan.last)) first
      ∙ sym (fold-append with_mark s (holder_of func plan.initial) (holder_of func plan.last))
      ∙ sym (ap (λ p. fold with_mark s (plan_holders unit func p)) is)

pub holder_yes : (func : CoreFunc) (plan : AwaitPlan) → is_held (slot_at func plan.holder) ≡ true → holder_of func plan ≡ plan.holder ∷ []
holder_yes func plan e = rw e refl

pub holder_no : (func : CoreFunc) (plan : AwaitPlan) → is_held (slot_at func plan.holder) ≡ false → holder_of func plan ≡ []
holder_no func plan e = rw e refl

none_in : (n k : ℕ) → get_or (replicate n false) k false ≡ false
none_in zero k = refl
none_in (suc n) zero = refl
none_in (suc n) (suc k) = none_in n k

pub none_marked : (n k : ℕ) → (nat_lt k 4096 && get_or (replicate n false) k false) ≡ false
none_marked n k = and_right (nat_lt k 4096) (get_or (replicate n false) k false) (none_in n k)

-- ---- the act of an await

marked_await : (s : Holders) (plan : AwaitPlan) → expr_marked s (expr.Await plan) ≡ with_mark s plan.holder
unfolding shape-the_row-AwaitPlan-3 hidden-the_row-AwaitPlan-3 shown-the_row-AwaitPlan-3 denote.Hole.Carrier.hidden
marked_await s plan = refl

pub await_marked : (s t : Holders) (whole : CoreExpr) (plan plan' : AwaitPlan) → whole ≡ expr.Await plan → plan' ≡ plan → t ≡ with_mark s plan'.holder → t ≡ expr_marked s whole
await_marked s t whole plan plan' is e h = h ∙ ap (λ (p : AwaitPlan). with_mark s p.holder) e ∙ sym (ap (expr_marked s) is ∙ marked_await s plan)
