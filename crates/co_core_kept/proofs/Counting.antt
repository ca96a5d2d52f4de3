-- The marks of a function are counted down to none where they are those of its temporaries.
use Rattle.std.specs.Prelude.{◌≡◌, ℕ, ◌+◌, ◌-◌, ◌≤◌, Bool, true, false, ◌&&◌, ◌==◌, nat_le, nat_lt, List, [], ◌∷◌, length}
use Rattle.std.proofs.Common.{refl, sym, ap, ◌∙◌, drop, arith, inl, inr}
use Rattle.std.proofs.lemmas.Bool.{and_from, and_right, cases_Bool, eq-eqb, le-leb, le-ltb, leb-false, leb-true, lt-ltb, ne_eqb}
use Rattle.std.proofs.lemmas.List.{at_drop_all}
use Rattle.co_core_tree.specs.declared.exprs.CoreExpr.{CoreExpr}
use Rattle.co_core_tree.specs.declared.exprs.CoreExpr.TheVariants as expr
use Rattle.co_core_tree.specs.declared.units.CoreFunc.{CoreFunc}
use Rattle.co_core_tree.specs.declared.units.SlotInfo.{SlotInfo}
use Rattle.co_core_tree.specs.Acts.{Act, Does, Keeps, Passes, Starts}
use Rattle.co_core_tree.specs.Slots.{temporaries}
use Rattle.co_core.specs.Bodies.{func_acts}
use Rattle.co_core.specs.Counts.{count_marked, func_marked, is_marked, one_if}
use Rattle.co_core.specs.Plans.{count_kind}
use Rattle.co_core.specs.Scopes.{is_mark}
use Rattle.co_core_acts.specs.Visits.{back}
use Rattle.co_core_kept.specs.declared.marks.MarksLeft.{MarksLeft}
use Rattle.co_core_kept.specs.Left.{left_after, less_if}

-- ---- what is left

and_true : (b : Bool) → (b && true) ≡ b
and_true true = refl
and_true false = refl

and_assoc : (a b c : Bool) → ((a && b) && c) ≡ (a && (b && c))
and_assoc true b c = refl
and_assoc false b c = refl

one_more : (n l : ℕ) → (nat_le n l && nat_lt 0 (l - n)) ≡ nat_le (1 + n) l
one_more n l =
    elim (cases_Bool (nat_le (1 + n) l)) as (λ z. (nat_le n l && nat_lt 0 (l - n)) ≡ nat_le (1 + n) l) [
      | inl e ↦
          let h = leb-true (1 + n) l e in
          and_from (nat_le n l) (nat_lt 0 (l - n)) (le-leb n l (omega (arith, h))) (lt-ltb 0 (l - n) (omega (arith, h))) ∙ sym e
      | inr e ↦
          let h = leb-false (1 + n) l e in
          and_right (nat_le n l) (nat_lt 0 (l - n)) (le-ltb 0 (l - n) (omega (arith, h))) ∙ sym e
    ]

none_more : (n l : ℕ) → (l - n == 0) ≡ nat_le l n
none_more n l =
    elim (cases_Bool (nat_le l n)) as (λ z. (l - n == 0) ≡ nat_le l n) [
      | inl e ↦ let h = leb-true l n e in eq-eqb (l - n) 0 (omega (arith, h)) ∙ sym e
      | inr e ↦ let h = leb-false l n e in ne_eqb (l - n) 0 (λ z. omega (arith, h, z)) ∙ sym e
    ]

abbrev less_by : MarksLeft → ℕ → MarksLeft
less_by s n = record s { left = s.left - n; enough = s.enough && nat_le n s.left }

less_none : (s : MarksLeft) → less_by s 0 ≡ s
less_none s =
    let n : s.left - 0 ≡ s.left = omega arith in
    ap (λ (l : ℕ). record s { left = l; enough = s.enough && nat_le 0 s.left }) n
    ∙ ap (λ (b : Bool). record s { enough = b }) (ap (λ b. s.enough && b) (le-leb 0 s.left (omega arith)) ∙ and_true s.enough)

less_one : (b : Bool) (s : MarksLeft) (n : ℕ) → less_if b (less_by s n) ≡ less_by s (one_if s.func.now b + n)
less_one true s n =
    let k : s.left - n - 1 ≡ s.left - (1 + n) = omega arith in
    ap (λ (l : ℕ). record s { left = l; enough = (s.enough && nat_le n s.left) && nat_lt 0 (s.left - n) }) k
    ∙ ap (λ (b : Bool). record s { left = s.left - (1 + n); enough = b }) (and_assoc s.enough (nat_le n s.left) (nat_lt 0 (s.left - n)) ∙ ap (λ b. s.enough && b) (one_more n s.left))
less_one false s n = ap (less_by s) (sym (zero_more n))
  where
    zero_more : (n : ℕ) → 0 + n ≡ n
    zero_more n = omega arith

-- ---- acts

expr_counted : (s : MarksLeft) (c : Bool) (e : CoreExpr) (acts : List Act) →
    left_after (less_by s (count_marked s.func.now (temporaries acts))) (Does c e) ≡ less_by s (count_marked s.func.now (temporaries (Does c e ∷ acts)))
expr_counted s c (expr.Temp' slot n i at) acts = less_one (is_marked s.func.now (record { slot = slot; conditional = c })) s (count_marked s.func.now (temporaries acts))
expr_counted s c e acts = refl

act_counted : (s : MarksLeft) (a : Act) (acts : List Act) →
    left_after (less_by s (count_marked s.func.now (temporaries acts))) a ≡ less_by s (count_marked s.func.now (temporaries (a ∷ acts)))
act_counted s (Does c e) acts = expr_counted s c e acts
act_counted s (Passes e) acts = refl
act_counted s (Starts i) acts = refl
act_counted s (Keeps part) acts = refl

all_counted : (s : MarksLeft) (acts : List Act) → back left_after s acts ≡ less_by s (count_marked s.func.now (temporaries acts))
all_counted s [] = sym (less_none s)
all_counted s (a ∷ acts) = ap (λ (t : MarksLeft). left_after t a) (all_counted s acts) ∙ act_counted s a acts

pub marks_are : (funcs : List CoreFunc) (func : CoreFunc) (s t : MarksLeft) → s.func.now ≡ func → s.left ≡ count_kind is_mark func.slots → s.enough ≡ true → t ≡ back left_after s (func_acts funcs func) →
    (t.enough && (t.left == 0)) ≡ func_marked funcs func
marks_are funcs func s t is left enough m =
    let n = count_marked func (temporaries (func_acts funcs func)) in
    let k = count_kind is_mark func.slots in
    ap (λ (x : MarksLeft). x.enough && (x.left == 0)) (m ∙ all_counted s (func_acts funcs func))
    ∙ ap (λ f. (s.enough && nat_le (count_marked f (temporaries (func_acts funcs func))) s.left) && (s.left - count_marked f (temporaries (func_acts funcs func)) == 0)) is
    ∙ ap (λ b. (b && nat_le n s.left) && (s.left - n == 0)) enough
    ∙ ap (λ l. nat_le n l && (l - n == 0)) left
    ∙ ap (λ b. nat_le n k && b) (none_more n k)

-- ---- slots

pub count_end : (slots : List SlotInfo) (k count : ℕ) → length slots ≤ k → count + count_kind is_mark (drop k slots) ≡ count_kind is_mark slots → count ≡ count_kind is_mark slots
count_end slots k count less keeps =
    let e : count_kind is_mark (drop k slots) ≡ 0 = at_drop_all (count_kind is_mark) slots k less in
    omega (arith, e, keeps)
