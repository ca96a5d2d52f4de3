-- How what is left adds up.
use Rattle.std.specs.Prelude.{◌≡◌, ◌≢◌, ℕ, zero, suc, ◌+◌, ◌-◌, ◌<◌, ◌≤◌, nat_le, List, [], ◌∷◌, ◌++◌, length, get_or, Option, None, Some, is_some}
use Rattle.std.proofs.Common.{refl, ap, sym, ◌∙◌, arith, drop, length-append, inl, inr}
use Rattle.std.proofs.lemmas.Bool.{cases_Bool, leb-false, leb-true, le-leb, lt-leb}
use Rattle.std.proofs.lemmas.List.{drop_more}
use Rattle.co_core_tree.specs.declared.exprs.CoreExpr.{CoreExpr, more_of-AwaitPlan, end_of-AwaitPlan}
use Rattle.co_core_tree.specs.declared.exprs.CoreExpr.TheVariants as expr
use Rattle.co_core_tree.specs.Acts.{Act, Does, Keeps, Passes, Starts, is_await, is_suspension}
use Rattle.co_core_tree.specs.Slots.{point_of, points}
use Rattle.co_core_tree.specs.declared.units.CoreFunc.{CoreFunc}
use Rattle.co_core_tree.specs.declared.units.PromisePlan.{PromisePlan}
use Rattle.co_core.specs.Bodies.{func_acts}
use Rattle.co_core.specs.Counts.{point_count, sum_points}
use Rattle.co_core.specs.Jumps.{plan_points}
use Rattle.co_core_acts.specs.Visits.{back}
use Rattle.co_core_counts.specs.declared.points.Points.{Points}
use Rattle.co_core_counts.specs.Left.{less, less_from}
use Rattle.co_core_counts.specs.Spent.{one_if, points_after}

less_zero : (l : ℕ) → less_from l 0 ≡ Some l
less_zero zero = refl
less_zero (suc l) = refl

pub less_none : (l : Option ℕ) → less l 0 ≡ l
less_none None = refl
less_none (Some l) = less_zero l

pub less_one : (l : ℕ) → l ≢ 0 → less_from l 1 ≡ Some (l - 1)
less_one zero some = absurd (some refl)
less_one (suc l) some =
    let n : l ≡ suc l - 1 = omega arith in
    less_zero l ∙ ap Some n

less_twice : (l m n : ℕ) → less (less_from l m) n ≡ less_from l (m + n)
less_twice l zero n =
    let e : n ≡ 0 + n = omega arith in
    ap (λ o. less o n) (less_zero l) ∙ ap (less_from l) e
less_twice zero (suc m) n =
    let e : suc (m + n) ≡ suc m + n = omega arith in
    ap (less_from zero) e
less_twice (suc l) (suc m) n =
    let e : suc (m + n) ≡ suc m + n = omega arith in
    less_twice l m n ∙ ap (less_from (suc l)) e

pub less_sum : (l : Option ℕ) (m n : ℕ) → less (less l m) n ≡ less l (m + n)
less_sum None m n = refl
less_sum (Some l) m n = less_twice l m n

le_up : (n l : ℕ) → nat_le n l ≡ nat_le (suc n) (suc l)
le_up n l =
    elim (cases_Bool (nat_le n l)) as (λ z. nat_le n l ≡ nat_le (suc n) (suc l)) [
      | inl e ↦ let h = leb-true n l e in e ∙ sym (le-leb (suc n) (suc l) (omega (arith, h)))
      | inr e ↦ let h = leb-false n l e in e ∙ sym (lt-leb (suc n) (suc l) (omega (arith, h)))
    ]

pub fits_within : (l n : ℕ) → is_some (less_from l n) ≡ nat_le n l
fits_within l zero = ap (λ (o : Option ℕ). is_some o) (less_zero l) ∙ sym (le-leb 0 l (omega arith))
fits_within zero (suc n) = sym (lt-leb (suc n) 0 (omega arith))
fits_within (suc l) (suc n) = fits_within l n ∙ le_up n l

point_count_of : (e : CoreExpr) → length (point_of e) ≡ one_if (is_await e)
point_count_of (expr.Await' n (more_of-AwaitPlan operand holder ready suspend answer resume point span end_of-AwaitPlan)) = refl
point_count_of e = refl

act_points : (a : Act) (acts : List Act) → length (points (a ∷ acts)) ≡ length (points acts) + one_if (is_suspension a)
act_points (Does c e) acts =
    let a : length (point_of e ++ points acts) ≡ length (point_of e) + length (points acts) = length-append (point_of e) (points acts) in
    let b = point_count_of e in
    omega (arith, a, b)
act_points (Passes e) acts = omega arith
act_points (Starts i) acts = omega arith
act_points (Keeps part) acts = omega arith

pub points_back : (v : Points) (acts : List Act) → back points_after v acts ≡ record { left = less v.left (length (points acts)) }
points_back v [] = ap (λ (l : Option ℕ). record { left = l }) (sym (less_none v.left))
points_back v (a ∷ acts) =
    ap (λ (w : Points). points_after w a) (points_back v acts)
    ∙ ap (λ (l : Option ℕ). record { left = l }) (less_sum v.left (length (points acts)) (one_if (is_suspension a)) ∙ ap (less v.left) (sym (act_points a acts)))

pub points_left : (v w : Points) (acts : List Act) → w ≡ back points_after v acts → w.left ≡ less v.left (length (points acts))
points_left v w acts m = ap (λ (x : Points). x.left) (m ∙ points_back v acts)

n_more : (n : ℕ) → 1 + (1 + (1 + n)) ≡ suc (suc n) + 1
n_more n = omega arith

-- three points more than awaits
pub three_more : (l : Option ℕ) (n : ℕ) → less (less (less (less l 1) 1) 1) n ≡ less l (suc (suc n) + 1)
three_more l n =
    less_sum (less (less l 1) 1) 1 n ∙ less_sum (less l 1) 1 (1 + n) ∙ less_sum l 1 (1 + (1 + n)) ∙ ap (less l) (n_more n)

pub count_some : (funcs : List CoreFunc) (func : CoreFunc) (plan : PromisePlan) → func.plan ≡ Some plan → point_count funcs func func.plan ≡ suc (suc (length (points (func_acts funcs func)))) + 1
count_some funcs func plan e = ap (point_count funcs func) e ∙ ap (λ p. length (plan_points p ++ points (func_acts funcs func)) + 1) e

-- ---- a loop over functions

all_dropped : {A : Type 0} → (k : ℕ) (xs : List A) → length xs ≤ k → drop k xs ≡ []
all_dropped zero [] less = refl
all_dropped zero (x ∷ xs) less = absurd (omega (arith, less))
all_dropped (suc k) [] less = refl
all_dropped (suc k) (x ∷ xs) less = all_dropped k xs (omega (arith, less))

pub sum_step : (all funcs : List CoreFunc) (k : ℕ) (func : CoreFunc) (now next z : Option ℕ) → k < length funcs → func ≡ get_or funcs k func → next ≡ less now (point_count all func func.plan) → less now (sum_points all (drop k funcs)) ≡ z → less next (sum_points all (drop (k + 1) funcs)) ≡ z
sum_step all funcs k func now next z within is spent keeps =
    let rest = drop (k + 1) funcs in
    ap (λ o. less o (sum_points all rest)) spent
    ∙ less_sum now (point_count all func func.plan) (sum_points all rest)
    ∙ ap (λ y. less now (sum_points all (y ∷ rest))) is
    ∙ ap (λ l. less now (sum_points all l)) (sym (drop_more funcs k func within))
    ∙ keeps

pub sum_end : (all funcs : List CoreFunc) (k : ℕ) (now z : Option ℕ) → length funcs ≤ k → less now (sum_points all (drop k funcs)) ≡ z → now ≡ z
sum_end all funcs k now z within keeps = sym (less_none now) ∙ ap (λ l. less now (sum_points all l)) (sym (all_dropped k funcs within)) ∙ keeps
