-- How functions are counted one after the other.
use Rattle.std.specs.Prelude.{◌≡◌, ◌≤◌, ℕ, zero, suc, ◌+◌, ◌-◌, length, take, drop, get_or, Bool, true, false, List, [], ◌∷◌, if◌then◌else◌, is_some}
use Rattle.std.proofs.Common.{refl, ap, ◌∙◌, sym, subst, arith}
use Rattle.co_core_tree.specs.declared.units.CoreFunc.{CoreFunc}
use Rattle.co_meaning_data.specs.Turn.{coroutines_before}
use Rattle.co_eval_reads.proofs.Rests.{one_off}

pub before_none : (n : ℕ) (fs : List CoreFunc) → n ≡ 0 → coroutines_before n fs ≡ 0
before_none zero fs e = refl
before_none (suc n) fs e = absurd (omega (arith, e))

pub before_past : (n : ℕ) → coroutines_before n [] ≡ 0
before_past zero = refl
before_past (suc n) = refl

one_more : (b : Bool) (k : ℕ) → (if b then suc k else k) ≡ (if b then 1 else 0) + k
one_more true k = let e : suc k ≡ 1 + k = omega arith in e
one_more false k = let e : k ≡ 0 + k = omega arith in e

pub before_next : (n m : ℕ) (f : CoreFunc) (fs : List CoreFunc) → m + 1 ≡ n → coroutines_before n (f ∷ fs) ≡ (if is_some f.plan then 1 else 0) + coroutines_before m fs
before_next zero m f fs e = absurd (omega (arith, e))
before_next (suc n) m f fs e =
    let same : n ≡ m = omega (arith, e) in
    one_more (is_some f.plan) (coroutines_before n fs) ∙ ap (λ k. (if is_some f.plan then 1 else 0) + coroutines_before k fs) same

pub counted_on : (before one left whole total : ℕ) (f : CoreFunc) (rest : List CoreFunc) → 1 ≤ length rest → f ≡ get_or rest 0 f → left - 1 + 1 ≡ left → one ≡ (if is_some f.plan then 1 else 0) → one ≤ 1 →
    before + length rest ≤ total → before + coroutines_before left rest ≡ whole →
    (before + one + length (take (length rest - 1) (drop 1 rest)) ≤ total) × (before + one + coroutines_before (left - 1) (take (length rest - 1) (drop 1 rest)) ≡ whole)
counted_on before one left whole total f rest some is less e small room sum =
    let tail = take (length rest - 1) (drop 1 rest) in
    let whole_list = one_off rest f some is in
    let a : before + length (f ∷ tail) ≤ total = subst (λ xs. before + length xs ≤ total) whole_list room in
    let b : before + coroutines_before left (f ∷ tail) ≡ whole = subst (λ xs. before + coroutines_before left xs ≡ whole) whole_list sum in
    let n : coroutines_before left (f ∷ tail) ≡ one + coroutines_before (left - 1) tail = before_next left (left - 1) f tail less ∙ ap (λ k. k + coroutines_before (left - 1) tail) (sym e) in
    (omega (arith, a), omega (arith, b, n))
