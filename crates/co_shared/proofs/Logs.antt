-- A history that grows by one access, and lists read by number.
use Rattle.std.proofs.Common.{◌≡◌, ℕ, zero, suc, ◌+◌, ◌<◌, ◌≤◌, ◌≢◌, Bool, ◌⊎◌, inl, inr, ⊎_elim, true, false, cond, eqb, eq-eqb, ne_eqb, List, [], ◌∷◌, ◌++◌, length, set, sym, refl, ap, ◌∙◌, arith}
use Rattle.std.specs.Prelude.{slice_index}
use mathlib.Core.Option.{some, some-injective, some-ne-none}
use mathlib.Core.Logic.{dite}
use native.Mathlib.Decide.{ℕ_discrete}
use lib.ListN.{get_elem?}
use Rattle.co_words.specs.Words.{place, answer, after}
use Rattle.co_shared.specs.declared.told.Entry.{Entry}
use Rattle.co_shared.specs.declared.told.View.{View}
use Rattle.co_shared.specs.Passes.{living}
use Rattle.co_shared.specs.History.{Rows, replay, Legal, part, late, Before}

pub replay-snoc : (ws : List ℕ) (log : Rows) (r : ℕ × Entry) → replay ws (log ++ r ∷ []) ≡ after (replay ws log) r.1.access
replay-snoc ws [] r = refl
replay-snoc ws (x ∷ xs) r = replay-snoc (after ws x.1.access) xs r

pub legal-snoc : (ws : List ℕ) (log : Rows) (r : ℕ × Entry) → Legal ws log → r.1.old ≡ answer r.1.access (slice_index (replay ws log) (place r.1.access)) → Legal ws (log ++ r ∷ [])
legal-snoc ws [] r l e = (e, tt)
legal-snoc ws (x ∷ xs) r l e = (l.0, legal-snoc (after ws x.1.access) xs r l.1 e)

pub part-same : (log : Rows) (n : ℕ) (e : Entry) → part n (log ++ (n, e) ∷ []) ≡ part n log ++ e ∷ []
part-same [] n e = let t : eqb n n ≡ true = eq-eqb n n refl in ap (λ b. cond b (e ∷ []) []) t
part-same (r ∷ rs) n e = let h : part n (rs ++ (n, e) ∷ []) ≡ part n rs ++ e ∷ [] = part-same rs n e in
    elim (eqb r.0 n) as (λ b. cond b (r.1 ∷ part n (rs ++ (n, e) ∷ [])) (part n (rs ++ (n, e) ∷ [])) ≡ cond b (r.1 ∷ part n rs) (part n rs) ++ e ∷ []) [ true ↦ ap (λ (xs : List Entry). r.1 ∷ xs) h | false ↦ h ]

pub part-other : (log : Rows) (n i : ℕ) (e : Entry) → i ≢ n → part n (log ++ (i, e) ∷ []) ≡ part n log
part-other [] n i e ne = let t : eqb i n ≡ false = ne_eqb i n ne in ap (λ b. cond b (e ∷ []) []) t
part-other (r ∷ rs) n i e ne = let h : part n (rs ++ (i, e) ∷ []) ≡ part n rs = part-other rs n i e ne in
    elim (eqb r.0 n) as (λ b. cond b (r.1 ∷ part n (rs ++ (i, e) ∷ [])) (part n (rs ++ (i, e) ∷ [])) ≡ cond b (r.1 ∷ part n rs) (part n rs)) [ true ↦ ap (λ (xs : List Entry). r.1 ∷ xs) h | false ↦ h ]

pub before-snoc : (log : Rows) (k n i : ℕ) (e : Entry) → i ≢ n → Before log n k → Before (log ++ (i, e) ∷ []) n k
before-snoc [] zero n i e ne h = elim (eqb i 0) as (λ b. part n (cond b ((i, e) ∷ []) []) ≡ []) [ true ↦ part-other [] n i e ne | false ↦ refl ]
before-snoc [] (suc k) n i e ne h = elim (eqb i 0) as (λ b. part n (cond b [] []) ≡ []) [ true ↦ refl | false ↦ refl ]
before-snoc (r ∷ rs) zero n i e ne h =
    elim (eqb r.0 0) as (λ b. part n (cond b (r ∷ rs) (late rs zero)) ≡ [] → part n (cond b (r ∷ (rs ++ (i, e) ∷ [])) (late (rs ++ (i, e) ∷ []) zero)) ≡ [])
    [ true ↦ λ g. part-other (r ∷ rs) n i e ne ∙ g | false ↦ λ g. before-snoc rs zero n i e ne g ] h
before-snoc (r ∷ rs) (suc k) n i e ne h =
    elim (eqb r.0 0) as (λ b. part n (cond b (late rs k) (late rs (suc k))) ≡ [] → part n (cond b (late (rs ++ (i, e) ∷ []) k) (late (rs ++ (i, e) ∷ []) (suc k))) ≡ [])
    [ true ↦ λ g. before-snoc rs k n i e ne g | false ↦ λ g. before-snoc rs (suc k) n i e ne g ] h

late-pass : (r : ℕ × Entry) (rs : Rows) (k : ℕ) → eqb r.0 0 ≡ false → late (r ∷ rs) k ≡ late rs k
late-pass r rs zero e = ap (λ b. cond b (r ∷ rs) (late rs zero)) e
late-pass r rs (suc k) e = ap (λ b. cond b (late rs k) (late rs (suc k))) e

pub late-none : (log : Rows) → late log (length (part 0 log)) ≡ []
late-none [] = refl
late-none (r ∷ rs) = let ih : late rs (length (part 0 rs)) ≡ [] = late-none rs in dite (ℕ_discrete r.0 0)
    (λ e. let t : eqb r.0 0 ≡ true = eq-eqb r.0 0 e in let p : part 0 (r ∷ rs) ≡ r.1 ∷ part 0 rs = ap (λ b. cond b (r.1 ∷ part 0 rs) (part 0 rs)) t in
    let q : late (r ∷ rs) (suc (length (part 0 rs))) ≡ late rs (length (part 0 rs)) = ap (λ b. cond b (late rs (length (part 0 rs))) (late rs (suc (length (part 0 rs))))) t in
    ap (λ (xs : List Entry). late (r ∷ rs) (length xs)) p ∙ (q ∙ ih))
    (λ n. let f : eqb r.0 0 ≡ false = ne_eqb r.0 0 n in let p : part 0 (r ∷ rs) ≡ part 0 rs = ap (λ b. cond b (r.1 ∷ part 0 rs) (part 0 rs)) f in
    ap (λ (xs : List Entry). late (r ∷ rs) (length xs)) p ∙ (late-pass r rs (length (part 0 rs)) f ∙ ih))

module _ {A : Type 0} where
  pub inside : (l : List A) (i : ℕ) (a : A) → get_elem? l i ≡ some a → i < length l
  inside [] i a h = absurd (some-ne-none a (sym h))
  inside (x ∷ xs) zero a h = omega arith
  inside (x ∷ xs) (suc i) a h = let g : i < length xs = inside xs i a h in omega arith

  pub only : (x : A) (i : ℕ) (a : A) → get_elem? (x ∷ []) i ≡ some a → (i ≡ 0) × (x ≡ a)
  only x zero a h = (refl, some-injective x a h)
  only x (suc i) a h = absurd (some-ne-none a (sym h))

  pub snoc_cases : (l : List A) (x : A) (j : ℕ) (a : A) → get_elem? (l ++ x ∷ []) j ≡ some a → (get_elem? l j ≡ some a) ⊎ ((j ≡ length l) × (x ≡ a))
  snoc_cases [] x j a h = inr (only x j a h)
  snoc_cases (y ∷ l) x zero a h = inl h
  snoc_cases (y ∷ l) x (suc j) a h = ⊎_elim (λ g. inl g) (λ t. inr (ap suc t.0, t.1)) (snoc_cases l x j a h)

pub at_or : (l : List ℕ) (i a : ℕ) → get_elem? l i ≡ some a → slice_index l i ≡ a
at_or [] i a h = absurd (some-ne-none a (sym h))
at_or (x ∷ xs) zero a h = some-injective x a h
at_or (x ∷ xs) (suc i) a h = at_or xs i a h

pub there : {A : Type 0} (l : List A) (i : ℕ) → i < length l → (a : A) × (get_elem? l i ≡ some a)
there [] i h = absurd (omega arith)
there (x ∷ xs) zero h = (x, refl)
there (x ∷ xs) (suc i) h = there xs i (omega arith)

pub living-same : (l : List View) (i : ℕ) (v w : View) → get_elem? l i ≡ some v → w.spent ≡ v.spent → living (set l i w) ≡ living l
living-same [] i v w h e = absurd (some-ne-none v (sym h))
living-same (x ∷ xs) zero v w h e = ap (λ (b : Bool). cond b (living xs) (living xs + 1)) (e ∙ ap (λ (z : View). z.spent) (sym (some-injective x v h)))
living-same (x ∷ xs) (suc i) v w h e = ap (λ (n : ℕ). cond x.spent n (n + 1)) (living-same xs i v w h e)

pub living-less : (l : List View) (i : ℕ) (v w : View) → get_elem? l i ≡ some v → v.spent ≡ false → w.spent ≡ true → living (set l i w) + 1 ≡ living l
living-less [] i v w h f t = absurd (some-ne-none v (sym h))
living-less (x ∷ xs) zero v w h f t =
    ap (λ (b : Bool). cond b (living xs) (living xs + 1) + 1) t ∙ sym (ap (λ (b : Bool). cond b (living xs) (living xs + 1)) (ap (λ (z : View). z.spent) (some-injective x v h) ∙ f))
living-less (x ∷ xs) (suc i) v w h f t = let ih : living (set xs i w) + 1 ≡ living xs = living-less xs i v w h f t in
    elim x.spent as (λ b. cond b (living (set xs i w)) (living (set xs i w) + 1) + 1 ≡ cond b (living xs) (living xs + 1)) [ true ↦ ih | false ↦ ap (λ (n : ℕ). n + 1) ih ]

pub living-more : (l : List View) (w : View) → w.spent ≡ false → living (l ++ w ∷ []) ≡ living l + 1
living-more [] w f = ap (λ (b : Bool). cond b 0 1) f
living-more (x ∷ xs) w f = let ih : living (xs ++ w ∷ []) ≡ living xs + 1 = living-more xs w f in
    elim x.spent as (λ b. cond b (living (xs ++ w ∷ [])) (living (xs ++ w ∷ []) + 1) ≡ cond b (living xs) (living xs + 1) + 1) [ true ↦ ih | false ↦ ap (λ (n : ℕ). n + 1) ih ]

two : (b : Bool) → (b ≡ true) ⊎ (b ≡ false)
two true = inl refl
two false = inr refl

none_alive : (l : List View) (i : ℕ) (v : View) → living l ≡ 0 → get_elem? l i ≡ some v → v.spent ≡ true
none_alive [] i v z h = absurd (some-ne-none v (sym h))
none_alive (x ∷ xs) zero v z h = ap (λ (y : View). y.spent) (sym (some-injective x v h)) ∙ ⊎_elim (λ e. e)
    (λ e. let q : living xs + 1 ≡ 0 = sym (ap (λ (b : Bool). cond b (living xs) (living xs + 1)) e) ∙ z in absurd (omega arith)) (two x.spent)
none_alive (x ∷ xs) (suc i) v z h = let n : ℕ = living xs in
    none_alive xs i v (elim x.spent as (λ b. cond b n (n + 1) ≡ 0 → n ≡ 0) [ true ↦ λ q. q | false ↦ λ q. omega arith ] z) h

-- where one alone lives and it is the first, each other one is spent
pub one_alive : (l : List View) (x : View) (i : ℕ) (v : View) → get_elem? l 0 ≡ some x → x.spent ≡ false → living l ≡ 1 → 0 < i → get_elem? l i ≡ some v → v.spent ≡ true
one_alive [] x i v f live z h g = absurd (some-ne-none v (sym g))
one_alive (y ∷ ys) x zero v f live z h g = absurd (omega arith)
one_alive (y ∷ ys) x (suc i) v f live z h g =
    let e : y.spent ≡ false = ap (λ (u : View). u.spent) (some-injective y x f) ∙ live in
    let q : living ys + 1 ≡ 1 = sym (ap (λ (b : Bool). cond b (living ys) (living ys + 1)) e) ∙ z in none_alive ys i v (omega arith) g

pub stands : (words : List ℕ) (earlier later : Rows) (r : ℕ × Entry) → Legal words (earlier ++ r ∷ later) → r.1.old ≡ answer r.1.access (slice_index (replay words earlier) (place r.1.access))
stands words [] later r l = l.0
stands words (x ∷ xs) later r l = stands (after words x.1.access) xs later r l.1

part-tail : (xs ys : Rows) (n : ℕ) → part n (xs ++ ys) ≡ [] → part n ys ≡ []
part-tail [] ys n h = h
part-tail (x ∷ xs) ys n h = part-tail xs ys n (elim (eqb x.0 n) as (λ b. cond b (x.1 ∷ part n (xs ++ ys)) (part n (xs ++ ys)) ≡ [] → part n (xs ++ ys) ≡ []) [ true ↦ λ q. cc | false ↦ λ q. q ] h)

pub nothing_after : (earlier later : Rows) (r : ℕ × Entry) (n k : ℕ) → Before (earlier ++ r ∷ later) n k → r.0 ≡ 0 → k ≤ length (part 0 earlier) → part n (r ∷ later) ≡ []
nothing_after [] later r n zero h z le = let t : eqb r.0 0 ≡ true = eq-eqb r.0 0 z in sym (ap (λ b. part n (cond b (r ∷ later) (late later zero))) t) ∙ h
nothing_after [] later r n (suc k) h z le = absurd (omega arith)
nothing_after (x ∷ xs) later r n zero h z le = let all : Rows = xs ++ r ∷ later in
    elim (eqb x.0 0) as (λ b. part n (cond b (x ∷ all) (late all zero)) ≡ [] → part n (r ∷ later) ≡ [])
    [ true ↦ λ g. part-tail (x ∷ xs) (r ∷ later) n g | false ↦ λ g. nothing_after xs later r n zero g z (omega arith) ] h
nothing_after (x ∷ xs) later r n (suc k) h z le = let all : Rows = xs ++ r ∷ later in
    elim (eqb x.0 0) as (λ b. part n (cond b (late all k) (late all (suc k))) ≡ [] → suc k ≤ length (cond b (x.1 ∷ part 0 xs) (part 0 xs)) → part n (r ∷ later) ≡ [])
    [ true ↦ λ g l. nothing_after xs later r n k g z (omega arith) | false ↦ λ g l. nothing_after xs later r n (suc k) g z l ] h le
