-- Each step keeps the rule of the shared words.
use Rattle.std.proofs.Common.{◌≡◌, ℕ, zero, suc, ◌+◌, ◌<◌, ◌≤◌, ◌≢◌, ⊎_elim, false, List, [], ◌∷◌, ◌++◌, length, set, sym, refl, ap, ◌∙◌, subst, arith, length-set, length-append}
use Rattle.std.proofs.lemmas.Bool.{true≢false}
use Rattle.std.specs.Prelude.{slice_index, slice_set}
use mathlib.Core.Option.{some, some-injective, some-ne-none}
use lib.ListN.{get_elem?}
use Rattle.atomic_table.specs.Table.{State, Me, keeps, Allows, Splits, Joins, Final, Seen, opening}
use Rattle.atomic_table.proofs.Lists.{at_set, set_here, set_else, at_longer, at_last}
use Rattle.co_words.specs.declared.access.Access.{Access}
use Rattle.co_words.specs.Words.{place, put, answer, after}
use Rattle.co_shared.specs.declared.told.Ended.{Ended}
use Rattle.co_shared.specs.declared.told.Told.{Told}
use Rattle.co_shared.specs.declared.told.View.{View}
use Rattle.co_shared.specs.History.{Rows, part, late}
use Rattle.co_shared.specs.Passes.{entry, fresh, did, split_once, joined, ended_of, AreDistinct, HasNumber, living, here, gone, newcomer, steps, splitter, newer, taker}
use Rattle.co_shared.specs.Rule.{IsEnded, Kept}
use Rattle.co_shared.specs.Closing.{Closes}
use Rattle.co_shared.proofs.Logs.{replay-snoc, legal-snoc, part-same, part-other, before-snoc, late-none, inside, only, snoc_cases, at_or, there, living-same, living-less, living-more, one_alive}

abbrev St : Type 0
St = State (Unit {0}) View

-- one seat is not both spent and alive
apart : (l : List View) (i j : ℕ) (v : View) → get_elem? l i ≡ some gone → get_elem? l j ≡ some v → v.spent ≡ false → i ≢ j
apart l i j v g h live q = let e : gone ≡ v = some-injective gone v (sym g ∙ (ap (get_elem? l) q ∙ h)) in true≢false (ap (λ (z : View). z.spent) e ∙ live)

-- the state after the pass at the seat id, with the view v, made the access a
abbrev moved : St → ℕ → View → Access → St
moved s id v a = record { words = slice_set s.words (place a) (put a (slice_index s.words (place a))); homes = s.homes; views = slice_set s.views id (steps v a (answer a (slice_index s.words (place a)))) }

kept_step : (op : List ℕ) (s : St) (k : Kept op s) (id : ℕ) (v : View) (a : Access) (main : Told) → v.spent ≡ false → get_elem? s.views id ≡ some v
    → get_elem? (set s.views id (steps v a (answer a (slice_index s.words (place a))))) 0 ≡ some (here main) → main.ended ≡ k.main.ended → main.splits ≡ k.main.splits → Kept op (moved s id v a)
kept_step op s k id v a main live at f es ss =
    let r : ℕ = answer a (slice_index s.words (place a)) in let e = entry a r in let w : View = steps v a r in let log : Rows = k.log in let near : id < length s.views = inside s.views id v at in
    let away = λ (j : ℕ) (x : Ended) (h : get_elem? k.main.ended j ≡ some x). apart s.views x.number id v (k.left j x h) at live in
    let same = λ (j : ℕ) (x : Ended) (h : get_elem? main.ended j ≡ some x). ap (λ (xs : List Ended). get_elem? xs j) (sym es) ∙ h in
    record {
      log = log ++ (id, e) ∷ [];
      main = main;
      legal = legal-snoc op log (id, e) k.legal (ap (λ (ws : List ℕ). answer a (slice_index ws (place a))) (sym k.words));
      words = replay-snoc op log (id, e) ∙ ap (λ (ws : List ℕ). after ws a) k.words;
      first = f;
      count = length-set s.views id w ∙ (k.count ∙ ap (λ (n : ℕ). n + 1) (sym ss));
      numbers = λ i u h l. ⊎_elim (λ t. ap (λ (z : View). z.told.number) (sym t.1) ∙ (k.numbers id v at live ∙ sym t.0)) (λ t. k.numbers i u t.1 l) (at_set s.views id i w u h);
      parts = λ i u h l. ⊎_elim
          (λ t. ap (λ (n : ℕ). part n (log ++ (id, e) ∷ [])) t.0 ∙ ((part-same log id e ∙ ap (λ xs. xs ++ e ∷ []) (k.parts id v at live)) ∙ ap (λ (z : View). z.told.list) t.1))
          (λ t. part-other log i id e (λ q. t.0 (sym q)) ∙ k.parts i u t.1 l) (at_set s.views id i w u h);
      others = λ i h. let far : length s.views ≤ i = omega (arith, length-set s.views id w) in part-other log i id e (λ q. omega arith) ∙ k.others i far;
      left = λ j x h. let g = same j x h in set_else s.views id x.number w (away j x g) ∙ k.left j x g;
      ended = λ j x h. let g = same j x h in let ne : id ≢ x.number = λ q. away j x g (sym q) in let was = k.ended j x g in
          record { other = was.other; list = part-other log x.number id e ne ∙ was.list; before = before-snoc log x.before x.number id e ne was.before };
      distinct = subst AreDistinct (sym es) k.distinct;
      spent = λ i u h t. ⊎_elim (λ p. absurd (true≢false (sym t ∙ (ap (λ (z : View). z.spent) (sym p.1) ∙ live)))) (λ p. subst (λ (xs : List Ended). HasNumber xs i) (sym es) (k.spent i u p.1 t)) (at_set s.views id i w u h);
      alive = let one : living (set s.views id w) ≡ living s.views = living-same s.views id v w at refl in let all : length (set s.views id w) ≡ length s.views = length-set s.views id w in
          let joins' : length main.ended ≡ length k.main.ended = ap length es in let was = k.alive in omega arith;
    }

kept_any : (op : List ℕ) (s : St) (k : Kept op s) (id : ℕ) (v : View) (a : Access) → v.spent ≡ false → get_elem? s.views id ≡ some v → Kept op (moved s id v a)
kept_any op s k zero v a live at =
    let r : ℕ = answer a (slice_index s.words (place a)) in let e : here k.main ≡ v = some-injective (here k.main) v (sym k.first ∙ at) in
    kept_step op s k 0 v a (did k.main a r) live at (set_here s.views 0 (steps v a r) (inside s.views 0 v at) ∙ ap (λ (z : View). some (steps z a r)) (sym e)) refl refl
kept_any op s k (suc id) v a live at =
    let r : ℕ = answer a (slice_index s.words (place a)) in
    kept_step op s k (suc id) v a k.main live at (set_else s.views (suc id) 0 (steps v a r) (λ q. omega arith) ∙ k.first) refl refl

pub takes : (op : List ℕ) (slots id : ℕ) (me : Me (Unit {0}) View) (a : Access) → me.0.spent ≡ false → Allows (Kept op) slots id me (place a) (put a) (λ n k. k ≡ (steps me.0 a (answer a n), me.1))
takes op slots id me a live s kept wide at fit = (steps me.0 a (answer a (slice_index s.words (place a))), keeps, tt, kept_any op s kept id me.0 a live at, refl)

-- the state after number 0 split off a pass
abbrev cut : St → ℕ → View → St
cut s id v = record { words = s.words; homes = s.homes; views = slice_set s.views id (splitter v) ++ newer v ∷ [] }

split_main : (op : List ℕ) (s : St) (k : Kept op s) → Kept op (cut s 0 (here k.main))
split_main op s k =
    let t : Told = k.main in let w : View = splitter (here t) in let x : View = newer (here t) in let vs : List View = set s.views 0 w in
    let wide : length vs ≡ length s.views = length-set s.views 0 w in let near : 0 < length s.views = inside s.views 0 (here t) k.first in
    record {
      log = k.log;
      main = split_once t;
      legal = k.legal;
      words = k.words;
      first = at_longer vs (x ∷ []) 0 w (set_here s.views 0 w near);
      count = length-append vs (x ∷ []) ∙ (ap (λ (n : ℕ). n + 1) (wide ∙ k.count));
      numbers = λ i u h l. ⊎_elim
          (λ g. ⊎_elim (λ p. ap (λ (z : View). z.told.number) (sym p.1) ∙ (k.numbers 0 (here t) k.first refl ∙ sym p.0)) (λ p. k.numbers i u p.1 l) (at_set s.views 0 i w u g))
          (λ p. ap (λ (z : View). z.told.number) (sym p.1) ∙ sym (p.0 ∙ (wide ∙ k.count))) (snoc_cases vs x i u h);
      parts = λ i u h l. ⊎_elim
          (λ g. ⊎_elim (λ p. ap (λ (n : ℕ). part n k.log) p.0 ∙ (k.parts 0 (here t) k.first refl ∙ ap (λ (z : View). z.told.list) p.1)) (λ p. k.parts i u p.1 l) (at_set s.views 0 i w u g))
          (λ p. k.others i (let q : i ≡ length vs = p.0 in omega arith) ∙ ap (λ (z : View). z.told.list) p.1) (snoc_cases vs x i u h);
      others = λ i h. k.others i (omega (arith, length-append vs (x ∷ [])));
      left = λ j e h. at_longer vs (x ∷ []) e.number gone (set_else s.views 0 e.number w (λ q. let p : 0 < e.number = (k.ended j e h).other in omega arith) ∙ k.left j e h);
      ended = k.ended;
      distinct = k.distinct;
      spent = λ i u h l. ⊎_elim
          (λ g. ⊎_elim (λ p. absurd (true≢false (sym l ∙ ap (λ (z : View). z.spent) (sym p.1)))) (λ p. k.spent i u p.1 l) (at_set s.views 0 i w u g))
          (λ p. absurd (true≢false (sym l ∙ ap (λ (z : View). z.spent) (sym p.1)))) (snoc_cases vs x i u h);
      alive = let one : living vs ≡ living s.views = living-same s.views 0 (here t) w k.first refl in let more : living (vs ++ x ∷ []) ≡ living vs + 1 = living-more vs x refl in
          let all : length (vs ++ x ∷ []) ≡ length vs + 1 = length-append vs (x ∷ []) in let was = k.alive in omega arith;
    }

module _ (op : List ℕ) (s : St) (k : Kept op s) (id : ℕ) (v : View) (at : get_elem? s.views id ≡ some v) (live : v.spent ≡ false) (none : v.told.number ≡ 0) where
  seat_is : 0 ≡ id
  seat_is = sym none ∙ k.numbers id v at live

  view_is : here k.main ≡ v
  view_is = some-injective (here k.main) v (sym k.first ∙ (ap (get_elem? s.views) seat_is ∙ at))

  pub carried : (P : ℕ × View → Type 0) → P (0, here k.main) → P (id, v)
  carried P h = subst P (λ i. (seat_is i, view_is i)) h

pub splits : (op : List ℕ) (id : ℕ) (v : View) → v.spent ≡ false → v.told.number ≡ 0 → Splits (Kept op) id v (splitter v) (newer v)
splits op id v live none s k at = carried op s k id v at live none (λ z. Kept op (cut s z.0 z.1)) (split_main op s k)

distinct-snoc : (es : List Ended) (x : Ended) → AreDistinct es → ((j : ℕ) (e : Ended) → get_elem? es j ≡ some e → e.number ≢ x.number) → AreDistinct (es ++ x ∷ [])
distinct-snoc es x d new i j a b ha hb q = ⊎_elim
    (λ ga. ⊎_elim (λ gb. d i j a b ga gb q) (λ p. absurd (new i a ga (q ∙ ap (λ (z : Ended). z.number) (sym p.1)))) (snoc_cases es x j b hb))
    (λ p. ⊎_elim (λ gb. absurd (new j b gb (sym q ∙ ap (λ (z : Ended). z.number) (sym p.1)))) (λ r. p.0 ∙ sym r.0) (snoc_cases es x j b hb)) (snoc_cases es x i a ha)

-- the state after number 0 took in the pass at the seat other
abbrev merged : St → ℕ → View → ℕ → View → St
merged s id v other w = record { words = s.words; homes = s.homes; views = slice_set (slice_set s.views id (taker v w)) other gone }

join_main : (op : List ℕ) (s : St) (k : Kept op s) (other : ℕ) (w : View) → ¬ (other ≡ 0) → get_elem? (slice_set s.views 0 (taker (here k.main) w)) other ≡ some w → w.spent ≡ false → Kept op (merged s 0 (here k.main) other w)
join_main op s k other w ne at live =
    let t : Told = k.main in let b : View = taker (here t) w in let vs : List View = set s.views 0 b in let x : Ended = ended_of t w.told in
    let there : get_elem? s.views other ≡ some w = sym (set_else s.views 0 other b ne) ∙ at in let num : w.told.number ≡ other = k.numbers other w there live in
    let near : 0 < length s.views = inside s.views 0 (here t) k.first in let mine : part 0 k.log ≡ t.list = k.parts 0 (here t) k.first refl in
    let wide : length (set vs other gone) ≡ length s.views = length-set vs other gone ∙ length-set s.views 0 b in
    let away = λ (j : ℕ) (e : Ended) (h : get_elem? t.ended j ≡ some e). apart s.views e.number other w (k.left j e h) there live in
    let new : IsEnded k.log x = record {
      other = (let q : w.told.number ≡ other = num in let z : 0 < w.told.number = omega arith in z);
      list = ap (λ (n : ℕ). part n k.log) num ∙ k.parts other w there live;
      before = ap (part w.told.number) (ap (λ xs. late k.log (length xs)) (sym mine) ∙ late-none k.log);
    } in
    record {
      log = k.log;
      main = joined t w.told;
      legal = k.legal;
      words = k.words;
      first = set_else vs other 0 gone (λ q. ne (sym q)) ∙ set_here s.views 0 b near;
      count = wide ∙ k.count;
      numbers = λ i u h l. ⊎_elim (λ p. absurd (true≢false (ap (λ (z : View). z.spent) p.1 ∙ l)))
          (λ p. ⊎_elim (λ o. ap (λ (z : View). z.told.number) (sym o.1) ∙ (k.numbers 0 (here t) k.first refl ∙ sym o.0)) (λ o. k.numbers i u o.1 l) (at_set s.views 0 i b u p.1)) (at_set vs other i gone u h);
      parts = λ i u h l. ⊎_elim (λ p. absurd (true≢false (ap (λ (z : View). z.spent) p.1 ∙ l)))
          (λ p. ⊎_elim (λ o. ap (λ (n : ℕ). part n k.log) o.0 ∙ (mine ∙ ap (λ (z : View). z.told.list) o.1)) (λ o. k.parts i u o.1 l) (at_set s.views 0 i b u p.1)) (at_set vs other i gone u h);
      others = λ i h. k.others i (omega arith);
      left = λ j e h. ⊎_elim
          (λ g. set_else vs other e.number gone (away j e g) ∙ (set_else s.views 0 e.number b (λ q. let p : 0 < e.number = (k.ended j e g).other in omega arith) ∙ k.left j e g))
          (λ p. ap (get_elem? (set vs other gone)) (ap (λ (z : Ended). z.number) (sym p.1) ∙ num) ∙ set_here vs other gone (inside vs other w at)) (snoc_cases t.ended x j e h);
      ended = λ j e h. ⊎_elim (λ g. k.ended j e g) (λ p. subst (IsEnded k.log) p.1 new) (snoc_cases t.ended x j e h);
      distinct = distinct-snoc t.ended x k.distinct (λ j e h q. away j e h (q ∙ num));
      spent = λ i u h l. ⊎_elim
          (λ p. record { at = length t.ended; pass = x; there = at_last t.ended x (length t.ended) refl; is = num ∙ sym p.0 })
          (λ p. ⊎_elim (λ o. absurd (true≢false (sym l ∙ ap (λ (z : View). z.spent) (sym o.1))))
          (λ o. let n = k.spent i u o.1 l in record { at = n.at; pass = n.pass; there = at_longer t.ended (x ∷ []) n.at n.pass n.there; is = n.is }) (at_set s.views 0 i b u p.1)) (at_set vs other i gone u h);
      alive = let one : living vs ≡ living s.views = living-same s.views 0 (here t) b k.first refl in let less : living (set vs other gone) + 1 ≡ living vs = living-less vs other w gone at live refl in
          let more : length (t.ended ++ x ∷ []) ≡ length t.ended + 1 = length-append t.ended (x ∷ []) in let was = k.alive in omega arith;
    }

pub joins : (op : List ℕ) (id : ℕ) (v : View) (other : ℕ) (w : View) → v.spent ≡ false → v.told.number ≡ 0 → w.spent ≡ false → Joins (Kept op) id v other w (taker v w) gone
joins op id v other w live none alive s k at ne there =
    carried op s k id v at live none (λ z. ¬ (other ≡ z.0) → get_elem? (slice_set s.views z.0 (taker z.1 w)) other ≡ some w → Kept op (merged s z.0 z.1 other w)) (λ n h. join_main op s k other w n h alive) ne there

pub opens : (op : List ℕ) → Kept op (opening op [] (newcomer 0))
opens op = record {
  log = [];
  main = fresh 0;
  legal = tt;
  words = refl;
  first = refl;
  count = refl;
  numbers = λ i v h l. let p = only (newcomer 0) i v h in ap (λ (z : View). z.told.number) (sym p.1) ∙ sym p.0;
  parts = λ i v h l. let p = only (newcomer 0) i v h in ap (λ (z : View). z.told.list) p.1;
  others = λ i h. refl;
  left = λ k e h. absurd (some-ne-none e (sym h));
  ended = λ k e h. absurd (some-ne-none e (sym h));
  distinct = λ j k a b ha hb q. absurd (some-ne-none a (sym ha));
  spent = λ i v h l. let p = only (newcomer 0) i v h in absurd (true≢false (sym l ∙ ap (λ (z : View). z.spent) (sym p.1)));
  alive = refl;
}

closing : (op : List ℕ) (s : St) (k : Kept op s) (stamp stop : ℕ) → length k.main.ended ≡ k.main.splits → get_elem? s.words 1 ≡ some stamp → get_elem? s.words 2 ≡ some stop → Closes op k.main stamp stop
closing op s k stamp stop full one two = record {
  log = k.log;
  legal = k.legal;
  main = k.parts 0 (here k.main) k.first refl;
  ended = k.ended;
  bound = λ j e h. let near : e.number < length s.views = inside s.views e.number gone (k.left j e h) in omega (arith, k.count);
  distinct = k.distinct;
  whole = λ n h l. let near : n < length s.views = omega (arith, k.count) in let v = there s.views n near in
      let alone : living s.views ≡ 1 = omega (arith, k.count, k.alive) in k.spent n v.0 v.1 (one_alive s.views (here k.main) n v.0 k.first refl alone h v.1);
  others = λ n h. k.others n (omega (arith, k.count));
  stamp_is = ap (λ (ws : List ℕ). slice_index ws 1) k.words ∙ at_or s.words 1 stamp one;
  stop_is = ap (λ (ws : List ℕ). slice_index ws 2) k.words ∙ at_or s.words 2 stop two;
}

pub closes_at : (op : List ℕ) (id : ℕ) (v : View) (ws : List ℕ) (xs : List (Unit {0})) (stamp stop : ℕ) → Final (Seen (Kept op) id v) ws xs → v.spent ≡ false → v.told.number ≡ 0
    → length v.told.ended ≡ v.told.splits → get_elem? ws 1 ≡ some stamp → get_elem? ws 2 ≡ some stop → Closes op v.told stamp stop
closes_at op id v ws xs stamp stop f live none full one two =
    let s : St = f.0 in let k : Kept op s = f.1.0 in let same : s.words ≡ ws = f.2 in
    carried op s k id v f.1.1 live none (λ z. length z.1.told.ended ≡ z.1.told.splits → Closes op z.1.told stamp stop)
    (λ all. closing op s k stamp stop all (ap (λ (l : List ℕ). get_elem? l 1) same ∙ one) (ap (λ (l : List ℕ). get_elem? l 2) same ∙ two)) full

-- the same, of the list and the opening under other names
pub closes : (opening : List ℕ) (told : Told) (op : List ℕ) (id : ℕ) (v : View) (ws : List ℕ) (xs : List (Unit {0})) (stamp stop : ℕ) → Final (Seen (Kept op) id v) ws xs → v.spent ≡ false → told.number ≡ 0
    → length told.ended ≡ told.splits → op ≡ opening → v.told ≡ told → get_elem? ws 1 ≡ some stamp → get_elem? ws 2 ≡ some stop → Closes opening told stamp stop
closes opening told op id v ws xs stamp stop f live none full same list one two =
    subst (λ (z : List ℕ × Told). Closes z.0 z.1 stamp stop) (λ i. (same i, list i)) (closes_at op id v ws xs stamp stop f live (ap (λ (t : Told). t.number) list ∙ none)
    (subst (λ (t : Told). length t.ended ≡ t.splits) (sym list) full) one two)
