-- What is in a set of slots, and in a list of them.
use Rattle.std.specs.Prelude.{◌≡◌, ◌≢◌, ◌<◌, Bool, true, false, not, ◌&&◌, ◌||◌, ◌==◌, nat_lt, if◌then◌else◌, List, [], ◌∷◌, ◌++◌, fold, length, get_or, set, slice_set, Option, None, Some}
use Rattle.std.specs.List.{list_all, list_any}
use Rattle.std.proofs.Common.{refl, sym, ap, ◌∙◌, arith, inl, inr}
use Rattle.std.proofs.lemmas.Bool.{and_from, and_parts, cases_Bool, cases_eq, eq-eqb, eqb-true, false≢true, ltb-true, ne_eqb, not-true}
use Rattle.std.proofs.lemmas.List.{get_or-set_other, get_or-set_same, length-set}
use Rattle.co_base.specs.declared.ids.SlotId.{SlotId}
use Rattle.co_core.specs.Scopes.{distinct, member, same_slot, with_variable}
use Rattle.co_core_scopes.specs.declared.sets.SlotSet.{SlotSet}
use Rattle.co_core_scopes.specs.Makes.{is_small, slot_list}
use Rattle.co_core_scopes.specs.Sets.{inserted, is_marked, removed}

-- ---- sets

abbrev put_if : Bool → Bool → SlotSet → SlotId → SlotSet
put_if b v s x = if b then record { marks = slice_set s.marks x.0 v } else s

size_put_if : (b v : Bool) (s : SlotSet) (x : SlotId) → length (put_if b v s x).marks ≡ length s.marks
size_put_if true v s x = length-set s.marks x.0 v
size_put_if false v s x = refl

put_here : (v : Bool) (s : SlotSet) (x y : SlotId) → length s.marks ≡ 4096 → is_small y ≡ true → y.0 ≡ x.0 → is_marked (put_if (is_small x) v s x) y ≡ v
put_here v s x y size small at =
    let r : is_small x ≡ true = ap (λ k. nat_lt k 4096) (sym at) ∙ small in
    let l : x.0 < 4096 = ltb-true x.0 4096 r in
    let less : x.0 < length s.marks = omega arith in
    ap (λ b. is_marked (put_if b v s x) y) r ∙ ap (λ k. get_or (set s.marks x.0 v) k false) at ∙ get_or-set_same s.marks x.0 v false less

put_else_if : (b v : Bool) (s : SlotSet) (x y : SlotId) → y.0 ≢ x.0 → is_marked (put_if b v s x) y ≡ is_marked s y
put_else_if true v s x y other = get_or-set_other s.marks x.0 y.0 v false other
put_else_if false v s x y other = refl

marked_inserted : (s : SlotSet) (x y : SlotId) → length s.marks ≡ 4096 → is_small y ≡ true → is_marked (inserted s x) y ≡ (same_slot y x || is_marked s y)
marked_inserted s x y size small =
    elim (cases_eq y.0 x.0) as (λ z. is_marked (inserted s x) y ≡ (same_slot y x || is_marked s y)) [
      | inl e ↦ put_here true s x y size small e ∙ sym (ap (λ b. b || is_marked s y) (eq-eqb y.0 x.0 e))
      | inr n ↦ put_else_if (is_small x) true s x y n ∙ sym (ap (λ b. b || is_marked s y) (ne_eqb y.0 x.0 n))
    ]

marked_removed : (s : SlotSet) (x y : SlotId) → length s.marks ≡ 4096 → is_small y ≡ true → is_marked (removed s x) y ≡ (not (same_slot y x) && is_marked s y)
marked_removed s x y size small =
    elim (cases_eq y.0 x.0) as (λ z. is_marked (removed s x) y ≡ (not (same_slot y x) && is_marked s y)) [
      | inl e ↦ put_here false s x y size small e ∙ sym (ap (λ b. not b && is_marked s y) (eq-eqb y.0 x.0 e))
      | inr n ↦ put_else_if (is_small x) false s x y n ∙ sym (ap (λ b. not b && is_marked s y) (ne_eqb y.0 x.0 n))
    ]

pub size_inserted : (s : SlotSet) (xs : List SlotId) → length (fold inserted s xs).marks ≡ length s.marks
size_inserted s [] = refl
size_inserted s (x ∷ xs) = size_inserted (inserted s x) xs ∙ size_put_if (is_small x) true s x

pub size_removed : (s : SlotSet) (xs : List SlotId) → length (fold removed s xs).marks ≡ length s.marks
size_removed s [] = refl
size_removed s (x ∷ xs) = size_removed (removed s x) xs ∙ size_put_if (is_small x) false s x

or_turned : (m e k : Bool) → (m || (e || k)) ≡ ((e || m) || k)
or_turned true true k = refl
or_turned true false k = refl
or_turned false e k = ap (λ b. b || k) (or_false e)
  where
    or_false : (a : Bool) → a ≡ (a || false)
    or_false true = refl
    or_false false = refl

not_turned : (m e k : Bool) → (not m && (not e && k)) ≡ (not (e || m) && k)
not_turned true true k = refl
not_turned true false k = refl
not_turned false true k = refl
not_turned false false k = refl

pub fold_inserted : (s : SlotSet) (xs : List SlotId) (y : SlotId) → length s.marks ≡ 4096 → is_small y ≡ true → is_marked (fold inserted s xs) y ≡ (member y xs || is_marked s y)
fold_inserted s [] y size small = refl
fold_inserted s (x ∷ xs) y size small =
    fold_inserted (inserted s x) xs y (size_put_if (is_small x) true s x ∙ size) small ∙ ap (λ b. member y xs || b) (marked_inserted s x y size small) ∙ or_turned (member y xs) (same_slot y x) (is_marked s y)

pub fold_removed : (s : SlotSet) (xs : List SlotId) (y : SlotId) → length s.marks ≡ 4096 → is_small y ≡ true → is_marked (fold removed s xs) y ≡ (not (member y xs) && is_marked s y)
fold_removed s [] y size small = refl
fold_removed s (x ∷ xs) y size small =
    fold_removed (removed s x) xs y (size_put_if (is_small x) false s x ∙ size) small ∙ ap (λ b. not (member y xs) && b) (marked_removed s x y size small) ∙ not_turned (member y xs) (same_slot y x) (is_marked s y)

-- ---- lists within others

-- what holds of all of a list, and that it has no slot twice, is handed on to a part of it
pub record Within (xs ys : List SlotId) : Type 0 where
  pub all : (test : SlotId → Bool) → list_all test ys ≡ true → list_all test xs ≡ true
  pub once : distinct ys ≡ true → distinct xs ≡ true

pub within_same : (xs : List SlotId) → Within xs xs
within_same xs = record { all = λ test h. h; once = λ h. h }

pub within_none : (ys : List SlotId) → Within [] ys
within_none ys = record { all = λ test h. refl; once = λ h. refl }

pub within_through : (xs ys zs : List SlotId) → Within xs ys → Within ys zs → Within xs zs
within_through xs ys zs v w = record { all = λ test h. v.all test (w.all test h); once = λ h. v.once (w.once h) }

not_any : (test : SlotId → Bool) (xs : List SlotId) → not (list_any test xs) ≡ list_all (λ x. not (test x)) xs
not_any test [] = refl
not_any test (x ∷ xs) = negated (test x) (list_any test xs) ∙ ap (λ b. not (test x) && b) (not_any test xs)
  where
    negated : (a b : Bool) → not (a || b) ≡ (not a && not b)
    negated true b = refl
    negated false b = refl

pub within_skip : (y : SlotId) (xs ys : List SlotId) → Within xs ys → Within xs (y ∷ ys)
within_skip y xs ys w = record {
  all = λ test h. w.all test ((and_parts (test y) (list_all test ys) h).1);
  once = λ h. w.once ((and_parts (not (member y ys)) (distinct ys) h).1);
}

pub within_keep : (x : SlotId) (xs ys : List SlotId) → Within xs ys → Within (x ∷ xs) (x ∷ ys)
within_keep x xs ys w = record {
  all = λ test h. let p = and_parts (test x) (list_all test ys) h in and_from (test x) (list_all test xs) p.0 (w.all test p.1);
  once = λ h.
      let p = and_parts (not (member x ys)) (distinct ys) h in
      let n : not (member x xs) ≡ true = not_any (same_slot x) xs ∙ w.all (λ z. not (same_slot x z)) (sym (not_any (same_slot x) ys) ∙ p.0) in
      and_from (not (member x xs)) (distinct xs) n (w.once p.1);
}

pub within_left : (xs ys : List SlotId) → Within xs (xs ++ ys)
within_left [] ys = within_none ys
within_left (x ∷ xs) ys = within_keep x xs (xs ++ ys) (within_left xs ys)

pub within_right : (xs ys : List SlotId) → Within ys (xs ++ ys)
within_right [] ys = within_same ys
within_right (x ∷ xs) ys = within_skip x ys (xs ++ ys) (within_right xs ys)

pub within_after : (ps xs ys : List SlotId) → Within xs ys → Within (ps ++ xs) (ps ++ ys)
within_after [] xs ys w = w
within_after (p ∷ ps) xs ys w = within_keep p (ps ++ xs) (ps ++ ys) (within_after ps xs ys w)

-- ---- lists apart from others

abbrev pub is_new : List SlotId → SlotId → Bool
is_new seen slot = not (member slot seen)

-- the slots of a list are different, and none of them is among those that are seen
pub record Apart (seen xs : List SlotId) : Type 0 where
  pub fresh : list_all (is_new seen) xs ≡ true
  pub once : distinct xs ≡ true

pub apart_within : (seen xs ys : List SlotId) → Within xs ys → Apart seen ys → Apart seen xs
apart_within seen xs ys w a = record { fresh = w.all (is_new seen) a.fresh; once = w.once a.once }

same_turned : (x y : SlotId) → same_slot x y ≡ same_slot y x
same_turned x y =
    elim (cases_eq x.0 y.0) as (λ z. same_slot x y ≡ same_slot y x) [
      | inl e ↦ eq-eqb x.0 y.0 e ∙ sym (eq-eqb y.0 x.0 (sym e))
      | inr n ↦ ne_eqb x.0 y.0 n ∙ sym (ne_eqb y.0 x.0 (λ h. n (sym h)))
    ]

fresh_more : (seen : List SlotId) (slot : SlotId) (xs : List SlotId) → list_all (is_new seen) xs ≡ true → list_all (λ x. not (same_slot slot x)) xs ≡ true → list_all (is_new (slot ∷ seen)) xs ≡ true
fresh_more seen slot [] fresh other = refl
fresh_more seen slot (x ∷ xs) fresh other =
    let p = and_parts (is_new seen x) (list_all (is_new seen) xs) fresh in
    let q = and_parts (not (same_slot slot x)) (list_all (λ z. not (same_slot slot z)) xs) other in
    let n : is_new (slot ∷ seen) x ≡ true = ap (λ b. not (b || member x seen)) (sym (same_turned slot x) ∙ not-true (same_slot slot x) q.0) ∙ p.0 in
    and_from (is_new (slot ∷ seen) x) (list_all (is_new (slot ∷ seen)) xs) n (fresh_more seen slot xs p.1 q.1)

pub apart_more : (seen : List SlotId) (slot : SlotId) (xs : List SlotId) → Apart seen (slot ∷ xs) → Apart (slot ∷ seen) xs
apart_more seen slot xs a =
    let p = and_parts (is_new seen slot) (list_all (is_new seen) xs) a.fresh in
    let q = and_parts (not (member slot xs)) (distinct xs) a.once in
    record { fresh = fresh_more seen slot xs p.1 (sym (not_any (same_slot slot) xs) ∙ q.0); once = q.1 }

pub apart_with : (seen : List SlotId) (slot : Option SlotId) (xs : List SlotId) → Apart seen (slot_list slot ++ xs) → Apart (with_variable slot seen) xs
apart_with seen None xs a = a
apart_with seen (Some slot) xs a = apart_more seen slot xs a

-- a member of a list that is apart from others is none of these
pub not_seen : (seen xs : List SlotId) (y : SlotId) → list_all (is_new seen) xs ≡ true → member y xs ≡ true → member y seen ≡ false
not_seen seen [] y fresh named = absurd (false≢true named)
not_seen seen (x ∷ xs) y fresh named =
    let p = and_parts (is_new seen x) (list_all (is_new seen) xs) fresh in
    elim (cases_Bool (same_slot y x)) as (λ z. member y seen ≡ false) [
      | inl e ↦ ap (λ k. list_any (λ z. k == z.0) seen) (eqb-true y.0 x.0 e) ∙ not-true (member x seen) p.0
      | inr n ↦ not_seen seen xs y p.1 (sym (ap (λ b. b || member y xs) n) ∙ named)
    ]

pub member_with : (slot : Option SlotId) (seen : List SlotId) (y : SlotId) → member y (with_variable slot seen) ≡ (member y (slot_list slot) || member y seen)
member_with None seen y = refl
member_with (Some slot) seen y = ap (λ b. b || member y seen) (or_none (same_slot y slot))
  where
    or_none : (a : Bool) → a ≡ (a || false)
    or_none true = refl
    or_none false = refl
