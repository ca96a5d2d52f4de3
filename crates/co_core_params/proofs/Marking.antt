-- Slots that are marked one after the other are marked once exactly where they differ.
use Rattle.std.specs.Prelude.{◌≡◌, ℕ, zero, suc, ◌<◌, Bool, true, false, not, ◌&&◌, ◌||◌, ◌==◌, if◌then◌else◌, List, [], ◌∷◌, fold, length, get_or, set, replicate, slice_set, slice_index_or}
use Rattle.std.specs.List.{list_all}
use Rattle.std.proofs.Common.{refl, sym, ap, ◌∙◌, arith, inl, inr}
use Rattle.std.proofs.lemmas.Bool.{cases_Bool, cases_eq, eq-eqb, ltb-true, ne_eqb}
use Rattle.std.proofs.lemmas.List.{get_or-set_other, get_or-set_same, length-set}
use Rattle.co_base.specs.declared.ids.SlotId.{SlotId}
use Rattle.co_core_tree.specs.declared.units.CopyPlan.{CopyPlan}
use Rattle.co_core_tree.specs.declared.units.CoreFunc.{CoreFunc}
use Rattle.co_core.specs.Plans.{copies_to}
use Rattle.co_core.specs.Scopes.{distinct, member, same_slot}
use Rattle.co_core_params.specs.declared.marks.Marks.{Marks}
use Rattle.co_core_params.specs.Marked.{differ, is_fresh, is_small, marked, marked_copy}

and_true : (a : Bool) → (a && true) ≡ a
and_true true = refl
and_true false = refl

and_false : (a : Bool) → (a && false) ≡ false
and_false true = refl
and_false false = refl

-- whether it can be marked as the first of its number
abbrev is_open : List Bool → SlotId → Bool
is_open made slot = is_small slot && is_fresh made slot

abbrev marked_now : Marks → SlotId → Marks
marked_now s slot = record { marked = slice_set s.marked slot.0 true; once = s.once && is_fresh s.marked slot }

abbrev not_once : Marks → Marks
not_once s = record { marked = s.marked; once = false }

abbrev marked_if : Bool → Marks → SlotId → Marks
marked_if b s slot = if b then marked_now s slot else not_once s

fresh_at : (made : List Bool) (x y : SlotId) → x.0 < length made → is_fresh (slice_set made x.0 true) y ≡ (not (same_slot x y) && is_fresh made y)
fresh_at made x y less =
    elim (cases_eq y.0 x.0) as (λ z. is_fresh (slice_set made x.0 true) y ≡ (not (same_slot x y) && is_fresh made y)) [
      | inl e ↦
          let g : get_or (set made x.0 true) y.0 false ≡ true = ap (λ k. get_or (set made x.0 true) k false) e ∙ get_or-set_same made x.0 true false less in
          let q : (x.0 == y.0) ≡ true = eq-eqb x.0 y.0 (sym e) in
          ap not g ∙ sym (ap (λ b. not b && is_fresh made y) q)
      | inr n ↦
          let g : get_or (set made x.0 true) y.0 false ≡ get_or made y.0 false = get_or-set_other made x.0 y.0 true false n in
          let q : (x.0 == y.0) ≡ false = ne_eqb x.0 y.0 (λ h. n (sym h)) in
          ap not g ∙ sym (ap (λ b. not b && is_fresh made y) q)
    ]

exchange : (s n f : Bool) → (s && (n && f)) ≡ (n && (s && f))
exchange true n f = refl
exchange false n f = sym (and_false n)

open_at : (made : List Bool) (x y : SlotId) → x.0 < length made → is_open (slice_set made x.0 true) y ≡ (not (same_slot x y) && is_open made y)
open_at made x y less = ap (λ b. is_small y && b) (fresh_at made x y less) ∙ exchange (is_small y) (not (same_slot x y)) (is_fresh made y)

regroup : (e h m l : Bool) → ((not e && h) && (not m && l)) ≡ (not (e || m) && (h && l))
regroup true h m l = refl
regroup false true m l = refl
regroup false false m l = sym (and_false (not m))

open_all : (made : List Bool) (x : SlotId) (xs : List SlotId) → x.0 < length made → list_all (is_open (slice_set made x.0 true)) xs ≡ (not (member x xs) && list_all (is_open made) xs)
open_all made x [] less = refl
open_all made x (y ∷ ys) less =
    ap (λ b. b && list_all (is_open (slice_set made x.0 true)) ys) (open_at made x y less)
    ∙ ap (λ b. (not (same_slot x y) && is_open made y) && b) (open_all made x ys less)
    ∙ regroup (same_slot x y) (is_open made y) (member x ys) (list_all (is_open made) ys)

reorder : (o f m l d : Bool) → ((o && f) && ((not m && l) && d)) ≡ (o && ((f && l) && (not m && d)))
reorder false f m l d = refl
reorder true false m l d = refl
reorder true true true l d = sym (and_false l)
reorder true true false l d = refl

marks : (s : Marks) (xs : List SlotId) → length s.marked ≡ 4096 → (fold marked s xs).once ≡ (s.once && (list_all (is_open s.marked) xs && distinct xs))
marks s [] e = sym (and_true s.once)
marks s (x ∷ xs) e =
    let after = λ (b : Bool). (fold marked (marked_if b s x) xs).once in
    let whole = λ (b : Bool). s.once && (((b && is_fresh s.marked x) && list_all (is_open s.marked) xs) && (not (member x xs) && distinct xs)) in
    elim (cases_Bool (is_small x)) as (λ z. after (is_small x) ≡ whole (is_small x)) [
      | inl small ↦
          let l : x.0 < 4096 = ltb-true x.0 4096 small in
          let less : x.0 < length s.marked = omega arith in
          ap after small
          ∙ marks (marked_now s x) xs (length-set s.marked x.0 true ∙ e)
          ∙ ap (λ b. (s.once && is_fresh s.marked x) && (b && distinct xs)) (open_all s.marked x xs less)
          ∙ reorder s.once (is_fresh s.marked x) (member x xs) (list_all (is_open s.marked) xs) (distinct xs)
          ∙ sym (ap whole small)
      | inr large ↦ ap after large ∙ marks (not_once s) xs e ∙ sym (and_false s.once) ∙ sym (ap whole large)
    ]

all_open : (made : List Bool) (xs : List SlotId) → ((k : ℕ) → slice_index_or made k false ≡ false) → list_all (is_open made) xs ≡ list_all is_small xs
all_open made [] none = refl
all_open made (x ∷ xs) none =
    ap (λ b. (is_small x && not b) && list_all (is_open made) xs) (none x.0) ∙ ap (λ b. b && list_all (is_open made) xs) (and_true (is_small x)) ∙ ap (λ b. is_small x && b) (all_open made xs none)

pub marks_from_none : (s : Marks) (xs : List SlotId) → length s.marked ≡ 4096 → ((k : ℕ) → slice_index_or s.marked k false ≡ false) → s.once ≡ true → (fold marked s xs).once ≡ differ xs
marks_from_none s xs e none once = marks s xs e ∙ ap (λ b. b && (list_all (is_open s.marked) xs && distinct xs)) once ∙ ap (λ b. b && distinct xs) (all_open s.marked xs none)

pub copies_marked : (f : CoreFunc) (s : Marks) (copies : List CopyPlan) → fold marked_copy s copies ≡ fold marked s (copies_to f copies)
copies_marked f s [] = refl
copies_marked f s (copy ∷ copies) = copies_marked f (marked s copy.to) copies

pub none_in : (n k : ℕ) → get_or (replicate n false) k false ≡ false
none_in zero k = refl
none_in (suc n) zero = refl
none_in (suc n) (suc k) = none_in n k
