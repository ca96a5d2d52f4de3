-- Slots that are marked one after the other are made once exactly where they are distinct.
use Rattle.std.specs.Prelude.{◌≡◌, ℕ, zero, suc, ◌<◌, Bool, true, false, not, ◌&&◌, ◌||◌, ◌==◌, if◌then◌else◌, List, [], ◌∷◌, fold, length, get_or, set, replicate, slice_set, slice_index_or}
use Rattle.std.specs.List.{list_all}
use Rattle.std.proofs.Common.{refl, sym, ap, ◌∙◌, arith, inl, inr}
use Rattle.std.proofs.lemmas.Bool.{and_from, and_parts, cases_eq, eq-eqb, ltb-true, ne_eqb}
use Rattle.std.proofs.lemmas.List.{get_or-set_other, get_or-set_same, length-set}
use Rattle.co_base.specs.declared.ids.SlotId.{SlotId}
use Rattle.co_core.specs.Scopes.{distinct, member, same_slot}
use Rattle.co_core_scopes.specs.declared.makes.Makes.{Makes}
use Rattle.co_core_scopes.specs.Makes.{is_fresh, is_small, marked}

and_true : (a : Bool) → (a && true) ≡ a
and_true true = refl
and_true false = refl

and_false : (a : Bool) → (a && false) ≡ false
and_false true = refl
and_false false = refl

abbrev made_now : Makes → SlotId → Makes
made_now s slot = record { func = s.func; made = slice_set s.made slot.0 true; once = s.once && is_fresh s.made slot }

abbrev marked_if : Bool → Makes → SlotId → Makes
marked_if b s slot = if b then made_now s slot else record { func = s.func; made = s.made; once = false }

func_kept_if : (b : Bool) (s : Makes) (slot : SlotId) → (marked_if b s slot).func ≡ s.func
func_kept_if true s slot = refl
func_kept_if false s slot = refl

pub func_kept : (s : Makes) (xs : List SlotId) → (fold marked s xs).func ≡ s.func
func_kept s [] = refl
func_kept s (x ∷ xs) = func_kept (marked s x) xs ∙ func_kept_if (is_small x) s x

fresh_at : (made : List Bool) (x y : SlotId) → x.0 < length made → is_fresh (slice_set made x.0 true) y ≡ (not (same_slot x y) && is_fresh made y)
fresh_at made x y less =
    elim (cases_eq y.0 x.0) as (λ z. is_fresh (slice_set made x.0 true) y ≡ (not (same_slot x y) && is_fresh made y)) [
      | inl e ↦
          let g : get_or (set made x.0 true) y.0 false ≡ true = ap (λ k. get_or (set made x.0 true) k false) e ∙ get_or-set_same made x.0 true false less in
          let q : (x.0 == y.0) ≡ true = eq-eqb x.0 y.0 (sym e) in
          ap not g ∙ sym (ap (λ b. not b && is_fresh made y) q)
      | inr n ↦
          let g : get_or (set made x.0 true) y.0 false ≡ get_or made y.0 false = get_or-set_other made x.0 y.0 true false n in
          let q : (x.0 == y.0) ≡ false = ne_eqb x.0 y.0 (λ h. n (sym h)) in
          ap not g ∙ sym (ap (λ b. not b && is_fresh made y) q)
    ]

regroup : (e h m l : Bool) → ((not e && h) && (not m && l)) ≡ (not (e || m) && (h && l))
regroup true h m l = refl
regroup false true m l = refl
regroup false false m l = sym (and_false (not m))

fresh_all : (made : List Bool) (x : SlotId) (xs : List SlotId) → x.0 < length made → list_all (is_fresh (slice_set made x.0 true)) xs ≡ (not (member x xs) && list_all (is_fresh made) xs)
fresh_all made x [] less = refl
fresh_all made x (y ∷ ys) less =
    ap (λ b. b && list_all (is_fresh (slice_set made x.0 true)) ys) (fresh_at made x y less)
    ∙ ap (λ b. (not (same_slot x y) && is_fresh made y) && b) (fresh_all made x ys less)
    ∙ regroup (same_slot x y) (is_fresh made y) (member x ys) (list_all (is_fresh made) ys)

reorder : (o f m l d : Bool) → ((o && f) && ((not m && l) && d)) ≡ (o && ((f && l) && (not m && d)))
reorder false f m l d = refl
reorder true false m l d = refl
reorder true true true l d = sym (and_false l)
reorder true true false l d = refl

marks : (s : Makes) (xs : List SlotId) → length s.made ≡ 4096 → list_all is_small xs ≡ true → (fold marked s xs).once ≡ (s.once && (list_all (is_fresh s.made) xs && distinct xs))
marks s [] e small = sym (and_true s.once)
marks s (x ∷ xs) e small =
    let p = and_parts (is_small x) (list_all is_small xs) small in
    let l : x.0 < 4096 = ltb-true x.0 4096 p.0 in
    let less : x.0 < length s.made = omega arith in
    ap (λ b. (fold marked (marked_if b s x) xs).once) p.0
    ∙ marks (made_now s x) xs (length-set s.made x.0 true ∙ e) p.1
    ∙ ap (λ b. (s.once && is_fresh s.made x) && (b && distinct xs)) (fresh_all s.made x xs less)
    ∙ reorder s.once (is_fresh s.made x) (member x xs) (list_all (is_fresh s.made) xs) (distinct xs)

all_fresh : (made : List Bool) (xs : List SlotId) → ((k : ℕ) → slice_index_or made k false ≡ false) → list_all (is_fresh made) xs ≡ true
all_fresh made [] none = refl
all_fresh made (x ∷ xs) none = and_from (is_fresh made x) (list_all (is_fresh made) xs) (ap not (none x.0)) (all_fresh made xs none)

pub marks_from_none : (s : Makes) (xs : List SlotId) → length s.made ≡ 4096 → ((k : ℕ) → slice_index_or s.made k false ≡ false) → s.once ≡ true → list_all is_small xs ≡ true → (fold marked s xs).once ≡ distinct xs
marks_from_none s xs e none once small =
    marks s xs e small ∙ ap (λ b. b && (list_all (is_fresh s.made) xs && distinct xs)) once ∙ ap (λ b. b && distinct xs) (all_fresh s.made xs none)

pub none_in : (n k : ℕ) → get_or (replicate n false) k false ≡ false
none_in zero k = refl
none_in (suc n) zero = refl
none_in (suc n) (suc k) = none_in n k
