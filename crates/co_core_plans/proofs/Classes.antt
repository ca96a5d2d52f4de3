-- A test of each class in turn.
use Rattle.std.specs.Prelude.{◌≡◌, ℕ, ◌+◌, ◌<◌, zero, suc, Bool, true, false, ◌&&◌, List, [], ◌∷◌, length, slice_get, Some}
use Rattle.std.specs.List.{list_all}
use Rattle.std.proofs.Common.{refl, ap, sym, ◌∙◌, arith, drop, get_or}
use Rattle.std.proofs.lemmas.List.{drop_more}
use Rattle.std.proofs.lemmas.Option.{get_or_from_slice_get, slice_get_within}
use Rattle.co_types.specs.declared.classes.ClassInfo.{ClassInfo}
use Rattle.co_core_tree.specs.declared.units.UnitParts.{UnitParts}
use Rattle.co_core_tree.specs.Sizes.{dtor_of}
use Rattle.co_core.specs.Plans.{classes_destroyed, destroys}

pub drop_at : {X : Type 0} → (xs : List X) (k : ℕ) (x : X) → slice_get xs k ≡ Some x → drop k xs ≡ x ∷ drop (k + 1) xs
drop_at xs k x is = drop_more xs k x (slice_get_within xs k x is) ∙ ap (λ y. y ∷ drop (k + 1) xs) (get_or_from_slice_get xs k x x is)

pub all_stops : {X : Type 0} → (p : X → Bool) (xs : List X) (k : ℕ) (x : X) (whole b : Bool) → slice_get xs k ≡ Some x → list_all p (drop k xs) ≡ whole → b ≡ p x → b ≡ false → false ≡ whole
all_stops p xs k x whole b is inv m f = ap (λ c. c && list_all p (drop (k + 1) xs)) (sym f ∙ m) ∙ sym (ap (list_all p) (drop_at xs k x is)) ∙ inv

pub all_goes_on : {X : Type 0} → (p : X → Bool) (xs : List X) (k : ℕ) (x : X) (whole b : Bool) → slice_get xs k ≡ Some x → list_all p (drop k xs) ≡ whole → b ≡ p x → b ≡ true → list_all p (drop (k + 1) xs) ≡ whole
all_goes_on p xs k x whole b is inv m t = ap (λ c. c && list_all p (drop (k + 1) xs)) (sym t ∙ m) ∙ sym (ap (list_all p) (drop_at xs k x is)) ∙ inv

drop_some : {X : Type 0} → (xs : List X) (k : ℕ) → k < length xs → (y : X) × (drop k xs ≡ y ∷ drop (suc k) xs)
drop_some [] zero less = absurd (omega (arith, less))
drop_some [] (suc k) less = absurd (omega (arith, less))
drop_some (x ∷ xs) zero less = (x, refl)
drop_some (x ∷ xs) (suc k) less = drop_some xs k (omega (arith, less))

drop_next : {X : Type 0} → (xs : List X) (k : ℕ) → k < length xs → (y : X) × (drop k xs ≡ y ∷ drop (k + 1) xs)
drop_next xs k less =
    let d = drop_some xs k less in
    let n : suc k ≡ k + 1 = omega arith in
    (d.0, d.1 ∙ ap (λ m. d.0 ∷ drop m xs) n)

abbrev destroyed_at : UnitParts → ℕ → Bool
destroyed_at unit k = destroys unit (record { 0 = k }) (dtor_of unit.classes (record { 0 = k }))

pub destroyed_stops : (unit : UnitParts) (xs : List ClassInfo) (k : ℕ) (whole b : Bool) → k < length xs → classes_destroyed unit k (drop k xs) ≡ whole → b ≡ destroyed_at unit k → b ≡ false → false ≡ whole
destroyed_stops unit xs k whole b less inv m f =
    ap (λ c. c && classes_destroyed unit (k + 1) (drop (k + 1) xs)) (sym f ∙ m) ∙ sym (ap (classes_destroyed unit k) (drop_next xs k less).1) ∙ inv

pub destroyed_goes_on : (unit : UnitParts) (xs : List ClassInfo) (k : ℕ) (whole b : Bool) → k < length xs → classes_destroyed unit k (drop k xs) ≡ whole → b ≡ destroyed_at unit k → b ≡ true → classes_destroyed unit (k + 1) (drop (k + 1) xs) ≡ whole
destroyed_goes_on unit xs k whole b less inv m t =
    ap (λ c. c && classes_destroyed unit (k + 1) (drop (k + 1) xs)) (sym t ∙ m) ∙ sym (ap (classes_destroyed unit k) (drop_next xs k less).1) ∙ inv
