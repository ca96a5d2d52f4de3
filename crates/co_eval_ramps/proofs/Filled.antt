-- A new object all of whose scalars become indeterminate.
use Rattle.std.specs.Prelude.{◌≡◌, ℕ, zero, suc, List, [], ◌∷◌, ◌++◌, length, replicate, slice_get, slice_set, Option, None, Some}
use Rattle.std.proofs.Common.{refl, ap, ◌∙◌}
use Rattle.co_core_tree.specs.Sizes.{words}
use Rattle.co_meaning_data.specs.Store.{Store, StoredObject, add_object, next_object, object_type, raw_object, set_cells, set_part, whole, with_cells, words_of}
use Rattle.co_meaning_data.specs.declared.values.Cell.{Cell}
use Rattle.co_meaning_data.specs.declared.values.Cell.TheVariants as cell
use Rattle.co_types.specs.declared.classes.ClassInfo.{ClassInfo}
use Rattle.co_types.specs.declared.types.CoType.{CoType}

last_there : {A : Type 0} (xs : List A) (x : A) → slice_get (xs ++ x ∷ []) (length xs) ≡ Some x
last_there [] x = refl
last_there (y ∷ xs) x = last_there xs x

last_set : {A : Type 0} (xs : List A) (x y : A) → slice_set (xs ++ x ∷ []) (length xs) y ≡ xs ++ y ∷ []
last_set [] x y = refl
last_set (z ∷ xs) x y = ap (λ k. z ∷ k) (last_set xs x y)

set_under : (n count : ℕ) (c d : Cell) (cells : List Cell) → set_cells (suc n) count c (d ∷ cells) ≡ d ∷ set_cells n count c cells
set_under n zero c d cells = refl
set_under n (suc count) c d cells = set_under (suc n) count c d (slice_set cells n c)

all_set : (count : ℕ) (c d : Cell) → set_cells 0 count c (replicate count d) ≡ replicate count c
all_set zero c d = refl
all_set (suc count) c d = set_under 0 count c c (replicate count d) ∙ ap (λ k. c ∷ k) (all_set count c d)

-- such an object
abbrev pub indeterminate : List ClassInfo → CoType → Option ℕ → StoredObject
indeterminate classes of coroutine = record (raw_object classes of None coroutine) { cells = replicate (words classes of) cell.Indeterminate }

pub filled : (classes : List ClassInfo) (of : CoType) (coroutine : Option ℕ) (s : Store) →
    set_part classes (whole (next_object s)) cell.Indeterminate (add_object (raw_object classes of None coroutine) s) ≡ add_object (indeterminate classes of coroutine) s
filled classes of coroutine s =
    let raw = raw_object classes of None coroutine in
    let x = next_object s in
    let made = add_object raw s in
    let cells = set_cells 0 (words classes of) cell.Indeterminate (replicate (words classes of) cell.Outside) in
    ap (λ (o : Option StoredObject). with_cells made x 0 (words_of classes (object_type o)) cell.Indeterminate o) (last_there s.objects raw)
    ∙ ap (λ (list : List StoredObject). record s { objects = list }) (last_set s.objects raw (record raw { cells = cells }))
    ∙ ap (λ (k : List Cell). add_object (record raw { cells = k }) s) (all_set (words classes of) cell.Indeterminate cell.Outside)
