-- Items of a list that are found and set.
use Rattle.std.proofs.Common.{◌≡◌, ℕ, List, length, refl, Option, Some, None, MutBor}
use Rattle.std.specs.List.{slice_get, IsItemAtMut}
use Rattle.std.proofs.lemmas.Option.{slice_get_past, slice_get_read}

pub found : {X : Type 0} (xs : List X) (i : ℕ) (b : MutBor X) → IsItemAtMut xs i (Some b) → slice_get xs i ≡ Some b.now
found xs i b item = slice_get_read xs (length xs) i b.now refl item.3.0 item.1

pub missing : {X : Type 0} (xs : List X) (i : ℕ) (r : Option (MutBor X)) → r ≡ None → IsItemAtMut xs i r → slice_get xs i ≡ None
missing xs i None is item = slice_get_past xs i item.3
missing xs i (Some b) is item = cc
