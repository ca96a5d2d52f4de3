-- What becomes of a store where one of its objects or blocks is changed.
use Rattle.std.proofs.Common.{◌≡◌, ℕ, List, map, refl, Option, Some, true}
use Rattle.std.specs.List.{slice_get}
use Rattle.std.specs.Prelude.{slice_set}
use Rattle.std.proofs.lemmas.List.{map-set}
use Rattle.std.proofs.lemmas.Option.{slice_get-map}
use Rattle.co_meaning_data.specs.declared.values.Cell.{Cell}
use Rattle.co_meaning_data.specs.declared.values.Lifetime.TheVariants as lifetime
use Rattle.co_meaning_data.specs.declared.values.Standing.{Standing}
use Rattle.co_meaning_data.specs.declared.values.Standing.TheVariants as standing
use Rattle.co_meaning_data.specs.Store as stored
use Rattle.co_eval_data.specs.Agents.{block_of, object_of}
use Rattle.co_eval_data.specs.declared.stored.StoredBlock.{StoredBlock}
use Rattle.co_eval_data.specs.declared.stored.StoredObject.{StoredObject}

abbrev pub seen : List StoredObject → List StoredBlock → stored.Store
seen objects blocks = record { objects = map object_of objects; blocks = map block_of blocks }

pub lives : (os : List StoredObject) (bs : List StoredBlock) (x : ℕ) (o : StoredObject) → slice_get os x ≡ Some o → seen (slice_set os x (record o { lifetime = lifetime.Live })) bs ≡ stored.make_live x (seen os bs)
lives os bs x o e = rw (slice_get-map, e, map-set) refl

pub written : (os : List StoredObject) (bs : List StoredBlock) (x : ℕ) (o : StoredObject) (n : ℕ) (c : Cell) → slice_get os x ≡ Some o → seen (slice_set os x (record o { cells = slice_set o.cells n c })) bs ≡ stored.with_cell (seen os bs) x n c (stored.object_at (seen os bs) x)
written os bs x o n c e = rw (slice_get-map, e, map-set) refl

pub filled : (os : List StoredObject) (bs : List StoredBlock) (x : ℕ) (o : StoredObject) (n count : ℕ) (c : Cell) → slice_get os x ≡ Some o → seen (slice_set os x (record o { cells = stored.set_cells n count c o.cells })) bs ≡ stored.with_cells (seen os bs) x n count c (stored.object_at (seen os bs) x)
filled os bs x o n count c e = rw (slice_get-map, e, map-set) refl

pub ended : (os : List StoredObject) (bs : List StoredBlock) (x : ℕ) (o : StoredObject) (block : Option ℕ) → slice_get os x ≡ Some o → o.block ≡ block → stored.leave_block x block (seen (slice_set os x (record o { lifetime = lifetime.Ended; cells = stored.all_outside o.cells })) bs) ≡ stored.end_object x (seen os bs)
ended os bs x o block e is = rw (slice_get-map, e, map-set, is) refl

pub stands : (os : List StoredObject) (bs : List StoredBlock) (b : ℕ) (block : StoredBlock) (what : Standing) → slice_get bs b ≡ Some block → seen os (slice_set bs b (record block { standing = what })) ≡ stored.set_standing b what (seen os bs)
stands os bs b block what e = rw (slice_get-map, e, map-set) refl

-- the standing of a block that is there
pub standing_is : (os : List StoredObject) (bs : List StoredBlock) (b : ℕ) (block : StoredBlock) → slice_get bs b ≡ Some block → stored.standing_in (stored.block_at (seen os bs) b) ≡ block.standing
standing_is os bs b block e = rw (slice_get-map, e) refl

pub released : (os : List StoredObject) (bs : List StoredBlock) (b : ℕ) (block : StoredBlock) → slice_get bs b ≡ Some block → seen os (slice_set bs b (record block { released = true; standing = standing.Nothing })) ≡ stored.released_block (seen os bs) b (stored.block_at (seen os bs) b)
released os bs b block e = rw (slice_get-map, e, map-set) refl
