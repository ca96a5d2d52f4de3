-- The objects and the blocks of storage of a run.
use Rattle.std.specs.Prelude.{ℕ, zero, suc, ◌+◌, ◌==◌, Bool, true, false, if◌then◌else◌, List, [], ◌∷◌, ◌++◌, length, take, replicate, slice_get, slice_set, Option, None, Some}
use Rattle.co_types.specs.declared.types.CoType.{CoType}
use Rattle.co_types.specs.declared.types.Head.{Head}
use Rattle.co_types.specs.declared.types.Head.TheVariants as head
use Rattle.co_types.specs.declared.classes.ClassInfo.{ClassInfo}
use Rattle.co_types.specs.declared.classes.FieldInfo.{FieldInfo}
use Rattle.co_types.specs.Types.{head_of}
use Rattle.co_core_tree.specs.Sizes.{class_words, fields_words, words}
use Rattle.co_meaning_data.specs.declared.values.Cell.{Cell}
use Rattle.co_meaning_data.specs.declared.values.Cell.TheVariants as cell
use Rattle.co_meaning_data.specs.declared.values.Lifetime.{Lifetime}
use Rattle.co_meaning_data.specs.declared.values.Lifetime.TheVariants as lifetime
use Rattle.co_meaning_data.specs.declared.values.Standing.{Standing}
use Rattle.co_meaning_data.specs.declared.values.Standing.TheVariants as standing

-- An object that is no part of another: its type, a cell for each of its words, where it is in its life, the block that it was
-- made in by `new`, and the coroutine whose promise, parameter copy, local or temporary of a class it is.
pub record StoredObject : Type 0 where
  pub of : CoType
  pub cells : List Cell
  pub lifetime : Lifetime
  pub block : Option ℕ
  pub coroutine : Option ℕ

pub record StoredBlock : Type 0 where
  pub words : ℕ
  pub released : Bool
  pub standing : Standing

-- objects and blocks by number; a number is never used again
pub record Store : Type 0 where
  pub objects : List StoredObject
  pub blocks : List StoredBlock

-- an object, or the part of it to which the fields of these numbers lead, the outermost first
pub record Place : Type 0 where
  pub object : ℕ
  pub path : List ℕ

abbrev pub whole : ℕ → Place
whole x = record { object = x; path = [] }

abbrev pub field_of_place : Place → ℕ → Place
field_of_place p k = record { object = p.object; path = p.path ++ k ∷ [] }

-- ---- parts of an object

abbrev pub fields_in : Option ClassInfo → List FieldInfo
fields_in None = []
fields_in (Some info) = info.fields

-- the fields of the objects of a type, in their order; there are none where it is no class
abbrev pub fields_of_head : List ClassInfo → Head → List FieldInfo
fields_of_head classes (head.Class class) = fields_in (slice_get classes class.0)
fields_of_head classes h = []

abbrev pub fields_of : List ClassInfo → CoType → List FieldInfo
fields_of classes of = fields_of_head classes (head_of of)

abbrev pub type_of_field : Option FieldInfo → Option CoType
type_of_field None = None
type_of_field (Some field) = Some field.of

abbrev pub part_step : List ClassInfo → ℕ → Option CoType → Option CoType
part_step classes k None = None
part_step classes k (Some of) = type_of_field (slice_get (fields_of classes of) k)

-- the type of the part of an object to which a path leads
abbrev pub part_type : List ClassInfo → Option CoType → List ℕ → Option CoType
part_type classes of [] = of
part_type classes of (k ∷ path) = part_type classes (part_step classes k of) path

abbrev pub offset_step : List ClassInfo → Option CoType → ℕ → ℕ
offset_step classes None k = 0
offset_step classes (Some of) k = fields_words (λ c. class_words classes c) (take k (fields_of classes of))

-- how many words of the object stand before that part [class.mem]
abbrev pub part_offset : List ClassInfo → Option CoType → List ℕ → ℕ
part_offset classes of [] = 0
part_offset classes of (k ∷ path) = offset_step classes of k + part_offset classes (part_step classes k of) path

abbrev pub words_of : List ClassInfo → Option CoType → ℕ
words_of classes None = 0
words_of classes (Some of) = words classes of

-- ---- objects

abbrev pub object_at : Store → ℕ → Option StoredObject
object_at s x = slice_get s.objects x

abbrev pub with_object : Store → ℕ → StoredObject → Store
with_object s x o = record s { objects = slice_set s.objects x o }

abbrev pub object_type : Option StoredObject → Option CoType
object_type None = None
object_type (Some o) = Some o.of

abbrev pub type_at : List ClassInfo → Store → Place → Option CoType
type_at classes s p = part_type classes (object_type (object_at s p.object)) p.path

abbrev pub offset_at : List ClassInfo → Store → Place → ℕ
offset_at classes s p = part_offset classes (object_type (object_at s p.object)) p.path

-- storage for an object whose lifetime has not begun
abbrev pub raw_object : List ClassInfo → CoType → Option ℕ → Option ℕ → StoredObject
raw_object classes of block coroutine =
    record { of = of; cells = replicate (words classes of) cell.Outside; lifetime = lifetime.Raw; block = block; coroutine = coroutine }

-- an object that has its value, as a parameter does when its function is entered
abbrev pub live_object : CoType → List Cell → StoredObject
live_object of cells = record { of = of; cells = cells; lifetime = lifetime.Live; block = None; coroutine = None }

abbrev pub add_object : StoredObject → Store → Store
add_object o s = record s { objects = s.objects ++ o ∷ [] }

-- the number that the next object gets
abbrev pub next_object : Store → ℕ
next_object s = length s.objects

abbrev pub made_live : Store → ℕ → Option StoredObject → Store
made_live s x None = s
made_live s x (Some o) = with_object s x (record o { lifetime = lifetime.Live })

-- the lifetime of the object begins [basic.life]
abbrev pub make_live : ℕ → Store → Store
make_live x s = made_live s x (object_at s x)

-- ---- cells

abbrev pub cell_in : Option StoredObject → ℕ → Option Cell
cell_in None n = None
cell_in (Some o) n = slice_get o.cells n

-- the cell of the word number n of a part
abbrev pub cell_at : List ClassInfo → Store → Place → ℕ → Option Cell
cell_at classes s p n = cell_in (object_at s p.object) (offset_at classes s p + n)

abbrev pub with_cell : Store → ℕ → ℕ → Cell → Option StoredObject → Store
with_cell s x n c None = s
with_cell s x n c (Some o) = with_object s x (record o { cells = slice_set o.cells n c })

abbrev pub set_cell : List ClassInfo → Place → ℕ → Cell → Store → Store
set_cell classes p n c s = with_cell s p.object (offset_at classes s p + n) c (object_at s p.object)

-- these cells from number n on, `count` of them, are as `c` is
abbrev pub set_cells : ℕ → ℕ → Cell → List Cell → List Cell
set_cells n zero c cells = cells
set_cells n (suc count) c cells = set_cells (suc n) count c (slice_set cells n c)

abbrev pub with_cells : Store → ℕ → ℕ → ℕ → Cell → Option StoredObject → Store
with_cells s x n count c None = s
with_cells s x n count c (Some o) = with_object s x (record o { cells = set_cells n count c o.cells })

-- all scalars of a part become so
abbrev pub set_part : List ClassInfo → Place → Cell → Store → Store
set_part classes p c s = with_cells s p.object (offset_at classes s p) (words_of classes (type_at classes s p)) c (object_at s p.object)

-- the lifetime of a part is over
abbrev pub end_part : List ClassInfo → Place → Store → Store
end_part classes p s = set_part classes p cell.Outside s

abbrev pub all_outside : List Cell → List Cell
all_outside [] = []
all_outside (c ∷ cells) = cell.Outside ∷ all_outside cells

-- ---- blocks

abbrev pub block_at : Store → ℕ → Option StoredBlock
block_at s b = slice_get s.blocks b

abbrev pub with_block : Store → ℕ → StoredBlock → Store
with_block s b block = record s { blocks = slice_set s.blocks b block }

-- the number that the next block gets
abbrev pub next_block : Store → ℕ
next_block s = length s.blocks

abbrev pub add_block : ℕ → Store → Store
add_block words s = record s { blocks = s.blocks ++ record { words = words; released = false; standing = standing.Nothing } ∷ [] }

abbrev pub stands_in : Store → ℕ → Standing → Option StoredBlock → Store
stands_in s b what None = s
stands_in s b what (Some block) = with_block s b (record block { standing = what })

-- this stands in the block from now on
abbrev pub set_standing : ℕ → Standing → Store → Store
set_standing b what s = stands_in s b what (block_at s b)

abbrev pub is_object_standing : ℕ → Standing → Bool
is_object_standing x (standing.Object y) = x == y
is_object_standing x other = false

abbrev pub is_frame_standing : ℕ → Standing → Bool
is_frame_standing c (standing.Frame d) = c == d
is_frame_standing c other = false

abbrev pub is_nothing_standing : Standing → Bool
is_nothing_standing standing.Nothing = true
is_nothing_standing other = false

abbrev pub standing_in : Option StoredBlock → Standing
standing_in None = standing.Nothing
standing_in (Some block) = block.standing

abbrev pub leave_block : ℕ → Option ℕ → Store → Store
leave_block x None s = s
leave_block x (Some b) s = if is_object_standing x (standing_in (block_at s b)) then set_standing b standing.Nothing s else s

abbrev pub ended_object : Store → ℕ → Option StoredObject → Store
ended_object s x None = s
ended_object s x (Some o) =
    leave_block x o.block (with_object s x (record o { lifetime = lifetime.Ended; cells = all_outside o.cells }))

-- The lifetime of the object is over: all its scalars are outside theirs, and it stands in no block [basic.life].
abbrev pub end_object : ℕ → Store → Store
end_object x s = ended_object s x (object_at s x)

abbrev pub end_standing : Standing → Store → Store
end_standing (standing.Object x) s = end_object x s
end_standing other s = s

abbrev pub released_block : Store → ℕ → Option StoredBlock → Store
released_block s b None = s
released_block s b (Some block) = with_block s b (record block { released = true; standing = standing.Nothing })

-- The block is released; an object of `new` that stands in it ends without a destructor [basic.life].
abbrev pub release : ℕ → Store → Store
release b s =
    let ended = end_standing (standing_in (block_at s b)) s in
    released_block ended b (block_at ended b)

abbrev pub is_live_lifetime : Lifetime → Bool
is_live_lifetime lifetime.Live = true
is_live_lifetime l = false

abbrev pub is_ended_lifetime : Lifetime → Bool
is_ended_lifetime lifetime.Ended = true
is_ended_lifetime l = false

abbrev pub is_live_of : Option StoredObject → Bool
is_live_of None = false
is_live_of (Some o) = is_live_lifetime o.lifetime

abbrev pub is_ended_of : Option StoredObject → Bool
is_ended_of None = true
is_ended_of (Some o) = is_ended_lifetime o.lifetime

abbrev pub is_live : Store → ℕ → Bool
is_live s x = is_live_of (object_at s x)

abbrev pub is_ended : Store → ℕ → Bool
is_ended s x = is_ended_of (object_at s x)

abbrev pub coroutine_in : Option StoredObject → Option ℕ
coroutine_in None = None
coroutine_in (Some o) = o.coroutine
