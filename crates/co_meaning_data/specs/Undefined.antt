-- The undefined acts, each as a test, and which of several counts. Also when two pointers are the same.
use Rattle.std.specs.Prelude.{ℕ, zero, suc, ◌==◌, nat_le, Bool, true, false, not, ◌&&◌, ◌||◌, if◌then◌else◌, List, [], ◌∷◌, slice_get, Option, None, Some, is_none, ℤ}
use Rattle.std.specs.Ordering.{int_eq}
use Rattle.co_base.specs.declared.kinds.CatchOf.{CatchOf}
use Rattle.co_base.specs.declared.kinds.CatchOf.TheVariants as catch
use Rattle.co_base.specs.declared.kinds.Undef.{Undef}
use Rattle.co_base.specs.declared.kinds.Undef.TheVariants.{U4}
use Rattle.co_types.specs.declared.types.CoType.{CoType}
use Rattle.co_types.specs.Types.{same_num, same_type}
use Rattle.co_meaning_data.specs.declared.values.Value.{Value}
use Rattle.co_meaning_data.specs.declared.values.Value.TheVariants as value
use Rattle.co_meaning_data.specs.declared.values.Cell.{Cell}
use Rattle.co_meaning_data.specs.declared.values.Cell.TheVariants as cell
use Rattle.co_meaning_data.specs.declared.values.Standing.{Standing}
use Rattle.co_meaning_data.specs.declared.values.Standing.TheVariants as standing
use Rattle.co_meaning_data.specs.Store.{Store, StoredBlock, StoredObject, block_at, is_ended, is_frame_standing, is_live_lifetime, is_nothing_standing, is_object_standing, object_at, standing_in}
use Rattle.co_meaning_data.specs.Frames.{Condition, Coroutine, Final, Over, Suspended}

-- ---- coroutines by number, from 1 on

abbrev pub numbered : List Coroutine → ℕ → Option Coroutine
numbered coroutines zero = None
numbered coroutines (suc n) = slice_get coroutines n

abbrev pub is_over_condition : Condition → Bool
is_over_condition Over = true
is_over_condition c = false

abbrev pub is_over_of : Option Coroutine → Bool
is_over_of None = true
is_over_of (Some c) = is_over_condition c.condition

-- the coroutine has ended
abbrev pub is_over : List Coroutine → ℕ → Bool
is_over coroutines n = is_over_of (numbered coroutines n)

-- ---- the same pointer

abbrev pub unless_first : ℕ → List ℕ → List ℕ
unless_first zero [] = []
unless_first k path = k ∷ path

-- A pointer to an object and one to its first member are the same, so fields of number 0 at the end of a path count for nothing
-- [basic.compound].
abbrev pub without_first : List ℕ → List ℕ
without_first [] = []
without_first (k ∷ path) = unless_first k (without_first path)

abbrev pub in_block : Store → ℕ → List ℕ → Option ℕ → Value
in_block s x path None = value.Pointer x path
in_block s x path (Some b) = if is_object_standing x (standing_in (block_at s b)) then value.Block b else value.Pointer x path

abbrev pub at_block : Store → ℕ → List ℕ → Option StoredObject → Value
at_block s x path None = value.Pointer x path
at_block s x [] (Some o) = in_block s x [] o.block
at_block s x (k ∷ path) (Some o) = value.Pointer x (k ∷ path)

abbrev pub frame_block : Store → ℕ → Option Coroutine → Value
frame_block s n None = value.Frame n
frame_block s n (Some c) = if is_frame_standing n (standing_in (block_at s c.block)) then value.Block c.block else value.Frame n

-- One value for all pointers that are the same: a block and what stands in it are at one address [basic.compound].
abbrev pub address_of : Store → List Coroutine → Value → Value
address_of s coroutines (value.Pointer x path) = at_block s x (without_first path) (object_at s x)
address_of s coroutines (value.Frame n) = frame_block s n (numbered coroutines n)
address_of s coroutines v = v

abbrev pub same_path : List ℕ → List ℕ → Bool
same_path [] [] = true
same_path (a ∷ p) (b ∷ q) = (a == b) && same_path p q
same_path p q = false

abbrev pub same_kind : CatchOf → CatchOf → Bool
same_kind catch.Any catch.Any = true
same_kind catch.Int catch.Int = true
same_kind catch.Long catch.Long = true
same_kind catch.Bool catch.Bool = true
same_kind (catch.Class a) (catch.Class b) = a.0 == b.0
same_kind a b = false

abbrev pub same_value : Value → Value → Bool
same_value (value.Number m a) (value.Number n b) = same_num m n && int_eq a b
same_value (value.Pointer x p) (value.Pointer y q) = (x == y) && same_path p q
same_value (value.Block a) (value.Block b) = a == b
same_value (value.Frame a) (value.Frame b) = a == b
same_value value.NoopFrame value.NoopFrame = true
same_value (value.Handle a) (value.Handle b) = a == b
same_value value.Noop value.Noop = true
same_value value.Null value.Null = true
same_value (value.Kind a) (value.Kind b) = same_kind a b
same_value value.Empty value.Empty = true
same_value v w = false

-- two pointers or handles compare equal [expr.eq]
abbrev pub is_same : Store → List Coroutine → Value → Value → Bool
is_same s coroutines v w = same_value (address_of s coroutines v) (address_of s coroutines w)

-- ---- the acts

-- an act of a kind, and whether it is one here
pub record Fault : Type 0 where
  pub kind : Undef
  pub holds : Bool

-- U1: a resume or a destroy of a coroutine that is not suspended [coroutine.handle.resumption]
abbrev pub not_suspended_condition : Condition → Bool
not_suspended_condition (Suspended point serial rest) = false
not_suspended_condition (Final point serial rest) = false
not_suspended_condition c = true

abbrev pub not_suspended_of : Option Coroutine → Bool
not_suspended_of None = true
not_suspended_of (Some c) = not_suspended_condition c.condition

abbrev pub not_suspended : List Coroutine → ℕ → Bool
not_suspended coroutines n = not_suspended_of (numbered coroutines n)

abbrev pub has_serial : ℕ → Condition → Bool
has_serial serial (Suspended point other rest) = serial == other
has_serial serial (Final point other rest) = serial == other
has_serial serial c = false

abbrev pub has_serial_of : ℕ → Option Coroutine → Bool
has_serial_of serial None = false
has_serial_of serial (Some c) = has_serial serial c.condition

-- U1: an await is taken back after a later resume or destroy: the coroutine is not at this suspension any more [expr.await]
abbrev pub not_taken_back : List Coroutine → ℕ → ℕ → Bool
not_taken_back coroutines n serial = not (has_serial_of serial (numbered coroutines n))

-- U2: a resume at the final suspend point [coroutine.handle.resumption]
abbrev pub at_final_condition : Condition → Bool
at_final_condition (Final point serial rest) = true
at_final_condition c = false

abbrev pub at_final_of : Option Coroutine → Bool
at_final_of None = false
at_final_of (Some c) = at_final_condition c.condition

abbrev pub at_final : List Coroutine → ℕ → Bool
at_final coroutines n = at_final_of (numbered coroutines n)

-- U3: `promise()` of a coroutine that has none or has ended, and `from_promise` and `from_address` of what is no promise and no
-- frame of such a coroutine [coroutine.handle.promise] [coroutine.handle.export.import]
abbrev pub wrong_object : List Coroutine → ℕ → Bool
wrong_object coroutines n = is_over coroutines n

-- U4: a null pointer or handle
abbrev pub is_null : Value → Bool
is_null value.Null = true
is_null v = false

-- U5: an operation without a result in its type [expr.pre]
abbrev pub has_no_result : Option ℤ → Bool
has_no_result r = is_none r

-- U7: a scalar outside its lifetime is read or written [basic.life]
abbrev pub is_outside : Cell → Bool
is_outside cell.Outside = true
is_outside c = false

-- U8: an indeterminate value is read [dcl.init]
abbrev pub is_indeterminate : Cell → Bool
is_indeterminate cell.Indeterminate = true
is_indeterminate c = false

abbrev pub is_released : Option StoredBlock → Bool
is_released None = true
is_released (Some block) = block.released

-- a pointer into storage that was released or to an object that has ended, or a handle or frame of a coroutine that has
abbrev pub dangles : Store → List Coroutine → Value → Bool
dangles s coroutines (value.Pointer x path) = is_ended s x
dangles s coroutines (value.Block b) = is_released (block_at s b)
dangles s coroutines (value.Frame n) = is_over coroutines n
dangles s coroutines (value.Handle n) = is_over coroutines n
dangles s coroutines v = false

-- U9: two values are compared, none of them null, one of which dangles [basic.stc]
abbrev pub compares_dangling : Store → List Coroutine → Value → Value → Bool
compares_dangling s coroutines v w =
    not (is_null v || is_null w) && (dangles s coroutines v || dangles s coroutines w)

abbrev pub is_room : ℕ → Option StoredBlock → Bool
is_room words None = false
is_room words (Some block) = not block.released && (nat_le words block.words && is_nothing_standing block.standing)

abbrev pub is_room_at : Store → ℕ → Value → Bool
is_room_at s words (value.Block b) = is_room words (block_at s b)
is_room_at s words v = false

-- U10: an `operator new` has not given a block that is not released, has these words and holds nothing [basic.stc.dynamic]
abbrev pub is_no_room : Store → List Coroutine → ℕ → Value → Bool
is_no_room s coroutines words v = not (is_room_at s words (address_of s coroutines v))

abbrev pub holds_frame : Standing → Bool
holds_frame (standing.Frame n) = true
holds_frame other = false

abbrev pub can_release : Option StoredBlock → Bool
can_release None = false
can_release (Some block) = not block.released && not (holds_frame block.standing)

abbrev pub can_release_at : Store → Value → Bool
can_release_at s (value.Block b) = can_release (block_at s b)
can_release_at s v = false

-- U11: what is released is no block, or was released, or a frame stands in it [basic.stc.dynamic]
abbrev pub is_no_block : Store → List Coroutine → Value → Bool
is_no_block s coroutines v = not (can_release_at s (address_of s coroutines v))

abbrev pub is_new_in : Store → ℕ → Option ℕ → Bool
is_new_in s x None = false
is_new_in s x (Some b) = is_object_standing x (standing_in (block_at s b))

abbrev pub is_new_of : Store → CoType → ℕ → Option StoredObject → Bool
is_new_of s of x None = false
is_new_of s of x (Some o) = is_live_lifetime o.lifetime && (same_type of o.of && is_new_in s x o.block)

abbrev pub is_new : Store → CoType → Value → Bool
is_new s of (value.Pointer x []) = is_new_of s of x (object_at s x)
is_new s of v = false

-- U11: what is deleted is not the whole live object, of this type, of a `new` [expr.delete]
abbrev pub is_not_new : Store → CoType → Value → Bool
is_not_new s of v = not (is_new s of v)

-- U12: an address that no rule has given: it is of no object
abbrev pub is_no_place : Value → Bool
is_no_place (value.Pointer x path) = false
is_no_place v = true

-- ---- which counts

abbrev pub is_null_fault : Undef → Bool
is_null_fault U4 = true
is_null_fault kind = false

abbrev pub null_among : List Fault → Bool
null_among [] = false
null_among (fault ∷ faults) = (fault.holds && is_null_fault fault.kind) || null_among faults

abbrev pub first_among : List Fault → Option Undef
first_among [] = None
first_among (fault ∷ faults) = if fault.holds then Some fault.kind else first_among faults

-- Of several acts that one step would make, given in the order of their kinds, the use of null counts before all others, and
-- else the first.
abbrev pub counts : List Fault → Option Undef
counts faults = if null_among faults then Some U4 else first_among faults
