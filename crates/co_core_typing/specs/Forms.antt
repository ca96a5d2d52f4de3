-- What each form of the core tree takes and gives.
use Rattle.std.specs.Prelude.{Bool, true, false, not, ◌||◌, ◌&&◌, ◌==◌, if◌then◌else◌, List, [], ◌∷◌, Option, None, Some}
use Rattle.co_base.specs.declared.kinds.Num.{Num}
use Rattle.co_base.specs.declared.kinds.Num.TheVariants as num
use Rattle.co_base.specs.declared.kinds.Op.{Op}
use Rattle.co_base.specs.declared.kinds.AtomicKind.{AtomicKind}
use Rattle.co_base.specs.declared.kinds.AtomicKind.TheVariants as atomic
use Rattle.co_base.specs.declared.ids.ClassId.{ClassId}
use Rattle.co_base.specs.declared.ids.SlotId.{SlotId}
use Rattle.co_types.specs.declared.types.CoType.{CoType}
use Rattle.co_types.specs.declared.types.Head.{Head}
use Rattle.co_types.specs.declared.types.Head.TheVariants as head
use Rattle.co_types.specs.Types.{head_of, target_of, same_head}
use Rattle.co_core_tree.specs.declared.kinds.Answer.{Answer}
use Rattle.co_core_tree.specs.declared.kinds.Answer.TheVariants as answer
use Rattle.co_core_tree.specs.declared.kinds.HandleOp.{HandleOp}
use Rattle.co_core_tree.specs.declared.kinds.HandleOp.TheVariants as handle
use Rattle.co_core_tree.specs.declared.kinds.AtomicOp.{AtomicOp}
use Rattle.co_core_tree.specs.declared.kinds.AtomicOp.TheVariants as act
use Rattle.co_core_tree.specs.declared.kinds.LibOp.{LibOp}
use Rattle.co_core_tree.specs.declared.kinds.LibOp.TheVariants as lib
use Rattle.co_core_tree.specs.declared.kinds.SlotKind.{SlotKind}
use Rattle.co_core_tree.specs.declared.kinds.SlotKind.TheVariants as kind
use Rattle.co_core_tree.specs.declared.units.SlotInfo.{SlotInfo}
use Rattle.co_core_tree.specs.declared.exprs.CoreExpr.{CoreExpr}
use Rattle.co_core_tree.specs.declared.exprs.CoreExpr.TheVariants as expr
use Rattle.co_core_typing.specs.Gives.{Shape, Gives, Place, Value, Nothing, Throws, Wrong, shape_of, plain_shape, number, truth, pointer_shape, address_shape, is_reference, is_assignable, is_nullable, is_pointer, is_handle, is_null, same_shape, is_address, plain, is_right, is_number, is_some_number, value_converts, is_place_of, is_place_of_target, is_shift, is_comparison, loaded, class_place}

-- ---- assignments and operations

abbrev pub fits_store : CoType → Gives → Bool
fits_store of value = is_assignable (head_of of) && value_converts (shape_of of) value

-- a value is assigned to the place of a scalar that can hold it [expr.ass]
abbrev pub store_fits : Gives → Gives → Bool
store_fits (Place of) value = fits_store of value
store_fits g value = false

-- the right operand: of the type in which the operation computes, and of a shift any count [expr.shift]
abbrev pub operand_fits : Op → Num → Gives → Bool
operand_fits o n g = if is_shift o then is_some_number g else is_number n g

abbrev pub arith_fits : Op → Num → Gives → Gives → Bool
arith_fits o n left right = is_number n left && operand_fits o n right

abbrev pub is_some_number_type : Head → Bool
is_some_number_type (head.Num m) = true
is_some_number_type h = false

abbrev pub is_number_place : Gives → Bool
is_number_place (Place of) = is_some_number_type (head_of of)
is_number_place g = false

-- an operator that has an assigning form [expr.ass]
abbrev pub update_fits : Op → Num → Gives → Gives → Bool
update_fits o n place value = not (is_comparison o) && (is_number_place place && operand_fits o n value)

abbrev pub updated : Bool → Gives → Gives
updated true place = loaded place
updated false place = place

abbrev pub is_testable_shape : Shape → Bool
is_testable_shape of = is_nullable of.head || is_null of.head

-- a value that is null or not
abbrev pub is_testable : Gives → Bool
is_testable (Value of) = is_testable_shape of
is_testable g = false

abbrev pub same_pointers : Shape → Shape → Bool
same_pointers a b = is_pointer a.head && (is_pointer b.head && (same_shape a b || (is_address a || is_address b)))

abbrev pub null_beside : Head → Head → Bool
null_beside a b = (is_nullable a && is_null b) || (is_null a && is_nullable b)

abbrev pub comparable : Shape → Shape → Bool
comparable a b = same_pointers a b || ((is_handle a.head && is_handle b.head) || null_beside a.head b.head)

-- two pointers of one type or one of them `void*`, two handles, or one of these or a `std::exception_ptr` beside null [expr.eq]
abbrev pub same_fits : Gives → Gives → Bool
same_fits (Value a) (Value b) = comparable a b
same_fits g h = false

abbrev pub are_truths : Gives → Gives → Bool
are_truths a b = is_number num.Bool a && is_number num.Bool b

abbrev pub pick_fits : Gives → Gives → Bool
pick_fits condition result = is_number num.Bool condition && is_right result

-- ---- handles, atomics and the library

abbrev pub handle_shape : Option ClassId → Shape
handle_shape promise = plain_shape (head.Handle promise)

-- a handle of whatever promise, or null
abbrev pub is_handle_value : Gives → Bool
is_handle_value g = value_converts (handle_shape None) g

abbrev pub given : Bool → Gives → Gives
given true g = g
given false g = Wrong

abbrev pub promise_of_head : Head → Gives
promise_of_head (head.Handle promise) = class_place promise
promise_of_head h = Wrong

abbrev pub promise_of : Gives → Gives
promise_of (Value of) = promise_of_head of.head
promise_of g = Wrong

abbrev pub handle_of_head : Head → Gives
handle_of_head (head.Class class) = Value (handle_shape (Some class))
handle_of_head h = Wrong

abbrev pub handle_of : Gives → Gives
handle_of (Place of) = handle_of_head (head_of of)
handle_of g = Wrong

-- what an act on a handle gives by its operands [coroutine.handle]
abbrev pub handle_gives : HandleOp → List Gives → Gives
handle_gives handle.Resume (h ∷ []) = given (is_handle_value h) Nothing
handle_gives handle.Destroy (h ∷ []) = given (is_handle_value h) Nothing
handle_gives handle.Done (h ∷ []) = given (is_handle_value h) truth
handle_gives handle.Promise (h ∷ []) = promise_of h
handle_gives handle.FromPromise (p ∷ []) = handle_of p
handle_gives handle.Address (h ∷ []) = given (is_handle_value h) (Value address_shape)
handle_gives (handle.FromAddress promise) (a ∷ []) = given (value_converts address_shape a) (Value (handle_shape promise))
handle_gives handle.Noop [] = Value (handle_shape None)
handle_gives o operands = Wrong

abbrev pub atomic_kind_of_head : Head → Option AtomicKind
atomic_kind_of_head (head.Atomic k) = Some k
atomic_kind_of_head h = None

abbrev pub atomic_kind : Gives → Option AtomicKind
atomic_kind (Place of) = atomic_kind_of_head (head_of of)
atomic_kind g = None

-- `fetch_add` and `fetch_sub` are those of `int` and `long`
abbrev pub counts : AtomicKind → Bool
counts atomic.Int = true
counts atomic.Long = true
counts k = false

abbrev pub is_place_of_shape : Shape → Gives → Bool
is_place_of_shape to (Place of) = same_shape (shape_of of) to
is_place_of_shape to g = false

abbrev pub atomic_acts : AtomicOp → AtomicKind → List Gives → Gives
atomic_acts act.Load k [] = Value (plain k)
atomic_acts act.Store k (v ∷ []) = given (value_converts (plain k) v) Nothing
atomic_acts act.Swap k (v ∷ []) = given (value_converts (plain k) v) (Value (plain k))
atomic_acts act.Add k (v ∷ []) = given (counts k && value_converts (plain k) v) (Value (plain k))
atomic_acts act.Sub k (v ∷ []) = given (counts k && value_converts (plain k) v) (Value (plain k))
atomic_acts act.Cas k (x ∷ v ∷ []) = given (is_place_of_shape (plain k) x && value_converts (plain k) v) truth
atomic_acts o k operands = Wrong

abbrev pub atomic_of : AtomicOp → Option AtomicKind → List Gives → Gives
atomic_of o None operands = Wrong
atomic_of o (Some k) operands = atomic_acts o k operands

-- what an act on an atomic gives: its place comes first [atomics.types.operations]
abbrev pub atomic_gives : AtomicOp → List Gives → Gives
atomic_gives o [] = Wrong
atomic_gives o (place ∷ operands) = atomic_of o (atomic_kind place) operands

-- what a call of the library gives by its arguments
abbrev pub lib_gives : LibOp → List Gives → Gives
lib_gives lib.Print (v ∷ []) = given (is_number num.Long v) Nothing
lib_gives lib.Lit (v ∷ []) = given (is_number num.Int v) Nothing
lib_gives lib.Post (h ∷ []) = given (is_handle_value h) Nothing
lib_gives lib.Input (v ∷ []) = given (is_number num.Long v) (number num.Long)
lib_gives lib.Inputs [] = number num.Long
lib_gives lib.Take (v ∷ []) = given (is_number num.Size v) (Value address_shape)
lib_gives lib.Give (p ∷ []) = given (value_converts address_shape p) Nothing
lib_gives lib.Give (p ∷ v ∷ []) = given (value_converts address_shape p && is_number num.Size v) Nothing
lib_gives o operands = Wrong

-- ---- objects

-- a type that has objects
abbrev pub is_object : Head → Bool
is_object head.Void = false
is_object head.NullPtr = false
is_object h = not (is_reference h)

abbrev pub is_pointer_value_to : CoType → Gives → Bool
is_pointer_value_to to (Value of) = same_shape of (pointer_shape to)
is_pointer_value_to to g = false

-- a pointer to an object of exactly this type [expr.delete]
abbrev pub delete_fits : CoType → Gives → Bool
delete_fits of g = is_object (head_of of) && is_pointer_value_to of g

-- a scalar that may stay indeterminate [dcl.init]
abbrev pub is_raw : Head → Bool
is_raw (head.Num n) = true
is_raw head.Pointer = true
is_raw h = false

abbrev pub is_class_of : Head → Bool
is_class_of (head.Class class) = true
is_class_of h = false

abbrev pub is_throw : Gives → Bool
is_throw Throws = true
is_throw g = false

abbrev pub object_fits : Bool → CoType → Gives → Bool
object_fits object to g = is_throw g || (object && is_place_of to g)

abbrev pub value_fits_head : Bool → Head → CoType → Gives → Bool
value_fits_head object head.Void to g = false
value_fits_head object head.NullPtr to g = false
value_fits_head object head.Ref to g = is_place_of_target (target_of to) g
value_fits_head object head.ConstRef to g = is_place_of_target (target_of to) g
value_fits_head object head.RefRef to g = is_place_of_target (target_of to) g
value_fits_head object (head.Class class) to g = object_fits object to g
value_fits_head object (head.Atomic k) to g = value_converts (plain k) g
value_fits_head object h to g = value_converts (shape_of to) g

-- A scalar is initialized by a value, a reference by the place that it is to refer to, and a class parameter by the place of
-- the object that a `Temp` makes for it [dcl.init] [dcl.init.ref].
abbrev pub value_fits : Bool → CoType → Gives → Bool
value_fits object to g = value_fits_head object (head_of to) to g

-- the class result of a call or an await
abbrev pub result_fits : Head → Gives → Bool
result_fits to (Value of) = is_class_of to && same_head of.head to
result_fits to g = false

abbrev pub choose_fits : Head → Gives → Bool
choose_fits to g = is_class_of to && is_number num.Bool g

-- a `Temp`
abbrev pub is_temp : CoreExpr → Bool
is_temp (expr.Temp' slot n i at) = true
is_temp e = false

-- ---- awaits

-- the `Temp` of this slot
abbrev pub makes_temp : SlotId → CoreExpr → Bool
makes_temp holder (expr.Temp' slot n i at) = slot.0 == holder.0
makes_temp holder e = false

abbrev pub holds_reference : CoType → Gives → Bool
holds_reference of operand = same_head (head_of of) head.Ref && is_place_of_target (target_of of) operand

abbrev pub holds : SlotKind → CoType → Bool → Gives → Bool
holds kind.Temp of temp operand = temp
holds kind.Held of temp operand = holds_reference of operand
holds k of temp operand = false

-- an awaiter that is a prvalue is the temporary in its slot; to another one a slot that is kept refers [expr.await]
abbrev pub holder_fits : Option SlotInfo → Bool → Gives → Bool
holder_fits None temp operand = false
holder_fits (Some slot) temp operand = holds slot.kind slot.of temp operand

-- `await_suspend` gives nothing that is used, a `bool`, or a handle [expr.await]
abbrev pub answer_fits : Answer → Gives → Bool
answer_fits answer.Void g = true
answer_fits answer.Bool g = is_number num.Bool g
answer_fits answer.Handle g = is_handle_value g

abbrev pub await_fits : Option SlotInfo → Bool → Answer → Gives → Gives → Gives → Bool
await_fits holder temp a operand ready suspend = holder_fits holder temp operand && (is_number num.Bool ready && answer_fits a suspend)
