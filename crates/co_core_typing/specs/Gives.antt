-- What an expression gives: a place, a value, or nothing.
use Rattle.std.specs.Prelude.{ℕ, Bool, true, false, ◌||◌, ◌&&◌, if◌then◌else◌, List, Option, None, Some, slice_get}
use Rattle.co_base.specs.declared.kinds.Num.{Num}
use Rattle.co_base.specs.declared.kinds.Num.TheVariants as num
use Rattle.co_base.specs.declared.kinds.Op.{Op}
use Rattle.co_base.specs.declared.kinds.Op.TheVariants as op
use Rattle.co_base.specs.declared.kinds.AtomicKind.{AtomicKind}
use Rattle.co_base.specs.declared.kinds.AtomicKind.TheVariants as atomic
use Rattle.co_base.specs.declared.ids.ClassId.{ClassId}
use Rattle.co_types.specs.declared.types.CoType.{CoType}
use Rattle.co_types.specs.declared.types.CoType.TheVariants as type
use Rattle.co_types.specs.declared.types.Head.{Head}
use Rattle.co_types.specs.declared.types.Head.TheVariants as head
use Rattle.co_types.specs.declared.classes.ClassInfo.{ClassInfo}
use Rattle.co_types.specs.declared.classes.FieldInfo.{FieldInfo}
use Rattle.co_types.specs.Types.{head_of, target_of, same_head, same_num, same_type}

-- the type of a value: its kind, and what it points or refers to
pub record Shape : Type 0 where
  pub head : Head
  pub target : Option CoType

-- What an expression gives: the place of an object of a type, a value of a type, or nothing, as a `void` call does; a `throw`
-- stands for an expression of any type [expr.cond]. Where its parts have types that its form can't take, it is wrong.
pub data Gives : Type 0 where
  Place : (of : CoType) → Gives
  Value : (of : Shape) → Gives
  Nothing : Gives
  Throws : Gives
  Wrong : Gives

abbrev pub shape_of : CoType → Shape
shape_of of = record { head = head_of of; target = target_of of }

abbrev pub plain_shape : Head → Shape
plain_shape h = record { head = h; target = None }

abbrev pub number : Num → Gives
number n = Value (plain_shape (head.Num n))

abbrev pub truth : Gives
truth = number num.Bool

abbrev pub pointer_shape : CoType → Shape
pointer_shape to = record { head = head.Pointer; target = Some to }

-- a `void*`
abbrev pub address_shape : Shape
address_shape = pointer_shape type.Void

-- ---- kinds of types

-- a type whose values are read and written at once
abbrev pub is_scalar : Head → Bool
is_scalar head.Void = false
is_scalar (head.Class c) = false
is_scalar (head.Atomic k) = false
is_scalar h = true

abbrev pub is_reference : Head → Bool
is_reference head.Ref = true
is_reference head.ConstRef = true
is_reference head.RefRef = true
is_reference h = false

-- a scalar to which a value may be assigned [expr.ass]
abbrev pub is_assignable : Head → Bool
is_assignable (head.Num n) = true
is_assignable head.Pointer = true
is_assignable (head.Handle p) = true
is_assignable head.ExceptionPtr = true
is_assignable h = false

-- a type that has a null value
abbrev pub is_nullable : Head → Bool
is_nullable head.Pointer = true
is_nullable (head.Handle p) = true
is_nullable head.ExceptionPtr = true
is_nullable h = false

abbrev pub is_pointer : Head → Bool
is_pointer head.Pointer = true
is_pointer h = false

abbrev pub is_handle : Head → Bool
is_handle (head.Handle p) = true
is_handle h = false

abbrev pub is_null : Head → Bool
is_null head.NullPtr = true
is_null h = false

abbrev pub is_void : Head → Bool
is_void head.Void = true
is_void h = false

-- ---- the same type

abbrev pub same_target : Option CoType → Option CoType → Bool
same_target None None = true
same_target (Some a) (Some b) = same_type a b
same_target a b = false

abbrev pub same_shape : Shape → Shape → Bool
same_shape a b = same_head a.head b.head && same_target a.target b.target

abbrev pub targets_void : Option CoType → Bool
targets_void None = false
targets_void (Some to) = is_void (head_of to)

abbrev pub is_address : Shape → Bool
is_address of = is_pointer of.head && targets_void of.target

-- ---- conversions that pass without a form of their own

-- a pointer as a `void*`, a handle as a `std::coroutine_handle<>`, and null as any type that has it [conv.ptr]
abbrev pub widens : Head → Shape → Bool
widens head.NullPtr to = is_nullable to.head
widens head.Pointer to = is_address to
widens (head.Handle p) to = same_head to.head (head.Handle None)
widens h to = false

-- a value of the first type stands where one of the second is wanted
abbrev pub converts : Shape → Shape → Bool
converts from to = same_shape from to || widens from.head to

-- the value of a `std::atomic`
abbrev pub plain : AtomicKind → Shape
plain atomic.Int = plain_shape (head.Num num.Int)
plain atomic.Long = plain_shape (head.Num num.Long)
plain atomic.Bool = plain_shape (head.Num num.Bool)
plain atomic.VoidPointer = address_shape

-- ---- tests of what is given

abbrev pub is_right : Gives → Bool
is_right Wrong = false
is_right g = true

abbrev pub is_number_head : Num → Head → Bool
is_number_head n (head.Num m) = same_num n m
is_number_head n h = false

abbrev pub is_some_number_head : Head → Bool
is_some_number_head (head.Num m) = true
is_some_number_head h = false

-- a value of this type of integers
abbrev pub is_number : Num → Gives → Bool
is_number n (Value of) = is_number_head n of.head
is_number n g = false

-- a value of some type of integers
abbrev pub is_some_number : Gives → Bool
is_some_number (Value of) = is_some_number_head of.head
is_some_number g = false

-- a value that stands where one of the type is wanted
abbrev pub value_converts : Shape → Gives → Bool
value_converts to (Value of) = converts of to
value_converts to Throws = true
value_converts to g = false

-- the place of an object of the type
abbrev pub is_place_of : CoType → Gives → Bool
is_place_of to (Place of) = same_type of to
is_place_of to Throws = true
is_place_of to g = false

abbrev pub is_place_of_target : Option CoType → Gives → Bool
is_place_of_target None g = false
is_place_of_target (Some to) g = is_place_of to g

-- ---- what a form gives, by its parts

-- a shift takes a count of any type of integers [expr.shift]
abbrev pub is_shift : Op → Bool
is_shift op.Shl = true
is_shift op.Shr = true
is_shift o = false

abbrev pub is_comparison : Op → Bool
is_comparison op.Lt = true
is_comparison op.Le = true
is_comparison op.Gt = true
is_comparison op.Ge = true
is_comparison op.Eq = true
is_comparison op.Ne = true
is_comparison o = false

-- comparisons give `bool` [expr.rel] [expr.eq], the others a value of the type in which they compute
abbrev pub arith_gives : Op → Num → Gives
arith_gives o n = if is_comparison o then truth else number n

abbrev pub field_in : Option FieldInfo → Gives
field_in None = Wrong
field_in (Some field) = Place field.of

abbrev pub field_of : Option ClassInfo → ℕ → Gives
field_of None k = Wrong
field_of (Some info) k = field_in (slice_get info.fields k)

abbrev pub field_of_head : List ClassInfo → Head → ℕ → Gives
field_of_head classes (head.Class c) k = field_of (slice_get classes c.0) k
field_of_head classes h k = Wrong

-- the place of a field of an object of a class [expr.ref]
abbrev pub field_place : List ClassInfo → Gives → ℕ → Gives
field_place classes (Place of) k = field_of_head classes (head_of of) k
field_place classes g k = Wrong

abbrev pub place_unless_void : CoType → Gives
place_unless_void to = if is_void (head_of to) then Wrong else Place to

abbrev pub target_place : Option CoType → Gives
target_place None = Wrong
target_place (Some to) = place_unless_void to

-- the object that a pointer points to or a reference refers to; a `void*` points to none [expr.unary.op]
abbrev pub referent : Gives → Gives
referent (Value of) = target_place of.target
referent g = Wrong

abbrev pub pointer_unless_reference : CoType → Gives
pointer_unless_reference of = if is_reference (head_of of) then Wrong else Value (pointer_shape of)

-- a pointer to an object; there is none to a reference [dcl.ptr]
abbrev pub pointer_to : Gives → Gives
pointer_to (Place of) = pointer_unless_reference of
pointer_to g = Wrong

abbrev pub load_of : CoType → Gives
load_of of = if is_scalar (head_of of) then Value (shape_of of) else Wrong

-- the value of the scalar at a place [conv.lval]
abbrev pub loaded : Gives → Gives
loaded (Place of) = load_of of
loaded g = Wrong

abbrev pub join_shapes : Shape → Shape → Gives
join_shapes a b = if converts a b then Value b else (if converts b a then Value a else Wrong)

abbrev pub join_values : Shape → Shape → Gives
join_values a b = if is_scalar a.head && is_scalar b.head then join_shapes a b else Wrong

-- What `?:` gives by its branches: the place or the value that both give, up to a conversion of one to the other's type; beside
-- a `throw` what the other gives [expr.cond].
abbrev pub joined : Gives → Gives → Gives
joined Throws y = y
joined x Throws = x
joined (Place a) (Place b) = if same_type a b then Place a else Wrong
joined (Value a) (Value b) = join_values a b
joined Nothing Nothing = Nothing
joined x y = Wrong

abbrev pub result_of_head : Head → CoType → Gives
result_of_head head.Void result = Nothing
result_of_head head.Ref result = target_place (target_of result)
result_of_head head.ConstRef result = target_place (target_of result)
result_of_head head.RefRef result = target_place (target_of result)
result_of_head h result = Value (shape_of result)

-- what a call of a function with this result gives: a reference is the place that it refers to [expr.call]
abbrev pub result_gives : CoType → Gives
result_gives result = result_of_head (head_of result) result

abbrev pub class_place : Option ClassId → Gives
class_place None = Wrong
class_place (Some c) = Place (type.Class c)

-- the object that an enclosing list of members is making, the innermost first
abbrev pub whole_place : List ClassId → ℕ → Gives
whole_place wholes k = class_place (slice_get wholes k)
