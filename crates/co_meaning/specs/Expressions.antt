-- Expressions and initializers: which parts are evaluated first, and what is done with what they give [expr] [dcl.init].
use Rattle.std.specs.Prelude.{ℕ, ◌*◌, Bool, true, false, not, ◌&&◌, if◌then◌else◌, List, [], ◌∷◌, length, slice_get, Option, None, Some, is_none, ℤ, pos}
use Rattle.co_base.specs.Integers.{arith_of, convert_of}
use Rattle.co_base.specs.declared.ids.ClassId.{ClassId}
use Rattle.co_base.specs.declared.ids.FuncId.{FuncId}
use Rattle.co_base.specs.declared.kinds.CatchOf.{CatchOf}
use Rattle.co_base.specs.declared.kinds.CatchOf.TheVariants as catch
use Rattle.co_base.specs.declared.kinds.Num.{Num}
use Rattle.co_base.specs.declared.kinds.Num.TheVariants as num
use Rattle.co_base.specs.declared.kinds.Op.{Op}
use Rattle.co_base.specs.declared.kinds.Op.TheVariants as op
use Rattle.co_base.specs.declared.kinds.Thrown.{Thrown}
use Rattle.co_base.specs.declared.kinds.Thrown.TheVariants as thrown
use Rattle.co_base.specs.declared.kinds.Undef.TheVariants.{U4, U5, U9, U10, U11, U12}
use Rattle.co_base.specs.declared.span.Span.{Span}
use Rattle.co_types.specs.declared.types.CoType.{CoType}
use Rattle.co_types.specs.declared.types.Head.{Head}
use Rattle.co_types.specs.declared.types.Head.TheVariants as head
use Rattle.co_types.specs.Types.{head_of}
use Rattle.co_core_tree.specs.Sizes.{words}
use Rattle.co_core_tree.specs.declared.exprs.CoreExpr.{CoreExpr, end_of-AwaitPlan, end_of-CoreExpr, end_of-DeletePlan, end_of-Init, end_of-NewPlan, items-the_row-CoreExpr, items-the_row-Init, more_of-AwaitPlan, more_of-CoreExpr, more_of-DeletePlan, more_of-Init, more_of-NewPlan}
use Rattle.co_core_tree.specs.declared.exprs.CoreExpr.TheVariants as expr
use Rattle.co_core_tree.specs.declared.exprs.DeletePlan.{DeletePlan}
use Rattle.co_core_tree.specs.declared.exprs.Init.{Init}
use Rattle.co_core_tree.specs.declared.exprs.Init.TheVariants as init
use Rattle.co_core_tree.specs.declared.exprs.NewPlan.{NewPlan}
use Rattle.co_core_tree.specs.declared.kinds.TakePlan.{TakePlan}
use Rattle.co_core_tree.specs.declared.kinds.TakePlan.TheVariants as take_plan
use Rattle.co_meaning_data.specs.declared.values.Cell.TheVariants as cell
use Rattle.co_meaning_data.specs.declared.values.Standing.TheVariants as standing
use Rattle.co_meaning_data.specs.declared.values.Value.{Value}
use Rattle.co_meaning_data.specs.declared.values.Value.TheVariants as value
use Rattle.co_meaning_data.specs.Frames.{Alive, InFull, AddressOf, ArithRight, At, AwaitOperand, BothRight, Building, Calling, ChooseOne, Comes, Constructing, ConvertTo, DeleteEnded, DeleteOf, Drops, EitherRight, Evaluate, ExchangePlace, FieldOf, Frame, Given, Gives, Initialize, Joined, LoadFrom, NewMade, NewTaken, Nothing, OfLibrary, OnAtomic, OnHandle, Operands, Outcome, Parts, Passes, PickOne, Reads, Referent, Releases, ResultInto, RethrowOf, SameRight, Scalar, StoreValue, TempMade, TestOf, ThrowOf, ThrowRead, Throwing, UpdateValue, ValueInto, Writes}
use Rattle.co_meaning_data.specs.Store.{Place, StoredObject, add_object, end_object, fields_of, make_live, next_object, object_at, raw_object, set_part, set_standing, type_at, whole}
use Rattle.co_meaning_data.specs.Undefined.{compares_dangling, is_no_place, is_no_room, is_not_new, is_null, is_same, same_value}
use Rattle.co_meaning_calls.specs.Coroutines.{coroutines, is_zero, null_fault, size_given, take_block}
use Rattle.co_meaning_calls.specs.Objects.{set_mark, call_with, counted_in, lives, type_of_slot, with_raw}
use Rattle.co_meaning_data.specs.Turn.{Local, Turned, classes, gives, goes, is_uncaught, leaves, nowhere, object_in, passes, pointer, pushed, store, truth, under, unless_undefined, with_frames, with_store}

-- ---- places in the text

-- where an expression stands
abbrev pub span_of : CoreExpr → Span
span_of (expr.Const num v at) = at
span_of (expr.Null at) = at
span_of (expr.Slot slot at) = at
span_of (expr.Global k at) = at
span_of (expr.Field' n e k at) = at
span_of (expr.Deref' n e at) = at
span_of (expr.Address' n e at) = at
span_of (expr.Whole k at) = at
span_of (expr.Load' n e at) = at
span_of (expr.Store' n p m v at) = at
span_of (expr.Exchange' n p m v at) = at
span_of (expr.Update' o num n p m v old at) = at
span_of (expr.Arith' o num n l m r at) = at
span_of (expr.Convert' num n e at) = at
span_of (expr.Test' n e at) = at
span_of (expr.Same' n l m r at) = at
span_of (expr.Both' n l m r at) = at
span_of (expr.Either' n l m r at) = at
span_of (expr.Pick' n e m x k y at) = at
span_of (expr.Call' f n args at) = at
span_of (expr.Temp' slot n i at) = at
span_of (expr.Throw' of n e at) = at
span_of (expr.Rethrow at) = at
span_of (expr.Terminate at) = at
span_of (expr.Current at) = at
span_of (expr.RethrowPtr' n e at) = at
span_of (expr.Await' n (more_of-AwaitPlan operand holder ready suspend answer resume point span end_of-AwaitPlan)) = span
span_of (expr.Handle' o n operands at) = at
span_of (expr.Atomic' o n operands at) = at
span_of (expr.Lib' o n operands at) = at
span_of (expr.New' n (more_of-NewPlan of take may_be_null i give span end_of-NewPlan)) = span
span_of (expr.Delete' n (more_of-DeletePlan of pointer destroy give span end_of-DeletePlan)) = span

-- ---- places

abbrev pub at_object : Local → Option ℕ → Option Turned
at_object l None = None
at_object l (Some x) = gives (At (whole x)) l

abbrev pub wholes : List Frame → List Place
wholes [] = []
wholes (Building p built rest ∷ fs) = p ∷ wholes fs
wholes (Constructing p class built rest body ∷ fs) = p ∷ wholes fs
wholes (f ∷ fs) = wholes fs

abbrev pub at_whole : Local → Option Place → Option Turned
at_whole l None = None
at_whole l (Some p) = gives (At p) l

abbrev pub place_of : Value → Given
place_of (value.Pointer x path) = At (record { object = x; path = path })
place_of v = Nothing

-- what a pointer points to or a reference refers to; null is undefined [expr.unary.op]
abbrev pub dereferenced : Given → Span → Local → Option Turned
dereferenced (Scalar v) at l = unless_undefined (record { kind = U4; holds = is_null v } ∷ record { kind = U12; holds = is_no_place v } ∷ []) at l (gives (place_of v) l)
dereferenced g at l = None

-- ---- integers

abbrev pub is_comparison : Op → Bool
is_comparison op.Lt = true
is_comparison op.Le = true
is_comparison op.Gt = true
is_comparison op.Ge = true
is_comparison op.Eq = true
is_comparison op.Ne = true
is_comparison o = false

abbrev pub result_num : Op → Num → Num
result_num o n = if is_comparison o then num.Bool else n

abbrev pub or_none : Option ℤ → ℤ
or_none None = pos 0
or_none (Some z) = z

-- an operation; one without a result in its type is undefined [expr.pre]
abbrev pub computed : Op → Num → Option ℤ → Span → Local → Option Turned
computed o n r at l = unless_undefined (record { kind = U5; holds = is_none r } ∷ []) at l (gives (Scalar (value.Number (result_num o n) (or_none r))) l)

abbrev pub arithmetic : Op → Num → Given → Given → Span → Local → Option Turned
arithmetic o n (Scalar (value.Number j a)) (Scalar (value.Number k b)) at l = computed o n (arith_of o n a b) at l
arithmetic o n g h at l = None

abbrev pub converted : Num → Given → Local → Option Turned
converted n (Scalar (value.Number k a)) l = gives (Scalar (value.Number n (convert_of n a))) l
converted n g l = None

abbrev pub update_gives : Bool → Value → Place → Outcome
update_gives true v p = Gives (Scalar v)
update_gives false v p = Gives (At p)

abbrev pub update_writes : Num → ℤ → Option ℤ → Place → Bool → Span → Local → Option Turned
update_writes n a r p old at l =
    unless_undefined (record { kind = U5; holds = is_none r } ∷ []) at l
    (goes (Writes false p 0 (value.Number n (convert_of n (or_none r)) ∷ []) (update_gives old (value.Number n a) p) at) l)

-- What was loaded is converted, and the result is converted to the type of the place [expr.ass].
abbrev pub updated : Op → Num → Given → Place → Bool → Given → Span → Local → Option Turned
updated o n (Scalar (value.Number k b)) p old (Scalar (value.Number m a)) at l = update_writes m a (arith_of o n (convert_of n a) b) p old at l
updated o n v p old g at l = None

-- ---- tests

-- whether a pointer, a handle or a `std::exception_ptr` is not null [conv.bool]
abbrev pub tested : Given → Local → Option Turned
tested (Scalar v) l = gives (truth (not (is_null v))) l
tested (Parts (v ∷ vs)) l = gives (truth (not (is_null v))) l
tested g l = None

abbrev pub same_parts : List Value → List Value → Bool
same_parts [] [] = true
same_parts (v ∷ vs) (w ∷ ws) = same_value v w && same_parts vs ws
same_parts vs ws = false

-- [expr.eq] [coroutine.handle.compare]
abbrev pub compared_with : Given → Given → Span → Local → Option Turned
compared_with (Scalar v) (Scalar w) at l =
    unless_undefined (record { kind = U9; holds = compares_dangling (store l) (coroutines l) v w } ∷ []) at l (gives (truth (is_same (store l) (coroutines l) v w)) l)
compared_with (Parts (v ∷ vs)) (Scalar w) at l = gives (truth (is_null v)) l
compared_with (Scalar v) (Parts (w ∷ ws)) at l = gives (truth (is_null w)) l
compared_with (Parts vs) (Parts ws) at l = gives (truth (same_parts vs ws)) l
compared_with g h at l = None

-- the right operand of `&&` and of `||` is evaluated where the left one does not decide [expr.log.and] [expr.log.or]
abbrev pub both : CoreExpr → Given → Local → Option Turned
both right (Scalar (value.Number n z)) l = if is_zero z then gives (truth false) l else under Joined (Evaluate right None) l
both right g l = None

abbrev pub either : CoreExpr → Given → Local → Option Turned
either right (Scalar (value.Number n z)) l = if is_zero z then under Joined (Evaluate right None) l else gives (truth true) l
either right g l = None

-- [expr.cond]
abbrev pub picks : CoreExpr → CoreExpr → Given → Local → Option Turned
picks x y (Scalar (value.Number n z)) l = under Joined (Evaluate (if is_zero z then y else x) None) l
picks x y g l = None

abbrev pub chooses : Init → Init → Option Place → Given → Local → Option Turned
chooses x y p (Scalar (value.Number n z)) l = under Joined (Initialize (if is_zero z then y else x) p) l
chooses x y p g l = None

-- ---- temporaries [class.temporary]

abbrev pub make_temporary : ℕ → Init → Local → Option CoType → Option Turned
make_temporary slot i l None = None
make_temporary slot i l (Some of) =
    let x = next_object (store l) in
    under (TempMade slot (record { object = x; coroutine = counted_in l of })) (Initialize i (Some (whole x))) (with_raw slot of (counted_in l of) l)

-- in the step that makes the temporary live its mark is set
abbrev pub temporary_made : ℕ → Alive → Local → Option Turned
temporary_made slot x l = lives x (InFull slot) (Gives (At (whole x.object))) (with_frames (set_mark slot l.top.frames) l)

-- ---- exceptions [except.throw] [propagation]

abbrev pub thrown_number : Num → ℤ → Thrown
thrown_number num.Int z = thrown.Int z
thrown_number num.Long z = thrown.Long z
thrown_number num.Bool z = thrown.Bool (not (is_zero z))
thrown_number num.Size z = thrown.Long z

abbrev pub throw_place : CoType → Head → Place → Span → Local → Option Turned
throw_place of (head.Class class) p at l = under (ThrowRead class) (Reads p (length (fields_of (classes l) of)) [] at) l
throw_place of h p at l = None

-- a scalar is thrown at once, and of an object of a class the members are read first
abbrev pub throws : CoType → Given → Span → Local → Option Turned
throws of (Scalar (value.Number n z)) at l = leaves (Throwing (thrown_number n z)) l
throws of (At p) at l = throw_place of (head_of of) p at l
throws of g at l = None

abbrev pub number_in : Option Value → ℤ
number_in (Some (value.Number n z)) = z
number_in v = pos 0

abbrev pub thrown_object : ClassId → List Value → Thrown
thrown_object class vs = thrown.Class class (number_in (slice_get vs 0)) (number_in (slice_get vs 1)) (number_in (slice_get vs 2))

abbrev pub values_given : Given → List Value
values_given (Scalar v) = v ∷ []
values_given (Parts vs) = vs
values_given g = []

abbrev pub newest : List Thrown → Thrown
newest [] = thrown.None
newest (v ∷ handled) = v

-- where no exception is handled, `throw;` calls `std::terminate` [except.throw]
abbrev pub rethrow : List Thrown → Local → Option Turned
rethrow [] l = is_uncaught thrown.None l
rethrow (v ∷ handled) l = leaves (Throwing v) l

abbrev pub long_value : ℤ → Value
long_value z = value.Number num.Long z

abbrev pub flag : Bool → ℤ
flag b = if b then pos 1 else pos 0

-- the parts of a `std::exception_ptr`
abbrev pub parts_of_thrown : Thrown → List Value
parts_of_thrown (thrown.Int z) = value.Kind catch.Int ∷ long_value z ∷ long_value (pos 0) ∷ long_value (pos 0) ∷ []
parts_of_thrown (thrown.Long z) = value.Kind catch.Long ∷ long_value z ∷ long_value (pos 0) ∷ long_value (pos 0) ∷ []
parts_of_thrown (thrown.Bool b) = value.Kind catch.Bool ∷ long_value (flag b) ∷ long_value (pos 0) ∷ long_value (pos 0) ∷ []
parts_of_thrown (thrown.Class class x y z) = value.Kind (catch.Class class) ∷ long_value x ∷ long_value y ∷ long_value z ∷ []
parts_of_thrown thrown.None = value.Null ∷ long_value (pos 0) ∷ long_value (pos 0) ∷ long_value (pos 0) ∷ []

abbrev pub thrown_of_kind : CatchOf → List Value → Thrown
thrown_of_kind catch.Int vs = thrown.Int (number_in (slice_get vs 0))
thrown_of_kind catch.Long vs = thrown.Long (number_in (slice_get vs 0))
thrown_of_kind catch.Bool vs = thrown.Bool (not (is_zero (number_in (slice_get vs 0))))
thrown_of_kind (catch.Class class) vs = thrown_object class vs
thrown_of_kind catch.Any vs = thrown.None

-- `std::rethrow_exception` of null is undefined [propagation]
abbrev pub rethrow_parts : Given → Span → Local → Option Turned
rethrow_parts (Parts (value.Kind k ∷ vs)) at l = leaves (Throwing (thrown_of_kind k vs)) l
rethrow_parts (Parts (value.Null ∷ vs)) at l = unless_undefined null_fault at l None
rethrow_parts (Scalar value.Null) at l = unless_undefined null_fault at l None
rethrow_parts g at l = None

-- ---- `new` and `delete` [expr.new] [expr.delete]

abbrev pub takes : TakePlan → NewPlan → Local → Option Turned
takes take_plan.Global plan l = take_block (words (classes l) plan.of) l
takes (take_plan.Own f) plan l = under (call_with f (size_given (8 * words (classes l) plan.of) ∷ []) None plan.span) (Comes Passes) l
takes (take_plan.OwnWith f) plan l = None

abbrev pub new_at : NewPlan → Value → Local → Option Turned
new_at plan (value.Block b) l =
    let x = next_object (store l) in
    let made = with_store (set_standing b (standing.Object x) (add_object (raw_object (classes l) plan.of (Some b) None) (store l))) l in
    under (NewMade x b plan) (Initialize plan.init (Some (whole x))) made
new_at plan v l = None

abbrev pub new_in : NewPlan → Value → Local → Option Turned
new_in plan v l =
    unless_undefined (record { kind = U10; holds = is_no_room (store l) (coroutines l) (words (classes l) plan.of) v } ∷ []) plan.span l (new_at plan v l)

-- a null that the allocation may give ends the `new`
abbrev pub new_taken : NewPlan → Value → Local → Option Turned
new_taken plan value.Null l = if plan.may_be_null then gives (Scalar value.Null) l else new_in plan value.Null l
new_taken plan v l = new_in plan v l

abbrev pub new_made : ℕ → Local → Option Turned
new_made x l = gives (Scalar (value.Pointer x [])) (with_store (make_live x (store l)) l)

-- an exception out of the initialization releases the storage and goes on [expr.new]
abbrev pub new_left : ℕ → ℕ → NewPlan → Outcome → Local → Option Turned
new_left x b plan outcome l = goes (Releases b (words (classes l) plan.of) plan.give outcome plan.span) (with_store (end_object x (store l)) l)

abbrev pub delete_by : ℕ → ℕ → DeletePlan → Local → Option FuncId → Option Turned
delete_by x b plan l None = under (DeleteEnded x b plan) (Comes Passes) l
delete_by x b plan l (Some f) = under (call_with f (At (whole x) ∷ []) None plan.span) (Comes Passes) (pushed Drops (pushed (DeleteEnded x b plan) l))

abbrev pub block_of_object : Option StoredObject → Option ℕ
block_of_object None = None
block_of_object (Some o) = o.block

abbrev pub delete_in : ℕ → DeletePlan → Local → Option ℕ → Option Turned
delete_in x plan l None = None
delete_in x plan l (Some b) = delete_by x b plan l plan.destroy

abbrev pub delete_at : DeletePlan → Value → Local → Option Turned
delete_at plan (value.Pointer x path) l = delete_in x plan l (block_of_object (object_at (store l) x))
delete_at plan v l = None

-- A `delete` of null does nothing. Of anything else but a whole object of this type, made by `new`, it is undefined.
abbrev pub delete_of : DeletePlan → Value → Local → Option Turned
delete_of plan value.Null l = gives Nothing l
delete_of plan v l = unless_undefined (record { kind = U11; holds = is_not_new (store l) plan.of v } ∷ []) plan.span l (delete_at plan v l)

abbrev pub delete_ended : ℕ → ℕ → DeletePlan → Local → Option Turned
delete_ended x b plan l = goes (Releases b (words (classes l) plan.of) plan.give (Gives Nothing) plan.span) (with_store (end_object x (store l)) l)

-- ---- expressions

-- The node of an expression is entered: its first part is evaluated. The result of a class of a call or an await is made at `into`.
abbrev pub evaluate : CoreExpr → Option Place → Local → Option Turned
evaluate (expr.Const n v at) into l = gives (Scalar (value.Number n v)) l
evaluate (expr.Null at) into l = gives (Scalar value.Null) l
evaluate (expr.Slot slot at) into l = at_object l (object_in l slot.0)
evaluate (expr.Global k at) into l = gives (At (whole k)) l
evaluate (expr.Field' n (more_of-CoreExpr e end_of-CoreExpr) k at) into l = under (FieldOf k) (Evaluate e None) l
evaluate (expr.Deref' n (more_of-CoreExpr e end_of-CoreExpr) at) into l = under (Referent at) (Evaluate e None) l
evaluate (expr.Address' n (more_of-CoreExpr e end_of-CoreExpr) at) into l = under AddressOf (Evaluate e None) l
evaluate (expr.Whole k at) into l = at_whole l (slice_get (wholes l.top.frames) k)
evaluate (expr.Load' n (more_of-CoreExpr e end_of-CoreExpr) at) into l = under (LoadFrom at) (Evaluate e None) l
evaluate (expr.Store' n (more_of-CoreExpr p end_of-CoreExpr) m (more_of-CoreExpr v end_of-CoreExpr) at) into l = under (StoreValue p at) (Evaluate v None) l
evaluate (expr.Exchange' n (more_of-CoreExpr p end_of-CoreExpr) m (more_of-CoreExpr v end_of-CoreExpr) at) into l = under (ExchangePlace v at) (Evaluate p None) l
evaluate (expr.Update' o k n (more_of-CoreExpr p end_of-CoreExpr) m (more_of-CoreExpr v end_of-CoreExpr) old at) into l = under (UpdateValue o k p old at) (Evaluate v None) l
evaluate (expr.Arith' o k n (more_of-CoreExpr x end_of-CoreExpr) m (more_of-CoreExpr y end_of-CoreExpr) at) into l = under (ArithRight o k y at) (Evaluate x None) l
evaluate (expr.Convert' k n (more_of-CoreExpr e end_of-CoreExpr) at) into l = under (ConvertTo k) (Evaluate e None) l
evaluate (expr.Test' n (more_of-CoreExpr e end_of-CoreExpr) at) into l = under TestOf (Evaluate e None) l
evaluate (expr.Same' n (more_of-CoreExpr x end_of-CoreExpr) m (more_of-CoreExpr y end_of-CoreExpr) at) into l = under (SameRight y at) (Evaluate x None) l
evaluate (expr.Both' n (more_of-CoreExpr x end_of-CoreExpr) m (more_of-CoreExpr y end_of-CoreExpr) at) into l = under (BothRight y) (Evaluate x None) l
evaluate (expr.Either' n (more_of-CoreExpr x end_of-CoreExpr) m (more_of-CoreExpr y end_of-CoreExpr) at) into l = under (EitherRight y) (Evaluate x None) l
evaluate (expr.Pick' n (more_of-CoreExpr e end_of-CoreExpr) m (more_of-CoreExpr x end_of-CoreExpr) k (more_of-CoreExpr y end_of-CoreExpr) at) into l = under (PickOne x y) (Evaluate e None) l
evaluate (expr.Call' f n args at) into l =
    under (Calling (record { func = f; given = []; objects = []; rest = items-the_row-Init _ args; into = into; at = at })) (Comes Passes) l
evaluate (expr.Temp' slot n (more_of-Init i end_of-Init) at) into l = make_temporary slot.0 i l (type_of_slot l slot.0)
evaluate (expr.Throw' of n (more_of-CoreExpr e end_of-CoreExpr) at) into l = under (ThrowOf of at) (Evaluate e None) l
evaluate (expr.Rethrow at) into l = rethrow l.handled l
evaluate (expr.Terminate at) into l = is_uncaught (newest l.handled) l
evaluate (expr.Current at) into l = gives (Parts (parts_of_thrown (newest l.handled))) l
evaluate (expr.RethrowPtr' n (more_of-CoreExpr e end_of-CoreExpr) at) into l = under (RethrowOf at) (Evaluate e None) l
evaluate (expr.Await' n (more_of-AwaitPlan operand holder ready suspend answer resume point span end_of-AwaitPlan)) into l =
    under (AwaitOperand (record { operand = operand; holder = holder; ready = ready; suspend = suspend; answer = answer; resume = resume; point = point; span = span }) into) (Evaluate operand None) l
evaluate (expr.Handle' o n operands at) into l = under (Operands (OnHandle o) [] (items-the_row-CoreExpr _ operands) at) (Comes Passes) l
evaluate (expr.Atomic' o n operands at) into l = under (Operands (OnAtomic o) [] (items-the_row-CoreExpr _ operands) at) (Comes Passes) l
evaluate (expr.Lib' o n operands at) into l = under (Operands (OfLibrary o) [] (items-the_row-CoreExpr _ operands) at) (Comes Passes) l
evaluate (expr.New' n (more_of-NewPlan of take may_be_null i give span end_of-NewPlan)) into l =
    let plan : NewPlan = record { of = of; take = take; may_be_null = may_be_null; init = i; give = give; span = span } in
    takes take plan (pushed (NewTaken plan) l)
evaluate (expr.Delete' n (more_of-DeletePlan of pointer destroy give span end_of-DeletePlan)) into l =
    under (DeleteOf (record { of = of; pointer = pointer; destroy = destroy; give = give; span = span })) (Evaluate pointer None) l

-- ---- initializers [dcl.init]

abbrev pub is_empty_head : Head → Bool
is_empty_head head.SuspendAlways = true
is_empty_head head.SuspendNever = true
is_empty_head h = false

abbrev pub is_empty_type : Option CoType → Bool
is_empty_type None = false
is_empty_type (Some of) = is_empty_head (head_of of)

-- an awaiter of the library has no members, and a value of its own
abbrev pub members : Place → List Init → Local → Option Turned
members p is l =
    if is_empty_type (type_at (classes l) (store l) p) then goes (Writes true p 0 (value.Empty ∷ []) Passes nowhere) l
    else under (Building p 0 is) (Comes Passes) l

-- An object at a place is made, or without a place a value is given.
abbrev pub initialize : Init → Option Place → Local → Option Turned
initialize (init.Ctor' f n args) (Some p) l =
    under (Calling (record { func = f; given = At p ∷ []; objects = []; rest = items-the_row-Init _ args; into = None; at = nowhere })) (Comes Passes) (pushed Drops l)
initialize (init.Members' n is) (Some p) l = members p (items-the_row-Init _ is) l
initialize (init.Members' n is) None l = gives (Scalar value.Empty) l
initialize (init.Value e) (Some p) l = under (ValueInto p (span_of e)) (Evaluate e None) l
initialize (init.Value e) None l = goes (Evaluate e None) l
initialize (init.Result e) (Some p) l = under ResultInto (Evaluate e (Some p)) l
initialize (init.Result e) None l = goes (Evaluate e None) l
initialize init.Raw (Some p) l = passes (with_store (set_part (classes l) p cell.Indeterminate (store l)) l)
initialize (init.Choose' e n (more_of-Init x end_of-Init) m (more_of-Init y end_of-Init)) p l = under (ChooseOne x y p) (Evaluate e None) l
initialize i p l = None
