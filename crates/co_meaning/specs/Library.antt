-- The acts of the library: on handles [coroutine.handle], on atomics [atomics.types.operations], and the calls of `corun`.
use Rattle.std.specs.Prelude.{ℕ, ◌+◌, ◌/◌, ◌==◌, Bool, true, false, not, ◌||◌, if◌then◌else◌, List, [], ◌∷◌, ◌++◌, length, slice_get, Option, None, Some, ℤ, pos, negsuc, ◌+ℤ◌, ◌-ℤ◌}
use Rattle.std.specs.Int.{w64, cast_unsigned}
use Rattle.co_base.specs.Integers.{convert_of}
use Rattle.co_base.specs.declared.ids.ClassId.{ClassId}
use Rattle.co_base.specs.declared.kinds.Num.TheVariants as num
use Rattle.co_base.specs.declared.kinds.Print.{Print}
use Rattle.co_base.specs.declared.kinds.Print.TheVariants as print
use Rattle.co_base.specs.declared.kinds.Undef.TheVariants.{U3, U11}
use Rattle.co_base.specs.declared.span.Span.{Span}
use Rattle.co_core_tree.specs.Sizes.{at_least_one}
use Rattle.co_core_tree.specs.declared.kinds.AtomicOp.{AtomicOp}
use Rattle.co_core_tree.specs.declared.kinds.AtomicOp.TheVariants as atomic
use Rattle.co_core_tree.specs.declared.kinds.HandleOp.{HandleOp}
use Rattle.co_core_tree.specs.declared.kinds.HandleOp.TheVariants as handle
use Rattle.co_core_tree.specs.declared.kinds.LibOp.{LibOp}
use Rattle.co_core_tree.specs.declared.kinds.LibOp.TheVariants as library
use Rattle.co_core_tree.specs.declared.units.CoreFunc.{CoreFunc}
use Rattle.co_core_tree.specs.declared.units.PromisePlan.{PromisePlan}
use Rattle.co_meaning_data.specs.declared.events.Event.TheVariants as event
use Rattle.co_meaning_data.specs.declared.values.Value.{Value}
use Rattle.co_meaning_data.specs.declared.values.Value.TheVariants as value
use Rattle.co_meaning_data.specs.Frames.{At, CompareAt, Coroutine, Given, Gives, Nothing, OfLibrary, OnAtomic, OnHandle, Operation, Reads, Scalar, Writes}
use Rattle.co_meaning_data.specs.Store.{Place, coroutine_in, object_at, whole}
use Rattle.co_meaning_data.specs.Undefined.{at_final, is_no_block, not_suspended, numbered, wrong_object, address_of}
use Rattle.co_meaning_data.specs.Access.{swap}
use Rattle.co_meaning_calls.specs.Coroutines.{coroutines, destroy_handle, null_fault, release_value, resume_handle, take_block}
use Rattle.co_meaning_data.specs.Turn.{Local, Turned, funcs, gives, goes, happens, store, truth, under, unless_undefined}

-- ---- handles

-- `done()` of a coroutine that is not suspended is undefined; it tells whether the coroutine is at its final suspend point
abbrev pub is_done : Value → Span → Local → Option Turned
is_done (value.Handle n) at l =
    unless_undefined (record { kind = U3; holds = not_suspended (coroutines l) n } ∷ []) at l (gives (truth (at_final (coroutines l) n)) l)
is_done value.Noop at l = gives (truth false) l
is_done value.Null at l = unless_undefined null_fault at l None
is_done v at l = None

abbrev pub wrong : Span → Local → Option Turned
wrong at l = unless_undefined (record { kind = U3; holds = true } ∷ []) at l None

abbrev pub promise_given : Bool → Option ℕ → Span → Local → Option Turned
promise_given false (Some x) at l = gives (At (whole x)) l
promise_given over x at l = wrong at l

abbrev pub promise_by : ℕ → Span → Local → Option Coroutine → Option Turned
promise_by n at l None = wrong at l
promise_by n at l (Some c) = promise_given (wrong_object (coroutines l) n) c.promise at l

-- the place of the promise
abbrev pub promise_of : Value → Span → Local → Option Turned
promise_of (value.Handle n) at l = promise_by n at l (numbered (coroutines l) n)
promise_of value.Noop at l = wrong at l
promise_of value.Null at l = unless_undefined null_fault at l None
promise_of v at l = None

abbrev pub has_promise : ℕ → Option ℕ → Bool
has_promise x None = false
has_promise x (Some y) = x == y

abbrev pub is_its_promise : ℕ → Option Coroutine → Bool
is_its_promise x None = false
is_its_promise x (Some c) = has_promise x c.promise

abbrev pub handle_for : ℕ → ℕ → Span → Local → Option Turned
handle_for x n at l = if not (is_its_promise x (numbered (coroutines l) n)) || wrong_object (coroutines l) n then wrong at l else gives (Scalar (value.Handle n)) l

abbrev pub handle_in : ℕ → Span → Local → Option ℕ → Option Turned
handle_in x at l None = wrong at l
handle_in x at l (Some n) = handle_for x n at l

abbrev pub from_promise_at : ℕ → List ℕ → Span → Local → Option Turned
from_promise_at x [] at l = handle_in x at l (coroutine_in (object_at (store l) x))
from_promise_at x (k ∷ path) at l = wrong at l

-- the coroutine whose promise stands at the place
abbrev pub from_promise : Place → Span → Local → Option Turned
from_promise p at l = from_promise_at p.object p.path at l

abbrev pub address_given : Value → Option Value
address_given (value.Handle n) = Some (value.Frame n)
address_given value.Noop = Some value.NoopFrame
address_given value.Null = Some value.Null
address_given v = None

abbrev pub given_or_none : Option Value → Local → Option Turned
given_or_none None l = None
given_or_none (Some v) l = gives (Scalar v) l

abbrev pub class_of_plan : Option PromisePlan → ClassId → Bool
class_of_plan None class = false
class_of_plan (Some plan) class = plan.promise.0 == class.0

abbrev pub class_of_func : Option CoreFunc → ClassId → Bool
class_of_func None class = false
class_of_func (Some func) class = class_of_plan func.plan class

abbrev pub has_class : Local → Option ClassId → Option Coroutine → Bool
has_class l None c = true
has_class l (Some class) None = false
has_class l (Some class) (Some c) = class_of_func (slice_get (funcs l) c.func) class

-- a handle of an address that `address()` gave, of a coroutine that has not ended and has a promise of this class
abbrev pub from_address : Option ClassId → Value → Span → Local → Option Turned
from_address class (value.Frame n) at l =
    if wrong_object (coroutines l) n || not (has_class l class (numbered (coroutines l) n)) then wrong at l else gives (Scalar (value.Handle n)) l
from_address None value.NoopFrame at l = gives (Scalar value.Noop) l
from_address class value.Null at l = gives (Scalar value.Null) l
from_address class v at l = wrong at l

abbrev pub on_handle : HandleOp → List Given → Span → Local → Option Turned
on_handle handle.Resume (Scalar v ∷ []) at l = resume_handle v at l
on_handle handle.Destroy (Scalar v ∷ []) at l = destroy_handle v at l
on_handle handle.Done (Scalar v ∷ []) at l = is_done v at l
on_handle handle.Promise (Scalar v ∷ []) at l = promise_of v at l
on_handle handle.FromPromise (At p ∷ []) at l = from_promise p at l
on_handle handle.Address (Scalar v ∷ []) at l = given_or_none (address_given v) l
on_handle (handle.FromAddress class) (Scalar v ∷ []) at l = from_address class v at l
on_handle handle.Noop [] at l = gives (Scalar value.Noop) l
on_handle o operands at l = None

-- ---- atomics

-- sums and differences wrap [atomics.types.int]
abbrev pub plus : ℤ → Value → Value
plus b (value.Number n a) = value.Number n (convert_of n (a +ℤ b))
plus b v = v

abbrev pub minus : ℤ → Value → Value
minus b (value.Number n a) = value.Number n (convert_of n (a -ℤ b))
minus b v = v

-- the operands stand the last first
abbrev pub on_atomic : AtomicOp → List Given → Span → Local → Option Turned
on_atomic atomic.Load (At p ∷ []) at l = goes (Reads p 1 [] at) l
on_atomic atomic.Store (Scalar v ∷ At p ∷ []) at l = goes (Writes false p 0 (v ∷ []) (Gives Nothing) at) l
on_atomic atomic.Swap (Scalar v ∷ At p ∷ []) at l = swap (λ old. v) p at l
on_atomic atomic.Add (Scalar (value.Number n b) ∷ At p ∷ []) at l = swap (plus b) p at l
on_atomic atomic.Sub (Scalar (value.Number n b) ∷ At p ∷ []) at l = swap (minus b) p at l
on_atomic atomic.Cas (Scalar v ∷ At expected ∷ At p ∷ []) at l = under (CompareAt p expected (Scalar v) at) (Reads expected 1 [] at) l
on_atomic o operands at l = None

-- ---- the library

abbrev pub prints : Print → Local → Option Turned
prints line l = gives Nothing (happens (event.Print l.worker line) l)

-- the handle is posted, and any agent may take it
abbrev pub post : Value → Span → Local → Option Turned
post value.Null at l = unless_undefined null_fault at l None
post v at l = gives Nothing (record l { shared = record l.shared { posted = l.shared.posted ++ v ∷ [] } })

abbrev pub input_or_zero : Option ℤ → ℤ
input_or_zero None = pos 0
input_or_zero (Some z) = z

-- the input of this number, counted from 0; 0 where there is none
abbrev pub input : List ℤ → ℤ → ℤ
input inputs (pos k) = input_or_zero (slice_get inputs k)
input inputs (negsuc k) = pos 0

abbrev pub long_given : ℤ → Given
long_given z = Scalar (value.Number num.Long z)

-- so many bytes as words, rounded up, at least one
abbrev pub words_for : ℤ → ℕ
words_for z = at_least_one ((cast_unsigned w64 z + 7) / 8)

-- a release of null does nothing
abbrev pub gives_back : Value → Span → Local → Option Turned
gives_back value.Null at l = gives Nothing l
gives_back v at l =
    unless_undefined (record { kind = U11; holds = is_no_block (store l) (coroutines l) v } ∷ []) at l (release_value (address_of (store l) (coroutines l) v) (Gives Nothing) at l)

abbrev pub text_number : ℤ → ℕ
text_number (pos n) = n
text_number (negsuc n) = 0

abbrev pub of_library : LibOp → List Given → Span → Local → Option Turned
of_library library.Print (Scalar (value.Number n z) ∷ []) at l = prints (print.Num z) l
of_library library.Lit (Scalar (value.Number n z) ∷ []) at l = prints (print.Lit (text_number z)) l
of_library library.Post (Scalar v ∷ []) at l = post v at l
of_library library.Input (Scalar (value.Number n z) ∷ []) at l = gives (long_given (input l.program.inputs z)) l
of_library library.Inputs [] at l = gives (long_given (pos (length l.program.inputs))) l
of_library library.Take (Scalar (value.Number n z) ∷ []) at l = take_block (words_for z) l
of_library library.Give (Scalar v ∷ []) at l = gives_back v at l
of_library library.Give (g ∷ Scalar v ∷ []) at l = gives_back v at l
of_library o operands at l = None

-- the operands are there
abbrev pub operate : Operation → List Given → Span → Local → Option Turned
operate (OnHandle o) operands at l = on_handle o operands at l
operate (OnAtomic o) operands at l = on_atomic o operands at l
operate (OfLibrary o) operands at l = of_library o operands at l
