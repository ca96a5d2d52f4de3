-- What a step of an agent sees, and what it leaves.
use Rattle.std.specs.Prelude.{ℕ, zero, suc, Bool, true, false, if◌then◌else◌, List, [], ◌∷◌, ◌++◌, slice_get, slice_set, Option, None, Some, is_some, ℤ, pos}
use Rattle.co_base.specs.declared.kinds.Num.TheVariants as num
use Rattle.co_base.specs.declared.kinds.Thrown.{Thrown}
use Rattle.co_base.specs.declared.kinds.Undef.{Undef}
use Rattle.co_base.specs.declared.span.Span.{Span}
use Rattle.co_types.specs.declared.classes.ClassInfo.{ClassInfo}
use Rattle.co_types.specs.declared.types.CoType.{CoType}
use Rattle.co_types.specs.declared.types.Head.{Head}
use Rattle.co_types.specs.declared.types.Head.TheVariants as head
use Rattle.co_types.specs.Types.{head_of}
use Rattle.co_core_tree.specs.declared.units.CoreFunc.{CoreFunc}
use Rattle.co_core_tree.specs.declared.units.PromisePlan.{PromisePlan}
use Rattle.co_core_tree.specs.declared.units.UnitParts.{UnitParts}
use Rattle.co_meaning_data.specs.Frames.{Activation, Agent, At, Comes, Doing, Frame, Given, Gives, Goes, Going, Nothing, Parts, Passes, Scalar, Shared, Throwing}
use Rattle.co_meaning_data.specs.Store.{Place, Store}
use Rattle.co_meaning_data.specs.Undefined.{Fault, counts}
use Rattle.co_meaning_data.specs.declared.events.Event.{Event}
use Rattle.co_meaning_data.specs.declared.events.Event.TheVariants as event
use Rattle.co_meaning_data.specs.declared.values.Value.{Value}
use Rattle.co_meaning_data.specs.declared.values.Value.TheVariants as value

-- a program, the inputs of its run, and the number of bytes of each coroutine's frame, in the order of the functions
pub record Program : Type 0 where
  pub unit : UnitParts
  pub inputs : List ℤ
  pub sizes : List ℕ

-- An agent in a step: the program, its number, what all agents share, the exceptions that it handles, its newest activation,
-- those below that one, and the events of this step so far.
pub record Local : Type 0 where
  pub program : Program
  pub worker : ℕ
  pub shared : Shared
  pub handled : List Thrown
  pub top : Activation
  pub below : List Activation
  pub seen : List Event

-- what a step leaves: what all share, the agent, and the events of the step
pub record Turned : Type 0 where
  pub shared : Shared
  pub agent : Agent
  pub seen : List Event

-- ---- what is seen

abbrev pub classes : Local → List ClassInfo
classes l = l.program.unit.classes

abbrev pub funcs : Local → List CoreFunc
funcs l = l.program.unit.funcs

abbrev pub store : Local → Store
store l = l.shared.store

abbrev pub func_of : Local → Option CoreFunc
func_of l = slice_get (funcs l) l.top.func

abbrev pub plan_in : Option CoreFunc → Option PromisePlan
plan_in None = None
plan_in (Some func) = func.plan

abbrev pub coroutines_before : ℕ → List CoreFunc → ℕ
coroutines_before zero fs = 0
coroutines_before (suc n) [] = 0
coroutines_before (suc n) (f ∷ fs) = if is_some f.plan then suc (coroutines_before n fs) else coroutines_before n fs

abbrev pub or_zero : Option ℕ → ℕ
or_zero None = 0
or_zero (Some n) = n

-- the bytes of the frame of the coroutine that is called or runs
abbrev pub frame_bytes : Local → ℕ
frame_bytes l = or_zero (slice_get l.program.sizes (coroutines_before l.top.func (funcs l)))

-- ---- what is left

abbrev pub with_frames : List Frame → Local → Local
with_frames fs l = record l { top = record l.top { frames = fs } }

abbrev pub pushed : Frame → Local → Local
pushed f l = with_frames (f ∷ l.top.frames) l

abbrev pub with_store : Store → Local → Local
with_store s l = record l { shared = record l.shared { store = s } }

abbrev pub happens : Event → Local → Local
happens e l = record l { seen = l.seen ++ e ∷ [] }

-- the agent goes on with this
abbrev pub goes : Doing → Local → Option Turned
goes d l = Some (record { shared = l.shared; agent = record { doing = d; activations = l.top ∷ l.below; handled = l.handled; halted = false }; seen = l.seen })

-- it goes on with this, and the frame is left to be done after it
abbrev pub under : Frame → Doing → Local → Option Turned
under f d l = goes d (pushed f l)

abbrev pub gives : Given → Local → Option Turned
gives g l = goes (Comes (Gives g)) l

abbrev pub passes : Local → Option Turned
passes l = goes (Comes Passes) l

abbrev pub leaves : Going → Local → Option Turned
leaves going l = goes (Comes (Goes going)) l

-- it has nothing more to do
abbrev pub rests : Doing → Local → Option Turned
rests d l = Some (record { shared = l.shared; agent = record { doing = d; activations = []; handled = l.handled; halted = false }; seen = l.seen })

-- an exception may go no further: the agent is halted, and nothing more is unwound [except.terminate]
abbrev pub is_uncaught : Thrown → Local → Option Turned
is_uncaught v l =
    let seen = happens (event.Uncaught l.worker v) l in
    Some (record { shared = l.shared; agent = record { doing = Comes (Goes (Throwing v)); activations = l.top ∷ l.below; handled = l.handled; halted = true }; seen = seen.seen })

-- the run ends in an undefined act
abbrev pub is_undefined : Undef → Span → Local → Option Turned
is_undefined kind at l =
    let seen = happens (event.Undefined l.worker kind at) l in
    passes (record seen { shared = record seen.shared { undefined = true } })

abbrev pub judged : Option Undef → Span → Local → Option Turned → Option Turned
judged None at l turned = turned
judged (Some kind) at l turned = is_undefined kind at l

-- the step, unless one of these acts is undefined
abbrev pub unless_undefined : List Fault → Span → Local → Option Turned → Option Turned
unless_undefined faults at l turned = judged (counts faults) at l turned

-- no place of the source
abbrev pub nowhere : Span
nowhere = record { line = 0; col = 0 }

-- ---- slots

abbrev pub slot_object : Option (Option ℕ) → Option ℕ
slot_object None = None
slot_object (Some x) = x

-- the object that stands in a slot
abbrev pub object_in : Local → ℕ → Option ℕ
object_in l slot = slot_object (slice_get l.top.slots slot)

abbrev pub with_slot : ℕ → ℕ → Local → Local
with_slot slot x l = record l { top = record l.top { slots = slice_set l.top.slots slot (Some x) } }

-- ---- values

abbrev pub truth : Bool → Given
truth b = Scalar (value.Number num.Bool (if b then pos 1 else pos 0))

abbrev pub pointer : Place → Value
pointer p = value.Pointer p.object p.path

abbrev pub null_parts : List Value
null_parts = value.Null ∷ value.Number num.Long (pos 0) ∷ value.Number num.Long (pos 0) ∷ value.Number num.Long (pos 0) ∷ []

abbrev pub exception_parts : Given → Option (List Value)
exception_parts (Parts vs) = Some vs
exception_parts (Scalar value.Null) = Some null_parts
exception_parts g = None

abbrev pub scalar_parts : Given → Option (List Value)
scalar_parts (Scalar v) = Some (v ∷ [])
scalar_parts (At p) = Some (pointer p ∷ [])
scalar_parts g = None

abbrev pub head_parts : Head → Given → Option (List Value)
head_parts head.ExceptionPtr g = exception_parts g
head_parts h g = scalar_parts g

-- The values of the words of an object of the type that is given this: one, or four for a `std::exception_ptr`; a reference has a
-- pointer to what it refers to [dcl.init] [dcl.init.ref].
abbrev pub parts_for : Option CoType → Given → Option (List Value)
parts_for None g = None
parts_for (Some of) g = head_parts (head_of of) g

abbrev pub given_by : List Value → Given
given_by [] = Nothing
given_by (v ∷ []) = Scalar v
given_by vs = Parts vs
