-- Coroutines: how they are called, suspended, resumed and ended [dcl.fct.def.coroutine] [expr.await] [coroutine.handle].
use Rattle.std.specs.Prelude.{ℕ, zero, suc, ◌*◌, ◌/◌, ◌==◌, Bool, true, false, if◌then◌else◌, List, [], ◌∷◌, ◌++◌, length, slice_get, slice_set, Option, None, Some, ℤ, pos}
use Rattle.std.specs.Int.{w64, cast_signed}
use Rattle.co_base.specs.declared.ids.FuncId.{FuncId}
use Rattle.co_base.specs.declared.kinds.Num.TheVariants as num
use Rattle.co_base.specs.declared.kinds.Thrown.{Thrown}
use Rattle.co_base.specs.declared.kinds.Undef.TheVariants.{U1, U2, U4, U10, U11}
use Rattle.co_base.specs.declared.span.Span.{Span}
use Rattle.co_types.specs.declared.types.CoType.{CoType}
use Rattle.co_core_tree.specs.Acts.{Act, acts, init_acts}
use Rattle.co_core_tree.specs.Slots.{class_params, is_held}
use Rattle.co_core_tree.specs.declared.exprs.AwaitPlan.{AwaitPlan}
use Rattle.co_core_tree.specs.declared.exprs.CoreExpr.{CoreExpr, end_of-CoreExpr, more_of-CoreExpr}
use Rattle.co_core_tree.specs.declared.exprs.CoreExpr.TheVariants as expr
use Rattle.co_core_tree.specs.declared.exprs.Init.{Init}
use Rattle.co_core_tree.specs.declared.kinds.Answer.{Answer}
use Rattle.co_core_tree.specs.declared.kinds.Answer.TheVariants as answer
use Rattle.co_core_tree.specs.declared.kinds.GivePlan.{GivePlan}
use Rattle.co_core_tree.specs.declared.kinds.GivePlan.TheVariants as give
use Rattle.co_core_tree.specs.declared.kinds.SlotKind.{SlotKind}
use Rattle.co_core_tree.specs.declared.kinds.SlotKind.TheVariants as slot_kind
use Rattle.co_core_tree.specs.declared.kinds.TakePlan.{TakePlan}
use Rattle.co_core_tree.specs.declared.kinds.TakePlan.TheVariants as take_plan
use Rattle.co_core_tree.specs.declared.units.CopyPlan.{CopyPlan}
use Rattle.co_core_tree.specs.declared.units.CoreFunc.{CoreFunc}
use Rattle.co_core_tree.specs.declared.units.PromisePlan.{PromisePlan}
use Rattle.co_core_tree.specs.declared.units.SlotInfo.{SlotInfo}
use Rattle.co_meaning_data.specs.declared.events.Event.TheVariants as event
use Rattle.co_meaning_data.specs.declared.values.Cell.TheVariants as cell
use Rattle.co_meaning_data.specs.declared.values.Standing.TheVariants as standing
use Rattle.co_meaning_data.specs.declared.values.Value.{Value}
use Rattle.co_meaning_data.specs.declared.values.Value.TheVariants as value
use Rattle.co_meaning_data.specs.Frames.{Alive, InHold, Activation, Answers, At, AwaitReady, AwaitResume, AwaitSuspend, Awaits, Call, Calling, Closes, Comes, Condition, Continuation, Coroutine, Destroying, Draws, Drops, Ends, Evaluate, Execute, Final, Frame, Given, Gives, Goes, Going, Guards, Handled, HasEnded, Hold, Holds, Initialize, IsMade, Kind, Leaving, LoadFrom, Nothing, NullDone, OfBody, OfDestroy, OfParked, Outcome, Over, Passes, RampBody, RampCopies, RampDone, RampMade, RampResult, RampTaken, Releases, Running, Scalar, Started, Suspended, Throwing, Unhandled}
use Rattle.co_meaning_data.specs.Store.{Place, add_block, add_object, live_object, next_block, next_object, release, set_part, set_standing, whole}
use Rattle.co_meaning_data.specs.Undefined.{Fault, at_final, is_no_block, is_no_room, not_suspended, not_taken_back, numbered}
use Rattle.co_meaning_calls.specs.Calls.{border, call_acts, calls, opens, returns}
use Rattle.co_meaning_calls.specs.Objects.{unseen_endings, call_with, counted_in, endings, ends, lives, type_of_slot, with_raw}
use Rattle.co_meaning_data.specs.Turn.{Local, Turned, classes, frame_bytes, func_of, funcs, gives, goes, happens, leaves, nowhere, passes, plan_in, pointer, pushed, store, under, unless_undefined, with_frames, with_slot, with_store}

-- ---- coroutines by number

abbrev pub coroutines : Local → List Coroutine
coroutines l = l.shared.coroutines

abbrev pub with_coroutine : ℕ → Coroutine → Local → Local
with_coroutine zero c l = l
with_coroutine (suc n) c l = record l { shared = record l.shared { coroutines = slice_set l.shared.coroutines n c } }

abbrev pub conditioned : ℕ → Condition → Local → Option Coroutine → Local
conditioned n now l None = l
conditioned n now l (Some c) = with_coroutine n (record c { condition = now }) l

abbrev pub set_condition : ℕ → Condition → Local → Local
set_condition n now l = conditioned n now l (numbered (coroutines l) n)

abbrev pub plan_of : Local → Option PromisePlan
plan_of l = plan_in (func_of l)

abbrev pub span_in : Option CoreFunc → Span
span_in None = nowhere
span_in (Some func) = func.span

abbrev pub func_span : Local → Span
func_span l = span_in (func_of l)

abbrev pub is_noexcept_in : Option CoreFunc → Bool
is_noexcept_in None = false
is_noexcept_in (Some func) = func.noexcept

-- ---- storage [expr.new] [expr.delete]

-- a number of bytes, as `std::size_t`
abbrev pub size_given : ℕ → Given
size_given n = Scalar (value.Number num.Size (cast_signed w64 n))

-- the global `operator new` gives a new block [new.delete.single]
abbrev pub take_block : ℕ → Local → Option Turned
take_block words l = gives (Scalar (value.Block (next_block (store l)))) (with_store (add_block words (store l)) l)

-- the global `operator delete` of a block that is none, or was released, or holds a frame, is undefined [new.delete.single]
abbrev pub release_value : Value → Outcome → Span → Local → Option Turned
release_value (value.Block b) outcome at l = goes (Comes outcome) (with_store (release b (store l)) l)
release_value v outcome at l = None

-- storage is released by the chosen `operator delete` [expr.delete]
abbrev pub releases : ℕ → ℕ → GivePlan → Outcome → Span → Local → Option Turned
releases b words give.Global outcome at l =
    unless_undefined (record { kind = U11; holds = is_no_block (store l) (coroutines l) (value.Block b) } ∷ []) at l (release_value (value.Block b) outcome at l)
releases b words (give.Own f) outcome at l =
    under (call_with f (Scalar (value.Block b) ∷ []) None at) (Comes Passes) (pushed Drops (pushed (Ends [] outcome) l))
releases b words (give.OwnSized f) outcome at l =
    under (call_with f (size_given (8 * words) ∷ Scalar (value.Block b) ∷ []) None at) (Comes Passes) (pushed Drops (pushed (Ends [] outcome) l))

-- ---- the call of a coroutine [dcl.fct.def.coroutine]

abbrev pub take_call : FuncId → List Init → Local → Call
take_call f rest l = record { func = f; given = size_given (frame_bytes l) ∷ []; objects = []; rest = rest; into = None; at = func_span l }

abbrev pub takes_frame : TakePlan → List Init → Local → Option Turned
takes_frame take_plan.Global rest l = take_block (frame_bytes l / 8) l
takes_frame (take_plan.Own f) rest l = under (Calling (take_call f [] l)) (Comes Passes) l
takes_frame (take_plan.OwnWith f) rest l = opens (call_acts l (take_call f rest l)) (Calling (take_call f rest l) ∷ []) (Comes Passes) l

abbrev pub ramp_takes : Local → Option PromisePlan → Option Turned
ramp_takes l None = None
ramp_takes l (Some plan) = takes_frame plan.take plan.take_args (pushed RampTaken l)

-- the storage of the frame is taken first
abbrev pub ramp_take : Local → Option Turned
ramp_take l = ramp_takes l (plan_of l)

abbrev pub frame_room : Value → Local → Option Turned
frame_room (value.Block b) l = goes (Draws b) l
frame_room v l = None

abbrev pub without_storage : Option FuncId → Value → Local → Option Turned
without_storage (Some f) value.Null l = under (call_with f [] l.top.into (func_span l)) (Comes Passes) (pushed NullDone l)
without_storage on_null v l =
    unless_undefined (record { kind = U10; holds = is_no_room (store l) (coroutines l) (frame_bytes l / 8) v } ∷ []) (func_span l) l (frame_room v l)

abbrev pub ramp_taken_by : Value → Local → Option PromisePlan → Option Turned
ramp_taken_by v l None = None
ramp_taken_by v l (Some plan) = without_storage plan.on_null v l

-- A null pointer makes the call return what `get_return_object_on_allocation_failure` gives, where it is there. Else the pointer
-- has to be that of room for the frame.
abbrev pub ramp_taken : Value → Local → Option Turned
ramp_taken v l = ramp_taken_by v l (plan_of l)

abbrev pub new_coroutine : ℕ → Local → Coroutine
new_coroutine b l = record { func = l.top.func; block = b; promise = None; condition = Running 0 }

abbrev pub with_new_coroutine : ℕ → ℕ → Local → Local
with_new_coroutine n b l =
    record l { shared = record l.shared { coroutines = l.shared.coroutines ++ new_coroutine b l ∷ []; store = set_standing b (standing.Frame n) (store l) }; top = record l.top { coroutine = Some n } }

-- the coroutine gets the next number, and its frame stands in the block from now on
abbrev pub draws : ℕ → Local → Option Turned
draws b l = goes (IsMade (suc (length (coroutines l)))) (with_new_coroutine (suc (length (coroutines l))) b l)

abbrev pub copies_in : Option PromisePlan → List CopyPlan
copies_in None = []
copies_in (Some plan) = plan.copies

abbrev pub block_of : Option Coroutine → ℕ
block_of None = 0
block_of (Some c) = c.block

abbrev pub hold_of : ℕ → Local → Hold
hold_of n l = record { coroutine = n; block = block_of (numbered (coroutines l) n); alive = [] }

-- the event of the making; the copies of the parameters follow
abbrev pub is_made : ℕ → Local → Option Turned
is_made n l = under (RampCopies (copies_in (plan_of l))) (Comes Passes) (pushed (Holds (hold_of n l)) (happens (event.Made n) l))

abbrev pub init_acts_here : Local → Init → List Act
init_acts_here l i = init_acts (class_params (funcs l)) false false i

abbrev pub ramp_copy_of : CopyPlan → List CopyPlan → Local → Option CoType → Option Turned
ramp_copy_of copy rest l None = None
ramp_copy_of copy rest l (Some of) =
    let x = next_object (store l) in
    let made = pushed (RampCopies rest) (with_raw copy.to.0 of (counted_in l of) l) in
    opens (init_acts_here made copy.init) (RampMade (record { object = x; coroutine = counted_in l of }) ∷ []) (Initialize copy.init (Some (whole x))) made

abbrev pub is_promise_kind : SlotKind → Bool
is_promise_kind slot_kind.Promise = true
is_promise_kind k = false

abbrev pub promise_among : ℕ → List SlotInfo → Option ℕ
promise_among n [] = None
promise_among n (slot ∷ slots) = if is_promise_kind slot.kind then Some n else promise_among (suc n) slots

abbrev pub promise_in : Option CoreFunc → Option ℕ
promise_in None = None
promise_in (Some func) = promise_among 0 func.slots

abbrev pub promised : ℕ → ℕ → Local → Option Coroutine → Local
promised n x l None = l
promised n x l (Some c) = with_coroutine n (record c { promise = Some x }) l

abbrev pub promised_by : ℕ → Local → Option ℕ → Local
promised_by x l None = l
promised_by x l (Some n) = promised n x l (numbered (coroutines l) n)

abbrev pub ctor_call : FuncId → Bool → List Init → ℕ → Local → Call
ctor_call f with_params args x l = record { func = f; given = At (whole x) ∷ []; objects = []; rest = if with_params then args else []; into = None; at = func_span l }

abbrev pub construct_promise : PromisePlan → Alive → Local → Option FuncId → Option Turned
construct_promise plan x l None = under (RampMade x) (Comes Passes) (with_store (set_part (classes l) (whole x.object) cell.Indeterminate (store l)) l)
construct_promise plan x l (Some f) =
    let call = ctor_call f plan.with_params plan.ctor_args x.object l in
    opens (call_acts l call) (Calling call ∷ Drops ∷ RampMade x ∷ []) (Comes Passes) l

abbrev pub make_promise_in : PromisePlan → ℕ → Local → Option CoType → Option Turned
make_promise_in plan slot l None = None
make_promise_in plan slot l (Some of) =
    let x = next_object (store l) in
    let made = promised_by x (with_raw slot of (counted_in l of) l) l.top.coroutine in
    construct_promise plan (record { object = x; coroutine = counted_in l of }) (pushed RampResult made) plan.ctor

abbrev pub make_promise_at : Local → Option PromisePlan → Option ℕ → Option Turned
make_promise_at l (Some plan) (Some slot) = make_promise_in plan slot l (type_of_slot l slot)
make_promise_at l plan slot = None

-- the parameters are copied, and then the promise is made
abbrev pub ramp_copies : List CopyPlan → Local → Option Turned
ramp_copies (copy ∷ rest) l = ramp_copy_of copy rest l (type_of_slot l copy.to.0)
ramp_copies [] l = make_promise_at l (plan_of l) (promise_in (func_of l))

-- the copy or the promise is live
abbrev pub ramp_made : Alive → Local → Option Turned
ramp_made x l = lives x InHold Passes l

abbrev pub promise_of_top : Local → Option Coroutine → Option ℕ
promise_of_top l None = None
promise_of_top l (Some c) = c.promise

abbrev pub promise_number : Local → Option ℕ → Option ℕ
promise_number l None = None
promise_number l (Some n) = promise_of_top l (numbered (coroutines l) n)

abbrev pub takes_this : Option CoreFunc → Option ℕ → List Given
takes_this (Some func) (Some x) = if length func.params == 0 then [] else At (whole x) ∷ []
takes_this func x = []

-- a call of a member function of the promise; one that is static gets no object
abbrev pub promise_call : FuncId → Option Place → Local → Frame
promise_call f into l = call_with f (takes_this (slice_get (funcs l) f.0) (promise_number l l.top.coroutine)) into (func_span l)

abbrev pub ramp_result_by : Local → Option PromisePlan → Option Turned
ramp_result_by l None = None
ramp_result_by l (Some plan) = under (promise_call plan.result l.top.into l) (Comes Passes) (pushed RampBody l)

-- `get_return_object` makes the result of the call
abbrev pub ramp_result : Local → Option Turned
ramp_result l = ramp_result_by l (plan_of l)

-- the acts of an await
abbrev pub await_acts : Local → AwaitPlan → List Act
await_acts l plan =
    let of = acts (class_params (funcs l)) false false in
    of plan.operand ++ (of plan.ready ++ (of plan.suspend ++ of plan.resume))

abbrev pub body_frames : AwaitPlan → Hold → Local → List Frame
body_frames initial hold l =
    Drops ∷ Started ∷ Guards false ∷ Holds hold ∷ border (is_noexcept_in (func_of l))

abbrev pub body_begins : PromisePlan → Hold → Local → Option Turned
body_begins plan hold l =
    let ramp = pushed RampDone l in
    let body : Activation = record { kind = OfBody; func = l.top.func; slots = l.top.slots; coroutine = l.top.coroutine; into = None; frames = body_frames plan.initial hold l } in
    opens (await_acts l plan.initial) [] (Awaits plan.initial None) (record ramp { top = body; below = ramp.top ∷ ramp.below })

abbrev pub ramp_body_by : List Frame → Local → Option PromisePlan → Option Turned
ramp_body_by (Holds hold ∷ fs) l (Some plan) = body_begins plan hold (with_frames fs l)
ramp_body_by fs l plan = None

-- the result is made, and the body begins with the initial await
abbrev pub ramp_body : Local → Option Turned
ramp_body l = ramp_body_by l.top.frames l (plan_of l)

-- ---- the body [dcl.fct.def.coroutine]

abbrev pub start_in : Local → Option CoreFunc → Option Turned
start_in l None = None
start_in l (Some func) = goes (Execute func.body) l

-- the initial await is done
abbrev pub started : Local → Option Turned
started l = start_in l (func_of l)

abbrev pub final_by : Local → Option PromisePlan → Option Turned
final_by l None = None
final_by l (Some plan) = opens (await_acts l plan.last) [] (Awaits plan.last None) (pushed Drops l)

-- the final await [dcl.fct.def.coroutine]
abbrev pub final_await : Local → Option Turned
final_await l = final_by l (plan_of l)

abbrev pub handled_by : Thrown → Local → Option PromisePlan → Option Turned
handled_by v l None = None
handled_by v l (Some plan) =
    let seen = record l { handled = v ∷ l.handled } in
    under (promise_call plan.unhandled None seen) (Comes Passes) (pushed Drops (pushed Handled (pushed Unhandled seen)))

-- an exception that leaves the body is handled by `unhandled_exception` once the initial `await_resume` was reached
abbrev pub guard_left : Bool → Going → Local → Option Turned
guard_left resumed Leaving l = final_await l
guard_left true (Throwing v) l = handled_by v l (plan_of l)
guard_left resumed going l = leaves going l

abbrev pub serial_of_condition : Condition → ℕ
serial_of_condition (Running serial) = serial
serial_of_condition (Suspended point serial rest) = serial
serial_of_condition (Final point serial rest) = serial
serial_of_condition Over = 0

abbrev pub serial_of : Option Coroutine → ℕ
serial_of None = 0
serial_of (Some c) = serial_of_condition c.condition

abbrev pub serial_now : ℕ → Local → ℕ
serial_now n l = serial_of (numbered (coroutines l) n)

abbrev pub escapes : ℕ → Thrown → Local → Option Turned
escapes n v l =
    let rest : Continuation = record { slots = l.top.slots; frames = l.top.frames } in
    leaves (Throwing v) (with_frames (border (is_noexcept_in (func_of l))) (set_condition n (Final 2 (suc (serial_now n l)) rest) l))

abbrev pub escapes_from : Option ℕ → Thrown → Local → Option Turned
escapes_from None v l = None
escapes_from (Some n) v l = escapes n v l

-- An exception out of `unhandled_exception` leaves the coroutine at its final suspend point, with nothing alive but the promise and
-- the copies, and goes on where control returns [dcl.fct.def.coroutine].
abbrev pub unhandled_left : Going → Local → Option Turned
unhandled_left (Throwing v) l = escapes_from l.top.coroutine v l
unhandled_left going l = leaves going l

-- ---- the end of a coroutine

-- what comes after the end: an exception goes on, and else control returns
abbrev pub after_end : Going → Outcome
after_end (Throwing v) = Goes (Throwing v)
after_end going = Passes

-- the promise dies, then the copies, the last first; then the coroutine has ended, and its storage is released
abbrev pub hold_left : Hold → Outcome → Local → Option Turned
hold_left hold outcome l = ends (endings hold.alive) Passes (pushed (Closes hold.coroutine hold.block outcome) l)

abbrev pub closes : ℕ → ℕ → Outcome → Local → Option Turned
closes n b outcome l = goes (HasEnded n b outcome) (set_condition n Over (with_store (set_standing b standing.Nothing (store l)) l))

abbrev pub release_frame : ℕ → Outcome → Local → Option PromisePlan → Option Turned
release_frame b outcome l None = None
release_frame b outcome l (Some plan) = goes (Releases b (frame_bytes l / 8) plan.give outcome (func_span l)) l

-- the event of the end, before the storage is released
abbrev pub has_ended : ℕ → ℕ → Outcome → Local → Option Turned
has_ended n b outcome l = release_frame b outcome (happens (event.Ended n) l) (plan_of l)

-- ---- resuming and destroying [coroutine.handle.resumption]

-- the activation of a coroutine that goes on
abbrev pub activation_of : Kind → ℕ → Coroutine → Continuation → Activation
activation_of k n c rest = record { kind = k; func = c.func; slots = rest.slots; coroutine = Some n; into = None; frames = rest.frames }

abbrev pub resumed_by : ℕ → Coroutine → Condition → Local → Option (Activation × Local)
resumed_by n c (Suspended point serial rest) l = Some (activation_of OfBody n c rest, set_condition n (Running serial) l)
resumed_by n c now l = None

abbrev pub resumed : ℕ → Local → Option Coroutine → Option (Activation × Local)
resumed n l None = None
resumed n l (Some c) = resumed_by n c c.condition l

abbrev pub above : Option (Activation × Local) → Option Turned
above None = None
above (Some woken) = calls (Comes Passes) woken.0 woken.1

abbrev pub instead : Option (Activation × Local) → Option Turned
instead None = None
instead (Some woken) = passes (record woken.1 { top = woken.0 })

-- the activation that a resume of a suspended coroutine begins, and the state in which the coroutine runs
abbrev pub wakes : ℕ → Local → Option (Activation × Local)
wakes n l = resumed n l (numbered (coroutines l) n)

abbrev pub resume_faults : ℕ → Local → List Fault
resume_faults n l = record { kind = U1; holds = not_suspended (coroutines l) n } ∷ record { kind = U2; holds = at_final (coroutines l) n } ∷ []

abbrev pub null_fault : List Fault
null_fault = record { kind = U4; holds = true } ∷ []

-- `resume()` of a handle
abbrev pub resume_handle : Value → Span → Local → Option Turned
resume_handle (value.Handle n) at l = unless_undefined (resume_faults n l) at l (above (wakes n l))
resume_handle value.Noop at l = gives Nothing l
resume_handle value.Null at l = unless_undefined null_fault at l None
resume_handle v at l = None

-- the handle that `await_suspend` gives is resumed in place of the parked activation
abbrev pub transfer : Value → Span → Local → Option Turned
transfer (value.Handle n) at l = unless_undefined (resume_faults n l) at l (instead (wakes n l))
transfer value.Noop at l = returns Nothing l
transfer value.Null at l = unless_undefined null_fault at l None
transfer v at l = None

abbrev pub destroyed_by : ℕ → Coroutine → Condition → Local → Option Turned
destroyed_by n c (Suspended point serial rest) l = calls (Comes (Goes Destroying)) (activation_of OfDestroy n c rest) (set_condition n (Running serial) l)
destroyed_by n c (Final point serial rest) l = calls (Comes (Goes Destroying)) (activation_of OfDestroy n c rest) (set_condition n (Running serial) l)
destroyed_by n c now l = None

abbrev pub destroyed : ℕ → Local → Option Coroutine → Option Turned
destroyed n l None = None
destroyed n l (Some c) = destroyed_by n c c.condition l

-- `destroy()` of a handle
abbrev pub destroy_handle : Value → Span → Local → Option Turned
destroy_handle (value.Handle n) at l =
    unless_undefined (record { kind = U1; holds = not_suspended (coroutines l) n } ∷ []) at l (destroyed n l (numbered (coroutines l) n))
destroy_handle value.Noop at l = gives Nothing l
destroy_handle value.Null at l = unless_undefined null_fault at l None
destroy_handle v at l = None

-- ---- awaits [expr.await]

abbrev pub holder_in : Option CoreFunc → ℕ → Bool
holder_in None slot = false
holder_in (Some func) slot = is_held (slice_get func.slots slot)

abbrev pub referred : ℕ → CoType → Place → Local → Local
referred slot of p l = with_slot slot (next_object (store l)) (with_store (add_object (live_object of (cell.Holds (pointer p) ∷ [])) (store l)) l)

abbrev pub held_as : ℕ → Given → Local → Option CoType → Option Local
held_as slot (At p) l (Some of) = Some (referred slot of p l)
held_as slot g l of = None

abbrev pub ready_under : AwaitPlan → Option Place → Option Local → Option Turned
ready_under plan into None = None
ready_under plan into (Some l) = under (AwaitReady plan into) (Evaluate plan.ready None) l

-- the awaiter is there: to one that is no temporary its slot refers
abbrev pub await_operand : AwaitPlan → Option Place → Given → Local → Option Turned
await_operand plan into g l =
    if holder_in (func_of l) plan.holder.0 then ready_under plan into (held_as plan.holder.0 g l (type_of_slot l plan.holder.0)) else ready_under plan into (Some l)

-- the initial `await_resume` is reached
abbrev pub reached : List Frame → List Frame
reached [] = []
reached (Guards resumed ∷ fs) = Guards true ∷ fs
reached (f ∷ fs) = f ∷ reached fs

abbrev pub reached_at : ℕ → Local → Local
reached_at zero l = with_frames (reached l.top.frames) l
reached_at (suc n) l = l

-- the await goes on with `await_resume`, before which the initial one sets its flag
abbrev pub await_resume : AwaitPlan → Option Place → Local → Option Turned
await_resume plan into l = goes (Evaluate plan.resume into) (reached_at plan.point.0 l)

-- whether `await_suspend` is a call; that of the library's awaiters is none
abbrev pub is_call : CoreExpr → Bool
is_call (expr.Call' f n args at) = true
is_call (expr.Load' n (more_of-CoreExpr (expr.Call' f m args at) end_of-CoreExpr) place) = true
is_call e = false

abbrev pub suspended_at : ℕ → ℕ → Continuation → Condition
suspended_at point serial rest = if point == 1 then Final point serial rest else Suspended point serial rest

abbrev pub parked : ℕ → ℕ → AwaitPlan → List ℕ → List Frame → Local → Activation
parked n serial plan own frames l =
    record { kind = OfParked n serial plan.answer; func = l.top.func; slots = []; coroutine = None; into = None; frames = frames ++ Answers n serial plan.answer own plan.span ∷ [] }

abbrev pub suspend_as : ℕ → AwaitPlan → Option Place → List ℕ → List Frame → Outcome → Local → Option Turned
suspend_as n plan into own frames outcome l =
    let serial = suc (serial_now n l) in
    let rest : Continuation = record { slots = l.top.slots; frames = AwaitResume plan into ∷ l.top.frames } in
    goes (Comes outcome) (record (set_condition n (suspended_at plan.point.0 serial rest) l) { top = parked n serial plan own frames l })

-- The coroutine is suspended in one step: what it has left to do goes from the agent to the coroutine, and the agent keeps a
-- parked activation with the call of `await_suspend`, which is entered only then. The temporaries made for that call stay with it.
abbrev pub suspend : Option ℕ → AwaitPlan → Option Place → List ℕ → List Frame → Outcome → Local → Option Turned
suspend None plan into own frames outcome l = None
suspend (Some n) plan into own frames outcome l = suspend_as n plan into own frames outcome l

-- a call whose arguments are there: that of `await_suspend` suspends the coroutine first
abbrev pub suspends_before : Call → List Frame → Local → Option (Option Turned)
suspends_before call (AwaitSuspend plan into own ∷ fs) l = Some (suspend l.top.coroutine plan into own (Calling call ∷ []) Passes (with_frames fs l))
suspends_before call (LoadFrom at ∷ AwaitSuspend plan into own ∷ fs) l = Some (suspend l.top.coroutine plan into own (Calling call ∷ LoadFrom at ∷ []) Passes (with_frames fs l))
suspends_before call fs l = None

-- `await_ready` has answered
abbrev pub await_ready : AwaitPlan → Option Place → Bool → Local → Option Turned
await_ready plan into true l = await_resume plan into l
await_ready plan into false l =
    if is_call plan.suspend then under (AwaitSuspend plan into []) (Evaluate plan.suspend None) l
    else suspend l.top.coroutine plan into [] [] (Gives Nothing) l

abbrev pub taken_by : ℕ → Coroutine → Condition → Outcome → Local → Option Turned
taken_by n c (Suspended point serial rest) outcome l = goes (Comes outcome) (set_condition n (Running serial) (record l { top = activation_of OfBody n c rest }))
taken_by n c (Final point serial rest) outcome l = goes (Comes outcome) (set_condition n (Running serial) (record l { top = activation_of OfBody n c rest }))
taken_by n c now outcome l = None

abbrev pub taken_in : ℕ → Outcome → Local → Option Coroutine → Option Turned
taken_in n outcome l None = None
taken_in n outcome l (Some c) = taken_by n c c.condition outcome l

-- the coroutine runs again, in place of the parked activation, where it is still at this suspension
abbrev pub take_back : ℕ → ℕ → Outcome → Span → Local → Option Turned
take_back n serial outcome at l =
    unless_undefined (record { kind = U1; holds = not_taken_back (coroutines l) n serial } ∷ []) at l (taken_in n outcome l (numbered (coroutines l) n))

abbrev pub is_zero : ℤ → Bool
is_zero (pos zero) = true
is_zero z = false

abbrev pub answer_bool : Bool → ℕ → ℕ → Span → Local → Option Turned
answer_bool true n serial at l = take_back n serial Passes at l
answer_bool false n serial at l = returns Nothing l

-- What `await_suspend` has answered: nothing and true give control back, false resumes this coroutine, and a handle is resumed
-- in its place.
abbrev pub answered : ℕ → ℕ → Answer → Given → Span → Local → Option Turned
answered n serial answer.Void g at l = returns Nothing l
answered n serial answer.Bool (Scalar (value.Number k z)) at l = answer_bool (is_zero z) n serial at l
answered n serial answer.Handle (Scalar v) at l = transfer v at l
answered n serial a g at l = None

-- the temporaries of the agent's own die first
abbrev pub answers : ℕ → ℕ → Answer → List ℕ → Given → Span → Local → Option Turned
answers n serial a [] g at l = answered n serial a g at l
answers n serial a (x ∷ own) g at l = ends (unseen_endings (x ∷ own)) (Gives g) (pushed (Answers n serial a [] at) l)

-- an exception out of `await_suspend` is thrown in the coroutine, which runs again
abbrev pub answer_left : ℕ → ℕ → Answer → List ℕ → Going → Span → Local → Option Turned
answer_left n serial a [] going at l = take_back n serial (Goes going) at l
answer_left n serial a (x ∷ own) going at l = ends (unseen_endings (x ∷ own)) (Goes going) (pushed (Answers n serial a [] at) l)
