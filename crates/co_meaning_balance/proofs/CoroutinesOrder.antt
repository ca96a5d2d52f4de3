-- Coroutines keep the frames in order.
use Rattle.std.proofs.Common.{◌≡◌, ℕ, zero, suc, ◌+◌, ◌≤◌, List, [], ◌∷◌, ◌++◌, Bool, true, false, Some, None, refl, ap, arith, length, sym, subst}
use Rattle.std.proofs.lemmas.Option.{none-some}
use Rattle.std.specs.Prelude.{◌/◌, ◌==◌, if◌then◌else◌, slice_get, slice_set, Option}
use Rattle.co_base.specs.declared.ids.FuncId.{FuncId}
use Rattle.co_base.specs.declared.kinds.Thrown.{Thrown}
use Rattle.co_base.specs.declared.kinds.Undef.TheVariants.{U1, U10, U11}
use Rattle.co_base.specs.declared.span.Span.{Span}
use Rattle.co_types.specs.declared.types.CoType.{CoType}
use Rattle.co_core_tree.specs.declared.exprs.AwaitPlan.{AwaitPlan}
use Rattle.co_core_tree.specs.declared.exprs.Init.{Init}
use Rattle.co_core_tree.specs.declared.kinds.Answer.{Answer}
use Rattle.co_core_tree.specs.declared.kinds.Answer.TheVariants as answer
use Rattle.co_core_tree.specs.declared.kinds.GivePlan.{GivePlan}
use Rattle.co_core_tree.specs.declared.kinds.GivePlan.TheVariants as give
use Rattle.co_core_tree.specs.declared.kinds.TakePlan.{TakePlan}
use Rattle.co_core_tree.specs.declared.kinds.TakePlan.TheVariants as take_plan
use Rattle.co_core_tree.specs.declared.units.CopyPlan.{CopyPlan}
use Rattle.co_core_tree.specs.declared.units.CoreFunc.{CoreFunc}
use Rattle.co_core_tree.specs.declared.units.PromisePlan.{PromisePlan}
use Rattle.co_meaning_data.specs.Frames.{Alive, InHold, Activation, Answers, At, AwaitResume, AwaitSuspend, Awaits, Calling, Comes, Condition, Continuation, Coroutine, Destroying, Drops, Evaluate, Final, Frame, Given, Gives, Goes, Going, HasEnded, Hold, Holds, Initialize, Leaving, Nothing, OfBody, OfDestroy, Outcome, Over, Passes, RampCopies, RampDone, RampMade, RampResult, RampTaken, Running, Scalar, Suspended, Throwing}
use Rattle.co_meaning_data.specs.Store.{Place, next_object, set_standing, whole}
use Rattle.co_meaning_data.specs.Turn.{Local, frame_bytes, func_of, goes, happens, pushed, store, under, with_frames, with_store, leaves, passes}
use Rattle.co_meaning_data.specs.Undefined.{is_no_block, is_no_room, not_suspended, not_taken_back, numbered}
use Rattle.co_meaning_data.specs.declared.events.Event.TheVariants as event
use Rattle.co_meaning_data.specs.declared.values.Standing.TheVariants as standing
use Rattle.co_meaning_data.specs.declared.values.Value.{Value}
use Rattle.co_meaning_data.specs.declared.values.Value.TheVariants as value
use Rattle.co_meaning_calls.specs.Calls.{border, call_acts, calls}
use Rattle.co_meaning_calls.specs.Coroutines.{coroutines, with_coroutine, conditioned, set_condition, plan_of, func_span, is_noexcept_in, take_block, release_value, releases, take_call, takes_frame, ramp_takes, ramp_take, frame_room, without_storage, ramp_taken_by, ramp_taken, new_coroutine, draws, is_made, init_acts_here, ramp_copy_of, promise_in, promised, promised_by, ctor_call, construct_promise, make_promise_in, make_promise_at, ramp_copies, ramp_made, ramp_result_by, ramp_result, await_acts, body_frames, body_begins, ramp_body_by, ramp_body, start_in, started, final_by, final_await, handled_by, guard_left, serial_now, escapes, escapes_from, unhandled_left, hold_left, closes, release_frame, has_ended, activation_of, resumed_by, resumed, above, instead, wakes, resume_faults, null_fault, resume_handle, transfer, destroyed_by, destroyed, destroy_handle, holder_in, held_as, ready_under, await_operand, reached_at, await_resume, is_call, suspended_at, suspend_as, suspend, await_ready, taken_by, taken_in, take_back, is_zero, answer_bool, answered, answers, answer_left, parked}
use Rattle.co_meaning_calls.specs.Objects.{unseen_endings, counted_in, type_of_slot, with_raw}
use Rattle.co_meaning_balance.proofs.CallsOrder.{opens-order, returns-order}
use Rattle.co_meaning_balance.proofs.Frames.{around-strays, borders, border-strays, counts, few, holding, itself, reaches}
use Rattle.co_meaning_balance.proofs.ObjectsOrder.{ends-order, if-order, lives-order, unless-order}
use Rattle.co_meaning_balance.specs.Order.{InOrder, condition_strays, coroutines_stray, frames_hold, frames_inner, frames_stray, is_other, local_strays, made_strays, needs, open_strays, rest_strays}

-- ---- the coroutines

put-strays : (cs : List Coroutine) (m i k : ℕ) (new old : Coroutine) → k ≡ i + m → slice_get cs i ≡ Some old → coroutines_stray m (slice_set cs i new) ≤ coroutines_stray m cs + condition_strays k new.condition
put-strays [] m i k new old e found = absurd (none-some old found)
put-strays (c ∷ cs) m zero k new old e found = let same : m ≡ k = omega (arith, e) in let one = ap (λ k. condition_strays k new.condition) same in omega (arith, one)
put-strays (c ∷ cs) m (suc i) k new old e found = let rest = put-strays cs (suc m) i k new old (omega (arith, e)) found in omega (arith, rest)

abbrev option_strays : ℕ → Option Coroutine → ℕ
option_strays m None = 0
option_strays m (Some c) = condition_strays m c.condition

found-strays : (cs : List Coroutine) (m i k : ℕ) (old : Coroutine) → k ≡ i + m → slice_get cs i ≡ Some old → condition_strays k old.condition ≤ coroutines_stray m cs
found-strays [] m i k old e found = absurd (none-some old found)
found-strays (c ∷ cs) m zero k old e found =
    let same : m ≡ k = omega (arith, e) in
    let one = ap (λ k. condition_strays k old.condition) same in
    let two = ap (option_strays m) found in
    omega (arith, one, two)
found-strays (c ∷ cs) m (suc i) k old e found = let rest = found-strays cs (suc m) i k old (omega (arith, e)) found in omega (arith, rest)

joined-strays : (cs : List Coroutine) (m : ℕ) (c : Coroutine) → c.condition ≡ Running 0 → coroutines_stray m (cs ++ c ∷ []) ≡ coroutines_stray m cs
joined-strays [] m c e = let none = ap (condition_strays m) e in omega (arith, none)
joined-strays (d ∷ cs) m c e = let rest = joined-strays cs (suc m) c e in omega (arith, rest)

-- a state in which only the list of the coroutines is another
abbrev pub with_list : List Coroutine → Local → Local
with_list cs l = record l { shared = record l.shared { coroutines = cs } }

record Changed (more : ℕ) (l k : Local) : Type 0 where
  list : List Coroutine
  is : k ≡ with_list list l
  fits : coroutines_stray 1 list ≤ coroutines_stray 1 l.shared.coroutines + more

with-changed : (n : ℕ) (new old : Coroutine) (l : Local) → numbered (coroutines l) n ≡ Some old → Changed (condition_strays n new.condition) l (with_coroutine n new l)
with-changed zero new old l e = absurd (none-some old e)
with-changed (suc i) new old l e = record { list = slice_set l.shared.coroutines i new; is = refl; fits = put-strays l.shared.coroutines 1 i (suc i) new old (omega arith) e }

conditioned-changed : (n : ℕ) (now : Condition) (l : Local) (o : Option Coroutine) → numbered (coroutines l) n ≡ o → Changed (condition_strays n now) l (conditioned n now l o)
conditioned-changed n now l None e = record { list = l.shared.coroutines; is = refl; fits = omega arith }
conditioned-changed n now l (Some c) e = with-changed n (record c { condition = now }) c l e

set-changed : (n : ℕ) (now : Condition) (l : Local) → Changed (condition_strays n now) l (set_condition n now l)
set-changed n now l = conditioned-changed n now l (numbered (coroutines l) n) refl

pub numbered-strays : (n : ℕ) (c : Coroutine) (cs : List Coroutine) → numbered cs n ≡ Some c → condition_strays n c.condition ≤ coroutines_stray 1 cs
numbered-strays zero c cs e = absurd (none-some c e)
numbered-strays (suc i) c cs e = found-strays cs 1 i (suc i) c (omega arith) e

promised-changed : (n y : ℕ) (l : Local) (o : Option Coroutine) → numbered (coroutines l) n ≡ o → Changed (coroutines_stray 1 l.shared.coroutines) l (promised n y l o)
promised-changed n y l None e = record { list = l.shared.coroutines; is = refl; fits = omega arith }
promised-changed n y l (Some c) e =
    let set = with-changed n (record c { promise = Some y }) c l e in
    let fits = set.fits in
    let before = numbered-strays n c l.shared.coroutines e in
    record { list = set.list; is = set.is; fits = omega (arith, fits, before) }

promised_by-changed : (y : ℕ) (l : Local) (o : Option ℕ) → Changed (coroutines_stray 1 l.shared.coroutines) l (promised_by y l o)
promised_by-changed y l None = record { list = l.shared.coroutines; is = refl; fits = omega arith }
promised_by-changed y l (Some n) = promised-changed n y l (numbered (coroutines l) n) refl

suspended-strays : (n point serial : ℕ) (rest : Continuation) → condition_strays n (suspended_at point serial rest) ≡ frames_stray (Some n) rest.frames
suspended-strays n point serial rest = go (point == 1)
  where
    go : (c : Bool) → condition_strays n (if c then Final point serial rest else Suspended point serial rest) ≡ frames_stray (Some n) rest.frames
    go true = refl
    go false = refl

-- ---- coroutines that go on

-- what a resume of a suspended coroutine begins
record Woken (l : Local) (woken : Activation × Local) : Type 0 where
  frames : frames_stray woken.0.coroutine woken.0.frames ≤ 0
  list : List Coroutine
  is : woken.1 ≡ with_list list l
  fits : coroutines_stray 1 list ≤ 0

abbrev IfWoken : Local → Option (Activation × Local) → Type 0
IfWoken l None = Unit {0}
IfWoken l (Some woken) = Woken l woken

resumed_by-order : (n : ℕ) (c : Coroutine) (now : Condition) (l : Local) → numbered (coroutines l) n ≡ Some c → c.condition ≡ now → coroutines_stray 1 l.shared.coroutines ≤ 0 → IfWoken l (resumed_by n c now l)
resumed_by-order n c (Suspended point serial rest) l e f known =
    let found = numbered-strays n c l.shared.coroutines e in
    let held = ap (condition_strays n) f in
    let set = set-changed n (Running serial) l in
    let fits = set.fits in
    record { frames = omega (arith, known, found, held); list = set.list; is = set.is; fits = omega (arith, known, fits) }
resumed_by-order n c now l e f known = tt

resumed-order : (n : ℕ) (l : Local) (o : Option Coroutine) → numbered (coroutines l) n ≡ o → coroutines_stray 1 l.shared.coroutines ≤ 0 → IfWoken l (resumed n l o)
resumed-order n l None e known = tt
resumed-order n l (Some c) e known = resumed_by-order n c c.condition l e refl known

wakes-order : (n : ℕ) (l : Local) → coroutines_stray 1 l.shared.coroutines ≤ 0 → IfWoken l (wakes n l)
wakes-order n l known = resumed-order n l (numbered (coroutines l) n) refl known

pub take_block-order : (words : ℕ) (l : Local) → local_strays l ≤ 0 → InOrder (take_block words l)
take_block-order words l known = omega (arith, known)

pub release_value-order : (v : Value) (outcome : Outcome) (at : Span) (l : Local) → local_strays l ≤ 0 → InOrder (release_value v outcome at l)
release_value-order (value.Block b) outcome at l known = omega (arith, known)
release_value-order v outcome at l known = tt

pub releases-order : (b : ℕ) (words : ℕ) (g : GivePlan) (outcome : Outcome) (at : Span) (l : Local) → local_strays l ≤ 0 → InOrder (releases b words g outcome at l)
releases-order b words give.Global outcome at l known = unless-order (record { kind = U11; holds = is_no_block (store l) (coroutines l) (value.Block b) } ∷ []) at l (release_value (value.Block b) outcome at l) (omega (arith, known)) (release_value-order (value.Block b) outcome at l (omega (arith, known)))
releases-order b words (give.Own f) outcome at l known = omega (arith, known)
releases-order b words (give.OwnSized f) outcome at l known = omega (arith, known)

takes_frame-order : (plan : TakePlan) (rest : List Init) (l : Local) → open_strays l ≤ 0 → InOrder (takes_frame plan rest l)
takes_frame-order take_plan.Global rest l known = take_block-order (frame_bytes l / 8) l (omega (arith, known))
takes_frame-order (take_plan.Own f) rest l known = omega (arith, known)
takes_frame-order (take_plan.OwnWith f) rest l known =
    let call = few (needs l.top.coroutine (frames_hold l.top.coroutine l.top.frames)) rest in
    opens-order (call_acts l (take_call f rest l)) (Calling (take_call f rest l) ∷ []) (Comes Passes) l (λ us. omega (arith, known, call))

ramp_takes-order : (l : Local) (plan : Option PromisePlan) → frames_inner l.top.frames + open_strays l ≤ 0 → InOrder (ramp_takes l plan)
ramp_takes-order l None known = tt
ramp_takes-order l (Some plan) known = takes_frame-order plan.take plan.take_args (pushed RampTaken l) (omega (arith, known))

pub ramp_take-order : (l : Local) → frames_inner l.top.frames + open_strays l ≤ 0 → InOrder (ramp_take l)
ramp_take-order l known = ramp_takes-order l (plan_of l) known

frame_room-order : (v : Value) (l : Local) → frames_inner l.top.frames + local_strays l ≤ 0 → InOrder (frame_room v l)
frame_room-order (value.Block b) l known = omega (arith, known)
frame_room-order v l known = tt

without_storage-order : (on_null : Option FuncId) (v : Value) (l : Local) → frames_inner l.top.frames + local_strays l ≤ 0 → InOrder (without_storage on_null v l)
without_storage-order (Some f) value.Null l known = omega (arith, known)
without_storage-order on_null v l known = unless-order (record { kind = U10; holds = is_no_room (store l) (coroutines l) (frame_bytes l / 8) v } ∷ []) (func_span l) l (frame_room v l) (omega (arith, known)) (frame_room-order v l known)

ramp_taken_by-order : (v : Value) (l : Local) (plan : Option PromisePlan) → frames_inner l.top.frames + local_strays l ≤ 0 → InOrder (ramp_taken_by v l plan)
ramp_taken_by-order v l None known = tt
ramp_taken_by-order v l (Some plan) known = without_storage-order plan.on_null v l known

pub ramp_taken-order : (v : Value) (l : Local) → frames_inner l.top.frames + local_strays l ≤ 0 → InOrder (ramp_taken v l)
ramp_taken-order v l known = ramp_taken_by-order v l (plan_of l) known

pub draws-order : (b : ℕ) (l : Local) → frames_inner l.top.frames + local_strays l ≤ 0 → InOrder (draws b l)
draws-order b l known =
    let joined = joined-strays l.shared.coroutines 1 (new_coroutine b l) refl in
    let frames = around-strays (Some (suc (length (coroutines l)))) l.top.frames (omega (arith, known)) in
    let same = itself (suc (length (coroutines l))) in
    omega (arith, known, joined, frames, same)

pub is_made-order : (n : ℕ) (l : Local) → is_other l.top.coroutine n + (frames_inner l.top.frames + local_strays l) ≤ 0 → InOrder (is_made n l)
is_made-order n l known = let held = holding l.top.coroutine n (frames_hold l.top.coroutine l.top.frames) (omega (arith, known)) in omega (arith, known, held)

ramp_copy_of-order : (copy : CopyPlan) (rest : List CopyPlan) (l : Local) (of : Option CoType) → open_strays l ≤ 0 → InOrder (ramp_copy_of copy rest l of)
ramp_copy_of-order copy rest l None known = tt
ramp_copy_of-order copy rest l (Some of) known =
    let made = counts l of (frames_hold l.top.coroutine l.top.frames) in
    opens-order (init_acts_here (pushed (RampCopies rest) (with_raw copy.to.0 of (counted_in l of) l)) copy.init) (RampMade (record { object = next_object (store l); coroutine = counted_in l of }) ∷ []) (Initialize copy.init (Some (whole (next_object (store l))))) (pushed (RampCopies rest) (with_raw copy.to.0 of (counted_in l of) l)) (λ us. omega (arith, known, made))

construct_promise-order : (plan : PromisePlan) (y : Alive) (l : Local) (f : Option FuncId) → needs l.top.coroutine (frames_hold l.top.coroutine l.top.frames) + made_strays y l ≤ 0 → InOrder (construct_promise plan y l f)
construct_promise-order plan y l None known = omega (arith, known)
construct_promise-order plan y l (Some f) known =
    let call = few (needs l.top.coroutine (frames_hold l.top.coroutine l.top.frames)) (if plan.with_params then plan.ctor_args else []) in
    opens-order (call_acts l (ctor_call f plan.with_params plan.ctor_args y.object l)) (Calling (ctor_call f plan.with_params plan.ctor_args y.object l) ∷ Drops ∷ RampMade y ∷ []) (Comes Passes) l (λ us. omega (arith, known, call))

promise_made-order : (plan : PromisePlan) (y : Alive) (l k : Local) → Changed (coroutines_stray 1 l.shared.coroutines) l k → needs l.top.coroutine (frames_hold l.top.coroutine l.top.frames) + made_strays y l ≤ 0 → InOrder (construct_promise plan y (pushed RampResult k) plan.ctor)
promise_made-order plan y l k changed known =
    let fits = changed.fits in
    subst (λ k. InOrder (construct_promise plan y (pushed RampResult k) plan.ctor)) (sym changed.is) (construct_promise-order plan y (pushed RampResult (with_list changed.list l)) plan.ctor (omega (arith, known, fits)))

make_promise_in-order : (plan : PromisePlan) (slot : ℕ) (l : Local) (of : Option CoType) → open_strays l ≤ 0 → InOrder (make_promise_in plan slot l of)
make_promise_in-order plan slot l None known = tt
make_promise_in-order plan slot l (Some of) known =
    let made = counts l of (frames_hold l.top.coroutine l.top.frames) in
    promise_made-order plan (record { object = next_object (store l); coroutine = counted_in l of }) (with_raw slot of (counted_in l of) l) (promised_by (next_object (store l)) (with_raw slot of (counted_in l of) l) l.top.coroutine) (promised_by-changed (next_object (store l)) (with_raw slot of (counted_in l of) l) l.top.coroutine) (omega (arith, known, made))

make_promise_at-order : (l : Local) (plan : Option PromisePlan) (slot : Option ℕ) → open_strays l ≤ 0 → InOrder (make_promise_at l plan slot)
make_promise_at-order l (Some plan) (Some slot) known = make_promise_in-order plan slot l (type_of_slot l slot) (omega (arith, known))
make_promise_at-order l plan slot known = tt

pub ramp_copies-order : (list : List CopyPlan) (l : Local) → open_strays l ≤ 0 → InOrder (ramp_copies list l)
ramp_copies-order (copy ∷ rest) l known = ramp_copy_of-order copy rest l (type_of_slot l copy.to.0) (omega (arith, known))
ramp_copies-order [] l known = make_promise_at-order l (plan_of l) (promise_in (func_of l)) (omega (arith, known))

pub ramp_made-order : (y : Alive) (l : Local) → made_strays y l ≤ 0 → InOrder (ramp_made y l)
ramp_made-order y l known = lives-order y InHold Passes l known

ramp_result_by-order : (l : Local) (o : Option PromisePlan) → open_strays l ≤ 0 → InOrder (ramp_result_by l o)
ramp_result_by-order l None known = tt
ramp_result_by-order l (Some plan) known = omega (arith, known)

pub ramp_result-order : (l : Local) → open_strays l ≤ 0 → InOrder (ramp_result l)
ramp_result-order l known = ramp_result_by-order l (plan_of l) (omega (arith, known))

body_begins-order : (plan : PromisePlan) (hold : Hold) (l : Local) → is_other l.top.coroutine hold.coroutine + local_strays l ≤ 0 → InOrder (body_begins plan hold l)
body_begins-order plan hold l known =
    let body : Activation = record { kind = OfBody; func = l.top.func; slots = l.top.slots; coroutine = l.top.coroutine; into = None; frames = body_frames plan.initial hold l } in
    let held = holding l.top.coroutine hold.coroutine (frames_hold l.top.coroutine (border (is_noexcept_in (func_of l)))) (omega (arith, known)) in
    let outer = borders (is_noexcept_in (func_of l)) in
    let bare = border-strays l.top.coroutine (is_noexcept_in (func_of l)) in
    opens-order (await_acts l plan.initial) [] (Awaits plan.initial None) (record (pushed RampDone l) { top = body; below = (pushed RampDone l).top ∷ (pushed RampDone l).below }) (λ us. omega (arith, known, held, outer, bare))

ramp_body_by-order : (fs : List Frame) (l : Local) (plan : Option PromisePlan) → frames_stray l.top.coroutine fs + rest_strays l ≤ 0 → InOrder (ramp_body_by fs l plan)
ramp_body_by-order (Holds hold ∷ fs) l (Some plan) known = body_begins-order plan hold (with_frames fs l) (omega (arith, known))
ramp_body_by-order fs l plan known = tt

pub ramp_body-order : (l : Local) → local_strays l ≤ 0 → InOrder (ramp_body l)
ramp_body-order l known = ramp_body_by-order l.top.frames l (plan_of l) known

start_in-order : (l : Local) (o : Option CoreFunc) → open_strays l ≤ 0 → InOrder (start_in l o)
start_in-order l None known = tt
start_in-order l (Some func) known = omega (arith, known)

pub started-order : (l : Local) → open_strays l ≤ 0 → InOrder (started l)
started-order l known = start_in-order l (func_of l) (omega (arith, known))

final_by-order : (l : Local) (o : Option PromisePlan) → open_strays l ≤ 0 → InOrder (final_by l o)
final_by-order l None known = tt
final_by-order l (Some plan) known = opens-order (await_acts l plan.last) [] (Awaits plan.last None) (pushed Drops l) (λ us. omega (arith, known))

pub final_await-order : (l : Local) → open_strays l ≤ 0 → InOrder (final_await l)
final_await-order l known = final_by-order l (plan_of l) (omega (arith, known))

handled_by-order : (v : Thrown) (l : Local) (o : Option PromisePlan) → open_strays l ≤ 0 → InOrder (handled_by v l o)
handled_by-order v l None known = tt
handled_by-order v l (Some plan) known = omega (arith, known)

pub guard_left-order : (resumed : Bool) (going : Going) (l : Local) → open_strays l ≤ 0 → InOrder (guard_left resumed going l)
guard_left-order resumed Leaving l known = final_await-order l (omega (arith, known))
guard_left-order true (Throwing v) l known = handled_by-order v l (plan_of l) (omega (arith, known))
guard_left-order resumed going l known = omega (arith, known)

escapes-order : (n : ℕ) (v : Thrown) (l : Local) → l.top.coroutine ≡ Some n → local_strays l ≤ 0 → InOrder (escapes n v l)
escapes-order n v l e known =
    let rest : Continuation = record { slots = l.top.slots; frames = l.top.frames } in
    let set = set-changed n (Final 2 (suc (serial_now n l)) rest) l in
    let fits = set.fits in
    let bare = border-strays l.top.coroutine (is_noexcept_in (func_of l)) in
    let same = ap (λ c. frames_stray c l.top.frames) e in
    subst (λ k. InOrder (leaves (Throwing v) (with_frames (border (is_noexcept_in (func_of l))) k))) (sym set.is) (omega (arith, known, fits, bare, same))

escapes_from-order : (o : Option ℕ) (v : Thrown) (l : Local) → l.top.coroutine ≡ o → local_strays l ≤ 0 → InOrder (escapes_from o v l)
escapes_from-order None v l e known = tt
escapes_from-order (Some n) v l e known = escapes-order n v l e known

pub unhandled_left-order : (going : Going) (l : Local) → local_strays l ≤ 0 → InOrder (unhandled_left going l)
unhandled_left-order (Throwing v) l known = escapes_from-order l.top.coroutine v l refl known
unhandled_left-order going l known = omega (arith, known)

pub hold_left-order : (hold : Hold) (outcome : Outcome) (l : Local) → is_other l.top.coroutine hold.coroutine + (frames_inner l.top.frames + local_strays l) ≤ 0 → InOrder (hold_left hold outcome l)
hold_left-order hold outcome l known = omega (arith, known)

pub closes-order : (n b : ℕ) (outcome : Outcome) (l : Local) → local_strays l ≤ 0 → InOrder (closes n b outcome l)
closes-order n b outcome l known =
    let set = set-changed n Over (with_store (set_standing b standing.Nothing (store l)) l) in
    let fits = set.fits in
    subst (λ k. InOrder (goes (HasEnded n b outcome) k)) (sym set.is) (omega (arith, known, fits))

release_frame-order : (b : ℕ) (outcome : Outcome) (l : Local) (o : Option PromisePlan) → local_strays l ≤ 0 → InOrder (release_frame b outcome l o)
release_frame-order b outcome l None known = tt
release_frame-order b outcome l (Some plan) known = omega (arith, known)

pub has_ended-order : (n : ℕ) (b : ℕ) (outcome : Outcome) (l : Local) → local_strays l ≤ 0 → InOrder (has_ended n b outcome l)
has_ended-order n b outcome l known = release_frame-order b outcome (happens (event.Ended n) l) (plan_of l) (omega (arith, known))

above-order : (l : Local) (woken : Option (Activation × Local)) → IfWoken l woken → local_strays l ≤ 0 → InOrder (above woken)
above-order l None woken known = tt
above-order l (Some w) woken known =
    let frames = woken.frames in
    let fits = woken.fits in
    subst (λ k. InOrder (calls (Comes Passes) w.0 k)) (sym woken.is) (omega (arith, known, frames, fits))

instead-order : (l : Local) (woken : Option (Activation × Local)) → IfWoken l woken → rest_strays l ≤ 0 → InOrder (instead woken)
instead-order l None woken known = tt
instead-order l (Some w) woken known =
    let frames = woken.frames in
    let fits = woken.fits in
    subst (λ k. InOrder (passes (record k { top = w.0 }))) (sym woken.is) (omega (arith, known, frames, fits))

pub resume_handle-order : (v : Value) (at : Span) (l : Local) → local_strays l ≤ 0 → InOrder (resume_handle v at l)
resume_handle-order (value.Handle n) at l known = unless-order (resume_faults n l) at l (above (wakes n l)) known (above-order l (wakes n l) (wakes-order n l (omega (arith, known))) known)
resume_handle-order value.Noop at l known = omega (arith, known)
resume_handle-order value.Null at l known = unless-order null_fault at l None known tt
resume_handle-order v at l known = tt

pub transfer-order : (v : Value) (at : Span) (l : Local) → local_strays l ≤ 0 → InOrder (transfer v at l)
transfer-order (value.Handle n) at l known = unless-order (resume_faults n l) at l (instead (wakes n l)) known (instead-order l (wakes n l) (wakes-order n l (omega (arith, known))) (omega (arith, known)))
transfer-order value.Noop at l known = returns-order Nothing l (omega (arith, known))
transfer-order value.Null at l known = unless-order null_fault at l None known tt
transfer-order v at l known = tt

destroying-order : (n serial : ℕ) (c : Coroutine) (rest : Continuation) (l : Local) → frames_stray (Some n) rest.frames ≤ 0 → local_strays l ≤ 0 → InOrder (calls (Comes (Goes Destroying)) (activation_of OfDestroy n c rest) (set_condition n (Running serial) l))
destroying-order n serial c rest l frames known =
    let set = set-changed n (Running serial) l in
    let fits = set.fits in
    subst (λ k. InOrder (calls (Comes (Goes Destroying)) (activation_of OfDestroy n c rest) k)) (sym set.is) (omega (arith, known, frames, fits))

destroyed_by-order : (n : ℕ) (c : Coroutine) (now : Condition) (l : Local) → condition_strays n now ≤ 0 → local_strays l ≤ 0 → InOrder (destroyed_by n c now l)
destroyed_by-order n c (Suspended point serial rest) l frames known = destroying-order n serial c rest l frames known
destroyed_by-order n c (Final point serial rest) l frames known = destroying-order n serial c rest l frames known
destroyed_by-order n c now l frames known = tt

destroyed-order : (n : ℕ) (l : Local) (o : Option Coroutine) → numbered (coroutines l) n ≡ o → local_strays l ≤ 0 → InOrder (destroyed n l o)
destroyed-order n l None e known = tt
destroyed-order n l (Some c) e known = let found = numbered-strays n c l.shared.coroutines e in destroyed_by-order n c c.condition l (omega (arith, known, found)) known

pub destroy_handle-order : (v : Value) (at : Span) (l : Local) → local_strays l ≤ 0 → InOrder (destroy_handle v at l)
destroy_handle-order (value.Handle n) at l known = unless-order (record { kind = U1; holds = not_suspended (coroutines l) n } ∷ []) at l (destroyed n l (numbered (coroutines l) n)) known (destroyed-order n l (numbered (coroutines l) n) refl known)
destroy_handle-order value.Noop at l known = omega (arith, known)
destroy_handle-order value.Null at l known = unless-order null_fault at l None known tt
destroy_handle-order v at l known = tt

-- ---- awaits

abbrev IfLocal : Option Local → Type 0
IfLocal None = Unit {0}
IfLocal (Some l) = open_strays l ≤ 0

held_as-order : (slot : ℕ) (g : Given) (l : Local) (of : Option CoType) → open_strays l ≤ 0 → IfLocal (held_as slot g l of)
held_as-order slot (At p) l (Some of) known = known
held_as-order slot g l of known = tt

ready_under-order : (plan : AwaitPlan) (into : Option Place) (l : Option Local) → IfLocal l → InOrder (ready_under plan into l)
ready_under-order plan into None known = tt
ready_under-order plan into (Some l) known = omega (arith, known)

pub await_operand-order : (plan : AwaitPlan) (into : Option Place) (g : Given) (l : Local) → open_strays l ≤ 0 → InOrder (await_operand plan into g l)
await_operand-order plan into g l known =
    if-order (holder_in (func_of l) plan.holder.0) (ready_under plan into (held_as plan.holder.0 g l (type_of_slot l plan.holder.0))) (ready_under plan into (Some l))
    (ready_under-order plan into (held_as plan.holder.0 g l (type_of_slot l plan.holder.0)) (held_as-order plan.holder.0 g l (type_of_slot l plan.holder.0) known))
    (ready_under-order plan into (Some l) known)

reached_at-order : (n : ℕ) (l : Local) → open_strays l ≤ 0 → open_strays (reached_at n l) ≤ 0
reached_at-order zero l known =
    let alike = reaches l.top.coroutine l.top.frames in
    let strays = alike.strays in
    let held = ap (needs l.top.coroutine) alike.held in
    omega (arith, known, strays, held)
reached_at-order (suc n) l known = known

pub await_resume-order : (plan : AwaitPlan) (into : Option Place) (l : Local) → open_strays l ≤ 0 → InOrder (await_resume plan into l)
await_resume-order plan into l known = let there = reached_at-order plan.point.0 l known in omega (arith, there)

suspend_as-order : (n : ℕ) (plan : AwaitPlan) (into : Option Place) (own : List ℕ) (frames : List Frame) (outcome : Outcome) (l : Local) → l.top.coroutine ≡ Some n → ((serial : ℕ) → frames_stray None (frames ++ Answers n serial plan.answer own plan.span ∷ []) ≤ 0) → open_strays l ≤ 0 → InOrder (suspend_as n plan into own frames outcome l)
suspend_as-order n plan into own frames outcome l e new known =
    let rest : Continuation = record { slots = l.top.slots; frames = AwaitResume plan into ∷ l.top.frames } in
    let set = set-changed n (suspended_at plan.point.0 (suc (serial_now n l)) rest) l in
    let fits = set.fits in
    let held = suspended-strays n plan.point.0 (suc (serial_now n l)) rest in
    let same = ap (λ c. needs c (frames_hold c l.top.frames) + frames_stray c l.top.frames) e in
    let parks = new (suc (serial_now n l)) in
    subst (λ k. InOrder (goes (Comes outcome) (record k { top = parked n (suc (serial_now n l)) plan own frames l }))) (sym set.is) (omega (arith, known, fits, held, same, parks))

pub suspend-order : (o : Option ℕ) (plan : AwaitPlan) (into : Option Place) (own : List ℕ) (frames : List Frame) (outcome : Outcome) (l : Local) → l.top.coroutine ≡ o → ((n serial : ℕ) → frames_stray None (frames ++ Answers n serial plan.answer own plan.span ∷ []) ≤ 0) → open_strays l ≤ 0 → InOrder (suspend o plan into own frames outcome l)
suspend-order None plan into own frames outcome l e new known = tt
suspend-order (Some n) plan into own frames outcome l e new known = suspend_as-order n plan into own frames outcome l e (new n) known

pub await_ready-order : (plan : AwaitPlan) (into : Option Place) (ready : Bool) (l : Local) → open_strays l ≤ 0 → InOrder (await_ready plan into ready l)
await_ready-order plan into true l known = await_resume-order plan into l known
await_ready-order plan into false l known = if-order (is_call plan.suspend) (under (AwaitSuspend plan into []) (Evaluate plan.suspend None) l) (suspend l.top.coroutine plan into [] [] (Gives Nothing) l) (omega (arith, known)) (suspend-order l.top.coroutine plan into [] [] (Gives Nothing) l refl (λ n serial. omega arith) known)

taking-order : (n serial : ℕ) (c : Coroutine) (rest : Continuation) (outcome : Outcome) (l : Local) → frames_stray (Some n) rest.frames ≤ 0 → rest_strays l ≤ 0 → InOrder (goes (Comes outcome) (set_condition n (Running serial) (record l { top = activation_of OfBody n c rest })))
taking-order n serial c rest outcome l frames known =
    let set = set-changed n (Running serial) (record l { top = activation_of OfBody n c rest }) in
    let fits = set.fits in
    subst (λ k. InOrder (goes (Comes outcome) k)) (sym set.is) (omega (arith, known, frames, fits))

taken_by-order : (n : ℕ) (c : Coroutine) (now : Condition) (outcome : Outcome) (l : Local) → condition_strays n now ≤ 0 → rest_strays l ≤ 0 → InOrder (taken_by n c now outcome l)
taken_by-order n c (Suspended point serial rest) outcome l frames known = taking-order n serial c rest outcome l frames known
taken_by-order n c (Final point serial rest) outcome l frames known = taking-order n serial c rest outcome l frames known
taken_by-order n c now outcome l frames known = tt

taken_in-order : (n : ℕ) (outcome : Outcome) (l : Local) (o : Option Coroutine) → numbered (coroutines l) n ≡ o → rest_strays l ≤ 0 → InOrder (taken_in n outcome l o)
taken_in-order n outcome l None e known = tt
taken_in-order n outcome l (Some c) e known = let found = numbered-strays n c l.shared.coroutines e in taken_by-order n c c.condition outcome l (omega (arith, known, found)) known

take_back-order : (n serial : ℕ) (outcome : Outcome) (at : Span) (l : Local) → local_strays l ≤ 0 → InOrder (take_back n serial outcome at l)
take_back-order n serial outcome at l known = unless-order (record { kind = U1; holds = not_taken_back (coroutines l) n serial } ∷ []) at l (taken_in n outcome l (numbered (coroutines l) n)) known (taken_in-order n outcome l (numbered (coroutines l) n) refl (omega (arith, known)))

answer_bool-order : (true : Bool) (n : ℕ) (serial : ℕ) (at : Span) (l : Local) → local_strays l ≤ 0 → InOrder (answer_bool true n serial at l)
answer_bool-order true n serial at l known = take_back-order n serial Passes at l (omega (arith, known))
answer_bool-order false n serial at l known = returns-order Nothing l (omega (arith, known))

answered-order : (n : ℕ) (serial : ℕ) (a : Answer) (g : Given) (at : Span) (l : Local) → local_strays l ≤ 0 → InOrder (answered n serial a g at l)
answered-order n serial answer.Void g at l known = returns-order Nothing l (omega (arith, known))
answered-order n serial answer.Bool (Scalar (value.Number k z)) at l known = answer_bool-order (is_zero z) n serial at l (omega (arith, known))
answered-order n serial answer.Handle (Scalar v) at l known = transfer-order v at l (omega (arith, known))
answered-order n serial a g at l known = tt

pub answers-order : (n serial : ℕ) (a : Answer) (own : List ℕ) (g : Given) (at : Span) (l : Local) → frames_inner l.top.frames + local_strays l ≤ 0 → InOrder (answers n serial a own g at l)
answers-order n serial a [] g at l known = answered-order n serial a g at l (omega (arith, known))
answers-order n serial a (x ∷ own) g at l known = ends-order (unseen_endings (x ∷ own)) (Gives g) (pushed (Answers n serial a [] at) l) (omega (arith, known))

pub answer_left-order : (n serial : ℕ) (a : Answer) (own : List ℕ) (going : Going) (at : Span) (l : Local) → frames_inner l.top.frames + local_strays l ≤ 0 → InOrder (answer_left n serial a own going at l)
answer_left-order n serial a [] going at l known = take_back-order n serial (Goes going) at l (omega (arith, known))
answer_left-order n serial a (x ∷ own) going at l known = ends-order (unseen_endings (x ∷ own)) (Goes going) (pushed (Answers n serial a [] at) l) (omega (arith, known))
