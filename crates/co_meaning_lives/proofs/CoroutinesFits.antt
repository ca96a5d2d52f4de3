-- Coroutines keep what is to come.
use Rattle.std.proofs.Common.{◌≡◌, ℕ, zero, suc, ◌+◌, ◌≤◌, List, [], ◌∷◌, ◌++◌, Bool, true, false, Some, None, refl, ap, ◌∙◌, arith, length}
use Rattle.std.specs.Prelude.{◌*◌, ◌/◌, ◌==◌, if◌then◌else◌, slice_get, slice_set, Option}
use Rattle.co_base.specs.declared.ids.FuncId.{FuncId}
use Rattle.co_base.specs.declared.kinds.Thrown.{Thrown}
use Rattle.co_base.specs.declared.kinds.Undef.TheVariants.{U1, U10, U11}
use Rattle.co_base.specs.declared.span.Span.{Span}
use Rattle.co_types.specs.declared.types.CoType.{CoType}
use Rattle.co_core_tree.specs.declared.exprs.AwaitPlan.{AwaitPlan}
use Rattle.co_core_tree.specs.declared.exprs.Init.{Init}
use Rattle.co_core_tree.specs.declared.kinds.Answer.{Answer}
use Rattle.co_core_tree.specs.declared.kinds.GivePlan.{GivePlan}
use Rattle.co_core_tree.specs.declared.kinds.TakePlan.{TakePlan}
use Rattle.co_core_tree.specs.declared.units.CopyPlan.{CopyPlan}
use Rattle.co_core_tree.specs.declared.units.CoreFunc.{CoreFunc}
use Rattle.co_core_tree.specs.declared.units.PromisePlan.{PromisePlan}
use Rattle.co_meaning_data.specs.declared.values.Value.{Value}
use Rattle.co_meaning_data.specs.Frames.{Alive, InHold, Activation, Answers, At, AwaitReady, AwaitResume, AwaitSuspend, Awaits, Calling, Closes, Comes, Condition, Continuation, Coroutine, Destroying, Draws, Drops, Ends, Evaluate, Execute, Final, Frame, Given, Gives, Goes, Going, Guards, Handled, HasEnded, Hold, Holds, Initialize, IsMade, Leaving, Nothing, NullDone, OfBody, OfDestroy, Outcome, Over, Passes, RampBody, RampCopies, RampDone, RampMade, RampResult, RampTaken, Releases, Running, Scalar, Suspended, Throwing, Unhandled}
use Rattle.co_meaning_data.specs.Store.{Place, add_block, live_object, next_block, next_object, release, set_part, set_standing, whole, raw_object}
use Rattle.co_meaning_data.specs.Undefined.{is_no_block, is_no_room, not_suspended, not_taken_back, numbered}
use Rattle.co_meaning_calls.specs.Calls.{border, call_acts, calls}
use Rattle.co_meaning_calls.specs.Objects.{unseen_endings, call_with, counted_in, endings, type_of_slot, with_raw}
use Rattle.co_meaning_data.specs.Turn.{Local, classes, frame_bytes, func_of, goes, happens, pointer, pushed, store, under, with_frames, with_store}
use Rattle.co_meaning_calls.specs.Coroutines.{coroutines, with_coroutine, conditioned, set_condition, plan_of, func_span, is_noexcept_in, size_given, take_block, release_value, releases, take_call, takes_frame, ramp_takes, ramp_take, frame_room, without_storage, ramp_taken_by, ramp_taken, new_coroutine, with_new_coroutine, draws, copies_in, hold_of, is_made, init_acts_here, ramp_copy_of, promise_in, promised, promised_by, ctor_call, construct_promise, make_promise_in, make_promise_at, ramp_copies, ramp_made, promise_call, ramp_result_by, ramp_result, await_acts, body_frames, body_begins, ramp_body_by, ramp_body, start_in, started, final_by, final_await, handled_by, guard_left, serial_now, escapes, escapes_from, unhandled_left, hold_left, closes, release_frame, has_ended, activation_of, resumed_by, resumed, above, instead, wakes, resume_faults, null_fault, resume_handle, transfer, destroyed_by, destroyed, destroy_handle, holder_in, held_as, ready_under, await_operand, reached, reached_at, await_resume, is_call, suspended_at, suspend_as, suspend, await_ready, taken_by, taken_in, take_back, is_zero, answer_bool, answered, answers, answer_left}
use Rattle.std.proofs.lemmas.Option.{none-some}
use Rattle.co_meaning_lives.specs.Tokens.{Fits, alive_weigh, condition_weighs, coroutines_weigh, credits, frames_weigh, local_weighs, option_weighs, rest_weighs, weighs}
use Rattle.co_meaning_lives.proofs.Weights.{set_standing-count, set_part-count, release-count, same, fresh, goes-fits, under-fits, gives-fits, passes-fits, leaves-fits, calls-fits, events-add, unless-fits, if-fits, credits-add, unseen-weigh, endings-weigh, frames-join}
use Rattle.co_core_tree.specs.declared.kinds.Answer.TheVariants as answer
use Rattle.co_core_tree.specs.declared.kinds.GivePlan.TheVariants as give
use Rattle.co_core_tree.specs.declared.kinds.TakePlan.TheVariants as take_plan
use Rattle.co_meaning_data.specs.declared.events.Event.TheVariants as event
use Rattle.co_meaning_data.specs.declared.values.Cell.TheVariants as cell
use Rattle.co_meaning_data.specs.declared.values.Standing.TheVariants as standing
use Rattle.co_meaning_data.specs.declared.values.Value.TheVariants as value
use Rattle.co_meaning_lives.proofs.ObjectsFits.{lives-fits, ends-fits}
use Rattle.co_meaning_lives.proofs.CallsFits.{opens-fits, returns-fits}

module _ (item raw on_birth on_death credit each : ℕ) (small : on_birth + on_death ≤ raw + credit) where
  -- ---- the coroutines

  put-weigh : (cs : List Coroutine) (n : ℕ) (new old : Coroutine) → slice_get cs n ≡ Some old → coroutines_weigh item raw on_birth on_death credit each (slice_set cs n new) + condition_weighs item raw on_birth on_death credit each old.condition ≡ coroutines_weigh item raw on_birth on_death credit each cs + condition_weighs item raw on_birth on_death credit each new.condition
  put-weigh [] n new old e = absurd (none-some old e)
  put-weigh (c ∷ cs) zero new old e = let same_old = ap (option_weighs item raw on_birth on_death credit each) e in omega (arith, same_old)
  put-weigh (c ∷ cs) (suc n) new old e = let rest = put-weigh cs n new old e in omega (arith, rest)

  coroutines-join : (cs ds : List Coroutine) → coroutines_weigh item raw on_birth on_death credit each (cs ++ ds) ≡ coroutines_weigh item raw on_birth on_death credit each cs + coroutines_weigh item raw on_birth on_death credit each ds
  coroutines-join [] ds = omega arith
  coroutines-join (c ∷ cs) ds = let rest = coroutines-join cs ds in omega (arith, rest)

  -- the state of a coroutine is changed
  with-weigh : (n : ℕ) (new old : Coroutine) (l : Local) → numbered (coroutines l) n ≡ Some old → (frames_weigh item raw on_birth on_death credit each (with_coroutine n new l).top.frames ≡ frames_weigh item raw on_birth on_death credit each l.top.frames) × (credits item raw on_birth on_death credit each (with_coroutine n new l).seen ≡ credits item raw on_birth on_death credit each l.seen) × (rest_weighs item raw on_birth on_death credit each (with_coroutine n new l) + condition_weighs item raw on_birth on_death credit each old.condition ≡ rest_weighs item raw on_birth on_death credit each l + condition_weighs item raw on_birth on_death credit each new.condition)
  with-weigh zero new old l e = absurd (none-some old e)
  with-weigh (suc n) new old l e = (refl, refl, let put = put-weigh (coroutines l) n new old e in omega (arith, put))

  conditioned-weigh : (n : ℕ) (now : Condition) (l : Local) (o : Option Coroutine) → numbered (coroutines l) n ≡ o → (frames_weigh item raw on_birth on_death credit each (conditioned n now l o).top.frames ≡ frames_weigh item raw on_birth on_death credit each l.top.frames) × (credits item raw on_birth on_death credit each (conditioned n now l o).seen ≡ credits item raw on_birth on_death credit each l.seen) × (rest_weighs item raw on_birth on_death credit each (conditioned n now l o) + option_weighs item raw on_birth on_death credit each o ≤ rest_weighs item raw on_birth on_death credit each l + condition_weighs item raw on_birth on_death credit each now)
  conditioned-weigh n now l None e = (refl, refl, omega arith)
  conditioned-weigh n now l (Some c) e = let both = with-weigh n (record c { condition = now }) c l e in (both.0, both.1, let third = both.2 in omega (arith, third))

  set-weigh : (n : ℕ) (now : Condition) (l : Local) → (frames_weigh item raw on_birth on_death credit each (set_condition n now l).top.frames ≡ frames_weigh item raw on_birth on_death credit each l.top.frames) × (credits item raw on_birth on_death credit each (set_condition n now l).seen ≡ credits item raw on_birth on_death credit each l.seen) × (rest_weighs item raw on_birth on_death credit each (set_condition n now l) + option_weighs item raw on_birth on_death credit each (numbered (coroutines l) n) ≤ rest_weighs item raw on_birth on_death credit each l + condition_weighs item raw on_birth on_death credit each now)
  set-weigh n now l = conditioned-weigh n now l (numbered (coroutines l) n) refl

  suspended-weigh : (point serial : ℕ) (rest : Continuation) → condition_weighs item raw on_birth on_death credit each (suspended_at point serial rest) ≡ frames_weigh item raw on_birth on_death credit each rest.frames
  suspended-weigh point serial rest = go (point == 1)
    where
      go : (c : Bool) → condition_weighs item raw on_birth on_death credit each (if c then Final point serial rest else Suspended point serial rest) ≡ frames_weigh item raw on_birth on_death credit each rest.frames
      go true = refl
      go false = refl

  border-weigh : (c : Bool) → frames_weigh item raw on_birth on_death credit each (border c) ≡ 0
  border-weigh true = refl
  border-weigh false = refl

  promised-weigh : (n y : ℕ) (l : Local) (o : Option Coroutine) → numbered (coroutines l) n ≡ o → (local_weighs item raw on_birth on_death credit each (promised n y l o) ≡ local_weighs item raw on_birth on_death credit each l) × (credits item raw on_birth on_death credit each (promised n y l o).seen ≡ credits item raw on_birth on_death credit each l.seen)
  promised-weigh n y l None e = (refl, refl)
  promised-weigh n y l (Some c) e = let both = with-weigh n (record c { promise = Some y }) c l e in (let one = both.0 in let two = both.2 in omega (arith, one, two), both.1)

  promised_by-weigh : (y : ℕ) (l : Local) (o : Option ℕ) → (local_weighs item raw on_birth on_death credit each (promised_by y l o) ≡ local_weighs item raw on_birth on_death credit each l) × (credits item raw on_birth on_death credit each (promised_by y l o).seen ≡ credits item raw on_birth on_death credit each l.seen)
  promised_by-weigh y l None = (refl, refl)
  promised_by-weigh y l (Some n) = promised-weigh n y l (numbered (coroutines l) n) refl

  reached-weigh : (fs : List Frame) → frames_weigh item raw on_birth on_death credit each (reached fs) ≡ frames_weigh item raw on_birth on_death credit each fs
  reached-weigh [] = refl
  reached-weigh (Guards resumed ∷ fs) = refl
  reached-weigh (f ∷ fs) = let rest = reached-weigh fs in omega (arith, rest)

  reached_at-weigh : (n : ℕ) (l : Local) → (local_weighs item raw on_birth on_death credit each (reached_at n l) ≡ local_weighs item raw on_birth on_death credit each l) × (credits item raw on_birth on_death credit each (reached_at n l).seen ≡ credits item raw on_birth on_death credit each l.seen)
  reached_at-weigh zero l = (let rest = reached-weigh l.top.frames in omega (arith, rest), refl)
  reached_at-weigh (suc n) l = (refl, refl)

  -- ---- coroutines that go on

  abbrev IfWoken : ℕ → Option (Activation × Local) → Type 0
  IfWoken m None = Unit {0}
  IfWoken m (Some woken) = frames_weigh item raw on_birth on_death credit each woken.0.frames + local_weighs item raw on_birth on_death credit each woken.1 + each ≤ m + credits item raw on_birth on_death credit each woken.1.seen

  resumed_by-fits : (limit n : ℕ) (c : Coroutine) (now : Condition) (l : Local) → numbered (coroutines l) n ≡ Some c → c.condition ≡ now → local_weighs item raw on_birth on_death credit each l + each ≤ limit + credits item raw on_birth on_death credit each l.seen → IfWoken limit (resumed_by n c now l)
  resumed_by-fits limit n c (Suspended point serial rest) l e f known =
      let set = set-weigh n (Running serial) l in
      let frames = set.0 in
      let worth = set.1 in
      let changed = set.2 in
      let found = ap (option_weighs item raw on_birth on_death credit each) e in
      let held = ap (condition_weighs item raw on_birth on_death credit each) f in
      omega (arith, known, frames, worth, changed, found, held)
  resumed_by-fits limit n c now l e f known = tt

  resumed-fits : (limit n : ℕ) (l : Local) (o : Option Coroutine) → numbered (coroutines l) n ≡ o → local_weighs item raw on_birth on_death credit each l + each ≤ limit + credits item raw on_birth on_death credit each l.seen → IfWoken limit (resumed n l o)
  resumed-fits limit n l None e known = tt
  resumed-fits limit n l (Some c) e known = resumed_by-fits limit n c c.condition l e refl known

  wakes-fits : (limit n : ℕ) (l : Local) → local_weighs item raw on_birth on_death credit each l + each ≤ limit + credits item raw on_birth on_death credit each l.seen → IfWoken limit (wakes n l)
  wakes-fits limit n l known = resumed-fits limit n l (numbered (coroutines l) n) refl known

  pub take_block-fits : (limit : ℕ) (y0 : ℕ) (y1 : Local) → local_weighs item raw on_birth on_death credit each y1 + each ≤ limit + credits item raw on_birth on_death credit each y1.seen → Fits item raw on_birth on_death credit each limit (take_block y0 y1)
  take_block-fits limit words l known = (gives-fits item raw on_birth on_death credit each small limit (Scalar (value.Block (next_block (store l)))) (with_store (add_block words (store l)) l) (omega (arith, known)))

  pub release_value-fits : (limit : ℕ) (y0 : Value) (y1 : Outcome) (y2 : Span) (y3 : Local) → local_weighs item raw on_birth on_death credit each y3 + each ≤ limit + credits item raw on_birth on_death credit each y3.seen → Fits item raw on_birth on_death credit each limit (release_value y0 y1 y2 y3)
  release_value-fits limit (value.Block b) outcome at l known = (goes-fits item raw on_birth on_death credit each small limit (Comes outcome) (with_store (release b (store l)) l) (let f0 = same item raw on_birth on_death credit each small (release b (store l)) (store l) (release-count b (store l)) in omega (arith, known, f0)))
  release_value-fits limit v outcome at l known = tt

  pub releases-fits : (limit : ℕ) (y0 : ℕ) (y1 : ℕ) (y2 : GivePlan) (y3 : Outcome) (y4 : Span) (y5 : Local) → local_weighs item raw on_birth on_death credit each y5 + each ≤ limit + credits item raw on_birth on_death credit each y5.seen → Fits item raw on_birth on_death credit each limit (releases y0 y1 y2 y3 y4 y5)
  releases-fits limit b words give.Global outcome at l known = (unless-fits item raw on_birth on_death credit each small limit (record { kind = U11; holds = is_no_block (store l) (coroutines l) (value.Block b) } ∷ []) at l (release_value (value.Block b) outcome at l) (omega (arith, known)) (release_value-fits limit (value.Block b) outcome at l (omega (arith, known))))
  releases-fits limit b words (give.Own f) outcome at l known = (under-fits item raw on_birth on_death credit each small limit (call_with f (Scalar (value.Block b) ∷ []) None at) (Comes Passes) (pushed Drops (pushed (Ends [] outcome) l)) (omega (arith, known)))
  releases-fits limit b words (give.OwnSized f) outcome at l known = (under-fits item raw on_birth on_death credit each small limit (call_with f (size_given (8 * words) ∷ Scalar (value.Block b) ∷ []) None at) (Comes Passes) (pushed Drops (pushed (Ends [] outcome) l)) (omega (arith, known)))

  pub takes_frame-fits : (limit : ℕ) (y0 : TakePlan) (y1 : List Init) (y2 : Local) → local_weighs item raw on_birth on_death credit each y2 + each ≤ limit + credits item raw on_birth on_death credit each y2.seen → Fits item raw on_birth on_death credit each limit (takes_frame y0 y1 y2)
  takes_frame-fits limit take_plan.Global rest l known = (take_block-fits limit (frame_bytes l / 8) l (omega (arith, known)))
  takes_frame-fits limit (take_plan.Own f) rest l known = (under-fits item raw on_birth on_death credit each small limit (Calling (take_call f [] l)) (Comes Passes) l (omega (arith, known)))
  takes_frame-fits limit (take_plan.OwnWith f) rest l known = (opens-fits item raw on_birth on_death credit each small limit (call_acts l (take_call f rest l)) (Calling (take_call f rest l) ∷ []) (Comes Passes) l (omega (arith, known)))

  pub ramp_takes-fits : (limit : ℕ) (y0 : Local) (y1 : Option PromisePlan) → local_weighs item raw on_birth on_death credit each y0 + each ≤ limit + credits item raw on_birth on_death credit each y0.seen → Fits item raw on_birth on_death credit each limit (ramp_takes y0 y1)
  ramp_takes-fits limit l None known = tt
  ramp_takes-fits limit l (Some plan) known = (takes_frame-fits limit plan.take plan.take_args (pushed RampTaken l) (omega (arith, known)))

  pub ramp_take-fits : (limit : ℕ) (y0 : Local) → local_weighs item raw on_birth on_death credit each y0 + each ≤ limit + credits item raw on_birth on_death credit each y0.seen → Fits item raw on_birth on_death credit each limit (ramp_take y0)
  ramp_take-fits limit l known = (ramp_takes-fits limit l (plan_of l) (omega (arith, known)))

  pub frame_room-fits : (limit : ℕ) (y0 : Value) (y1 : Local) → local_weighs item raw on_birth on_death credit each y1 + each ≤ limit + credits item raw on_birth on_death credit each y1.seen → Fits item raw on_birth on_death credit each limit (frame_room y0 y1)
  frame_room-fits limit (value.Block b) l known = (goes-fits item raw on_birth on_death credit each small limit (Draws b) l (omega (arith, known)))
  frame_room-fits limit v l known = tt

  pub without_storage-fits : (limit : ℕ) (y0 : Option FuncId) (y1 : Value) (y2 : Local) → local_weighs item raw on_birth on_death credit each y2 + each ≤ limit + credits item raw on_birth on_death credit each y2.seen → Fits item raw on_birth on_death credit each limit (without_storage y0 y1 y2)
  without_storage-fits limit (Some f) value.Null l known = (under-fits item raw on_birth on_death credit each small limit (call_with f [] l.top.into (func_span l)) (Comes Passes) (pushed NullDone l) (omega (arith, known)))
  without_storage-fits limit on_null v l known = (unless-fits item raw on_birth on_death credit each small limit (record { kind = U10; holds = is_no_room (store l) (coroutines l) (frame_bytes l / 8) v } ∷ []) (func_span l) l (frame_room v l) (omega (arith, known)) (frame_room-fits limit v l (omega (arith, known))))

  pub ramp_taken_by-fits : (limit : ℕ) (y0 : Value) (y1 : Local) (y2 : Option PromisePlan) → local_weighs item raw on_birth on_death credit each y1 + each ≤ limit + credits item raw on_birth on_death credit each y1.seen → Fits item raw on_birth on_death credit each limit (ramp_taken_by y0 y1 y2)
  ramp_taken_by-fits limit v l None known = tt
  ramp_taken_by-fits limit v l (Some plan) known = (without_storage-fits limit plan.on_null v l (omega (arith, known)))

  pub ramp_taken-fits : (limit : ℕ) (y0 : Value) (y1 : Local) → local_weighs item raw on_birth on_death credit each y1 + each ≤ limit + credits item raw on_birth on_death credit each y1.seen → Fits item raw on_birth on_death credit each limit (ramp_taken y0 y1)
  ramp_taken-fits limit v l known = (ramp_taken_by-fits limit v l (plan_of l) (omega (arith, known)))

  pub draws-fits : (limit : ℕ) (b : ℕ) (l : Local) → local_weighs item raw on_birth on_death credit each l + each ≤ limit + credits item raw on_birth on_death credit each l.seen → Fits item raw on_birth on_death credit each limit (draws b l)
  draws-fits limit b l known =
      goes-fits item raw on_birth on_death credit each small limit (IsMade (suc (length (coroutines l)))) (with_new_coroutine (suc (length (coroutines l))) b l)
      (let joined = coroutines-join (coroutines l) (new_coroutine b l ∷ []) in
      let kept = same item raw on_birth on_death credit each small (set_standing b (standing.Frame (suc (length (coroutines l)))) (store l)) (store l) (set_standing-count b (standing.Frame (suc (length (coroutines l)))) (store l)) in
      omega (arith, known, joined, kept))

  pub is_made-fits : (limit : ℕ) (y0 : ℕ) (y1 : Local) → local_weighs item raw on_birth on_death credit each y1 + each ≤ limit + credits item raw on_birth on_death credit each y1.seen → Fits item raw on_birth on_death credit each limit (is_made y0 y1)
  is_made-fits limit n l known = (under-fits item raw on_birth on_death credit each small limit (RampCopies (copies_in (plan_of l))) (Comes Passes) (pushed (Holds (hold_of n l)) (happens (event.Made n) l)) (let f0 = events-add item raw on_birth on_death credit each small l.seen (event.Made n) in let f1 = credits-add item raw on_birth on_death credit each small l.seen (event.Made n) in omega (arith, known, f0, f1)))

  pub ramp_copy_of-fits : (limit : ℕ) (y0 : CopyPlan) (y1 : List CopyPlan) (y2 : Local) (y3 : Option CoType) → local_weighs item raw on_birth on_death credit each y2 + each ≤ limit + credits item raw on_birth on_death credit each y2.seen → Fits item raw on_birth on_death credit each limit (ramp_copy_of y0 y1 y2 y3)
  ramp_copy_of-fits limit copy rest l None known = tt
  ramp_copy_of-fits limit copy rest l (Some of) known = (opens-fits item raw on_birth on_death credit each small limit (init_acts_here (pushed (RampCopies rest) (with_raw copy.to.0 of (counted_in l of) l)) copy.init) (RampMade (record { object = (next_object (store l)); coroutine = counted_in l of }) ∷ []) (Initialize copy.init (Some (whole (next_object (store l))))) (pushed (RampCopies rest) (with_raw copy.to.0 of (counted_in l of) l)) (let f0 = fresh item raw on_birth on_death credit each small (raw_object (classes l) of None (counted_in l of)) (store l) in omega (arith, known, f0)))

  pub construct_promise-fits : (limit : ℕ) (y0 : PromisePlan) (y1 : Alive) (y2 : Local) (y3 : Option FuncId) → weighs item raw on_birth on_death credit each y1.object raw + (local_weighs item raw on_birth on_death credit each y2) + each ≤ limit + credits item raw on_birth on_death credit each y2.seen → Fits item raw on_birth on_death credit each limit (construct_promise y0 y1 y2 y3)
  construct_promise-fits limit plan x l None known = (under-fits item raw on_birth on_death credit each small limit (RampMade x) (Comes Passes) (with_store (set_part (classes l) (whole x.object) cell.Indeterminate (store l)) l) (let f0 = same item raw on_birth on_death credit each small (set_part (classes l) (whole x.object) cell.Indeterminate (store l)) (store l) (set_part-count (classes l) (whole x.object) cell.Indeterminate (store l)) in omega (arith, known, f0)))
  construct_promise-fits limit plan x l (Some f) known = (opens-fits item raw on_birth on_death credit each small limit (call_acts l (ctor_call f plan.with_params plan.ctor_args x.object l)) (Calling (ctor_call f plan.with_params plan.ctor_args x.object l) ∷ Drops ∷ RampMade x ∷ []) (Comes Passes) l (omega (arith, known)))

  pub make_promise_in-fits : (limit : ℕ) (y0 : PromisePlan) (y1 : ℕ) (y2 : Local) (y3 : Option CoType) → local_weighs item raw on_birth on_death credit each y2 + each ≤ limit + credits item raw on_birth on_death credit each y2.seen → Fits item raw on_birth on_death credit each limit (make_promise_in y0 y1 y2 y3)
  make_promise_in-fits limit plan slot l None known = tt
  make_promise_in-fits limit plan slot l (Some of) known = (construct_promise-fits limit plan (record { object = (next_object (store l)); coroutine = counted_in l of }) (pushed RampResult (promised_by (next_object (store l)) (with_raw slot of (counted_in l of) l) l.top.coroutine)) plan.ctor (let f0 = fresh item raw on_birth on_death credit each small (raw_object (classes l) of None (counted_in l of)) (store l) in let f1 = (promised_by-weigh (next_object (store l)) (with_raw slot of (counted_in l of) l) l.top.coroutine).0 in let f2 = (promised_by-weigh (next_object (store l)) (with_raw slot of (counted_in l of) l) l.top.coroutine).1 in omega (arith, known, f0, f1, f2)))

  pub make_promise_at-fits : (limit : ℕ) (y0 : Local) (y1 : Option PromisePlan) (y2 : Option ℕ) → local_weighs item raw on_birth on_death credit each y0 + each ≤ limit + credits item raw on_birth on_death credit each y0.seen → Fits item raw on_birth on_death credit each limit (make_promise_at y0 y1 y2)
  make_promise_at-fits limit l (Some plan) (Some slot) known = (make_promise_in-fits limit plan slot l (type_of_slot l slot) (omega (arith, known)))
  make_promise_at-fits limit l plan slot known = tt

  pub ramp_copies-fits : (limit : ℕ) (y0 : List CopyPlan) (y1 : Local) → local_weighs item raw on_birth on_death credit each y1 + each ≤ limit + credits item raw on_birth on_death credit each y1.seen → Fits item raw on_birth on_death credit each limit (ramp_copies y0 y1)
  ramp_copies-fits limit (copy ∷ rest) l known = (ramp_copy_of-fits limit copy rest l (type_of_slot l copy.to.0) (omega (arith, known)))
  ramp_copies-fits limit [] l known = (make_promise_at-fits limit l (plan_of l) (promise_in (func_of l)) (omega (arith, known)))

  pub ramp_made-fits : (limit : ℕ) (y0 : Alive) (y1 : Local) → weighs item raw on_birth on_death credit each y0.object raw + (local_weighs item raw on_birth on_death credit each y1) + each ≤ limit + credits item raw on_birth on_death credit each y1.seen → Fits item raw on_birth on_death credit each limit (ramp_made y0 y1)
  ramp_made-fits limit x l known = (lives-fits item raw on_birth on_death credit each small limit x InHold Passes l (omega (arith, known)))

  pub ramp_result_by-fits : (limit : ℕ) (y0 : Local) (y1 : Option PromisePlan) → local_weighs item raw on_birth on_death credit each y0 + each ≤ limit + credits item raw on_birth on_death credit each y0.seen → Fits item raw on_birth on_death credit each limit (ramp_result_by y0 y1)
  ramp_result_by-fits limit l None known = tt
  ramp_result_by-fits limit l (Some plan) known = (under-fits item raw on_birth on_death credit each small limit (promise_call plan.result l.top.into l) (Comes Passes) (pushed RampBody l) (omega (arith, known)))

  pub ramp_result-fits : (limit : ℕ) (y0 : Local) → local_weighs item raw on_birth on_death credit each y0 + each ≤ limit + credits item raw on_birth on_death credit each y0.seen → Fits item raw on_birth on_death credit each limit (ramp_result y0)
  ramp_result-fits limit l known = (ramp_result_by-fits limit l (plan_of l) (omega (arith, known)))

  pub body_begins-fits : (limit : ℕ) (y0 : PromisePlan) (y1 : Hold) (y2 : Local) → alive_weigh item raw on_birth on_death credit each y1.alive + (local_weighs item raw on_birth on_death credit each y2) + each ≤ limit + credits item raw on_birth on_death credit each y2.seen → Fits item raw on_birth on_death credit each limit (body_begins y0 y1 y2)
  body_begins-fits limit plan hold l known = (let body : Activation = record { kind = OfBody; func = l.top.func; slots = l.top.slots; coroutine = l.top.coroutine; into = None; frames = body_frames plan.initial hold l } in (opens-fits item raw on_birth on_death credit each small limit (await_acts l plan.initial) [] (Awaits plan.initial None) (record (pushed RampDone l) { top = body; below = (pushed RampDone l).top ∷ (pushed RampDone l).below }) (let f0 = border-weigh (is_noexcept_in (func_of l)) in omega (arith, known, f0))))

  pub ramp_body_by-fits : (limit : ℕ) (y0 : List Frame) (y1 : Local) (y2 : Option PromisePlan) → frames_weigh item raw on_birth on_death credit each y0 + (rest_weighs item raw on_birth on_death credit each y1) + each ≤ limit + credits item raw on_birth on_death credit each y1.seen → Fits item raw on_birth on_death credit each limit (ramp_body_by y0 y1 y2)
  ramp_body_by-fits limit (Holds hold ∷ fs) l (Some plan) known = (body_begins-fits limit plan hold (with_frames fs l) (omega (arith, known)))
  ramp_body_by-fits limit fs l plan known = tt

  pub ramp_body-fits : (limit : ℕ) (y0 : Local) → local_weighs item raw on_birth on_death credit each y0 + each ≤ limit + credits item raw on_birth on_death credit each y0.seen → Fits item raw on_birth on_death credit each limit (ramp_body y0)
  ramp_body-fits limit l known = (ramp_body_by-fits limit l.top.frames l (plan_of l) (omega (arith, known)))

  pub start_in-fits : (limit : ℕ) (y0 : Local) (y1 : Option CoreFunc) → local_weighs item raw on_birth on_death credit each y0 + each ≤ limit + credits item raw on_birth on_death credit each y0.seen → Fits item raw on_birth on_death credit each limit (start_in y0 y1)
  start_in-fits limit l None known = tt
  start_in-fits limit l (Some func) known = (goes-fits item raw on_birth on_death credit each small limit (Execute func.body) l (omega (arith, known)))

  pub started-fits : (limit : ℕ) (y0 : Local) → local_weighs item raw on_birth on_death credit each y0 + each ≤ limit + credits item raw on_birth on_death credit each y0.seen → Fits item raw on_birth on_death credit each limit (started y0)
  started-fits limit l known = (start_in-fits limit l (func_of l) (omega (arith, known)))

  pub final_by-fits : (limit : ℕ) (y0 : Local) (y1 : Option PromisePlan) → local_weighs item raw on_birth on_death credit each y0 + each ≤ limit + credits item raw on_birth on_death credit each y0.seen → Fits item raw on_birth on_death credit each limit (final_by y0 y1)
  final_by-fits limit l None known = tt
  final_by-fits limit l (Some plan) known = (opens-fits item raw on_birth on_death credit each small limit (await_acts l plan.last) [] (Awaits plan.last None) (pushed Drops l) (omega (arith, known)))

  pub final_await-fits : (limit : ℕ) (y0 : Local) → local_weighs item raw on_birth on_death credit each y0 + each ≤ limit + credits item raw on_birth on_death credit each y0.seen → Fits item raw on_birth on_death credit each limit (final_await y0)
  final_await-fits limit l known = (final_by-fits limit l (plan_of l) (omega (arith, known)))

  pub handled_by-fits : (limit : ℕ) (y0 : Thrown) (y1 : Local) (y2 : Option PromisePlan) → local_weighs item raw on_birth on_death credit each y1 + each ≤ limit + credits item raw on_birth on_death credit each y1.seen → Fits item raw on_birth on_death credit each limit (handled_by y0 y1 y2)
  handled_by-fits limit v l None known = tt
  handled_by-fits limit v l (Some plan) known = (under-fits item raw on_birth on_death credit each small limit (promise_call plan.unhandled None (record l { handled = v ∷ l.handled })) (Comes Passes) (pushed Drops (pushed Handled (pushed Unhandled (record l { handled = v ∷ l.handled })))) (omega (arith, known)))

  pub guard_left-fits : (limit : ℕ) (y0 : Bool) (y1 : Going) (y2 : Local) → local_weighs item raw on_birth on_death credit each y2 + each ≤ limit + credits item raw on_birth on_death credit each y2.seen → Fits item raw on_birth on_death credit each limit (guard_left y0 y1 y2)
  guard_left-fits limit resumed Leaving l known = (final_await-fits limit l (omega (arith, known)))
  guard_left-fits limit true (Throwing v) l known = (handled_by-fits limit v l (plan_of l) (omega (arith, known)))
  guard_left-fits limit resumed going l known = (leaves-fits item raw on_birth on_death credit each small limit going l (omega (arith, known)))

  pub escapes-fits : (limit : ℕ) (y0 : ℕ) (y1 : Thrown) (y2 : Local) → local_weighs item raw on_birth on_death credit each y2 + each ≤ limit + credits item raw on_birth on_death credit each y2.seen → Fits item raw on_birth on_death credit each limit (escapes y0 y1 y2)
  escapes-fits limit n v l known = (let rest : Continuation = record { slots = l.top.slots; frames = l.top.frames } in (leaves-fits item raw on_birth on_death credit each small limit (Throwing v) (with_frames (border (is_noexcept_in (func_of l))) (set_condition n (Final 2 (suc (serial_now n l)) rest) l)) (let f0 = border-weigh (is_noexcept_in (func_of l)) in let f1 = (set-weigh n (Final 2 (suc (serial_now n l)) (record { slots = l.top.slots; frames = l.top.frames })) l).1 in let f2 = (set-weigh n (Final 2 (suc (serial_now n l)) (record { slots = l.top.slots; frames = l.top.frames })) l).2 in omega (arith, known, f0, f1, f2))))

  pub escapes_from-fits : (limit : ℕ) (y0 : Option ℕ) (y1 : Thrown) (y2 : Local) → local_weighs item raw on_birth on_death credit each y2 + each ≤ limit + credits item raw on_birth on_death credit each y2.seen → Fits item raw on_birth on_death credit each limit (escapes_from y0 y1 y2)
  escapes_from-fits limit None v l known = tt
  escapes_from-fits limit (Some n) v l known = (escapes-fits limit n v l (omega (arith, known)))

  pub unhandled_left-fits : (limit : ℕ) (y0 : Going) (y1 : Local) → local_weighs item raw on_birth on_death credit each y1 + each ≤ limit + credits item raw on_birth on_death credit each y1.seen → Fits item raw on_birth on_death credit each limit (unhandled_left y0 y1)
  unhandled_left-fits limit (Throwing v) l known = (escapes_from-fits limit l.top.coroutine v l (omega (arith, known)))
  unhandled_left-fits limit going l known = (leaves-fits item raw on_birth on_death credit each small limit going l (omega (arith, known)))

  pub hold_left-fits : (limit : ℕ) (y0 : Hold) (y1 : Outcome) (y2 : Local) → alive_weigh item raw on_birth on_death credit each y0.alive + (local_weighs item raw on_birth on_death credit each y2) + each ≤ limit + credits item raw on_birth on_death credit each y2.seen → Fits item raw on_birth on_death credit each limit (hold_left y0 y1 y2)
  hold_left-fits limit hold outcome l known = (ends-fits item raw on_birth on_death credit each small limit (endings hold.alive) Passes (pushed (Closes hold.coroutine hold.block outcome) l) (let f0 = endings-weigh item raw on_birth on_death credit each small hold.alive in omega (arith, known, f0)))

  pub closes-fits : (limit : ℕ) (y0 : ℕ) (y1 : ℕ) (y2 : Outcome) (y3 : Local) → local_weighs item raw on_birth on_death credit each y3 + each ≤ limit + credits item raw on_birth on_death credit each y3.seen → Fits item raw on_birth on_death credit each limit (closes y0 y1 y2 y3)
  closes-fits limit n b outcome l known = (goes-fits item raw on_birth on_death credit each small limit (HasEnded n b outcome) (set_condition n Over (with_store (set_standing b standing.Nothing (store l)) l)) (let f0 = same item raw on_birth on_death credit each small (set_standing b standing.Nothing (store l)) (store l) (set_standing-count b standing.Nothing (store l)) in let f1 = (set-weigh n Over (with_store (set_standing b standing.Nothing (store l)) l)).0 in let f2 = (set-weigh n Over (with_store (set_standing b standing.Nothing (store l)) l)).1 in let f3 = (set-weigh n Over (with_store (set_standing b standing.Nothing (store l)) l)).2 in omega (arith, known, f0, f1, f2, f3)))

  pub release_frame-fits : (limit : ℕ) (y0 : ℕ) (y1 : Outcome) (y2 : Local) (y3 : Option PromisePlan) → local_weighs item raw on_birth on_death credit each y2 ≤ limit + credits item raw on_birth on_death credit each y2.seen → Fits item raw on_birth on_death credit each limit (release_frame y0 y1 y2 y3)
  release_frame-fits limit b outcome l None known = tt
  release_frame-fits limit b outcome l (Some plan) known = (goes-fits item raw on_birth on_death credit each small limit (Releases b (frame_bytes l / 8) plan.give outcome (func_span l)) l (omega (arith, known)))

  pub has_ended-fits : (limit : ℕ) (y0 : ℕ) (y1 : ℕ) (y2 : Outcome) (y3 : Local) → local_weighs item raw on_birth on_death credit each y3 + each ≤ limit + credits item raw on_birth on_death credit each y3.seen → Fits item raw on_birth on_death credit each limit (has_ended y0 y1 y2 y3)
  has_ended-fits limit n b outcome l known = (release_frame-fits limit b outcome (happens (event.Ended n) l) (plan_of l) (let f0 = events-add item raw on_birth on_death credit each small l.seen (event.Ended n) in let f1 = credits-add item raw on_birth on_death credit each small l.seen (event.Ended n) in omega (arith, known, f0, f1)))

  above-fits : (limit : ℕ) (woken : Option (Activation × Local)) → IfWoken limit woken → Fits item raw on_birth on_death credit each limit (above woken)
  above-fits limit None known = tt
  above-fits limit (Some woken) known = calls-fits item raw on_birth on_death credit each small limit (Comes Passes) woken.0 woken.1 (omega (arith, known))

  instead-fits : (limit : ℕ) (woken : Option (Activation × Local)) → IfWoken limit woken → Fits item raw on_birth on_death credit each limit (instead woken)
  instead-fits limit None known = tt
  instead-fits limit (Some woken) known = passes-fits item raw on_birth on_death credit each small limit (record woken.1 { top = woken.0 }) (omega (arith, known))

  pub resume_handle-fits : (limit : ℕ) (v : Value) (at : Span) (l : Local) → local_weighs item raw on_birth on_death credit each l + each ≤ limit + credits item raw on_birth on_death credit each l.seen → Fits item raw on_birth on_death credit each limit (resume_handle v at l)
  resume_handle-fits limit (value.Handle n) at l known = unless-fits item raw on_birth on_death credit each small limit (resume_faults n l) at l (above (wakes n l)) known (above-fits limit (wakes n l) (wakes-fits limit n l known))
  resume_handle-fits limit value.Noop at l known = gives-fits item raw on_birth on_death credit each small limit Nothing l (omega (arith, known))
  resume_handle-fits limit value.Null at l known = unless-fits item raw on_birth on_death credit each small limit null_fault at l None known tt
  resume_handle-fits limit v at l known = tt

  pub transfer-fits : (limit : ℕ) (v : Value) (at : Span) (l : Local) → local_weighs item raw on_birth on_death credit each l + each ≤ limit + credits item raw on_birth on_death credit each l.seen → Fits item raw on_birth on_death credit each limit (transfer v at l)
  transfer-fits limit (value.Handle n) at l known = unless-fits item raw on_birth on_death credit each small limit (resume_faults n l) at l (instead (wakes n l)) known (instead-fits limit (wakes n l) (wakes-fits limit n l known))
  transfer-fits limit value.Noop at l known = returns-fits item raw on_birth on_death credit each small limit Nothing l known
  transfer-fits limit value.Null at l known = unless-fits item raw on_birth on_death credit each small limit null_fault at l None known tt
  transfer-fits limit v at l known = tt

  destroying-fits : (limit n serial : ℕ) (c : Coroutine) (rest : Continuation) (l : Local) → option_weighs item raw on_birth on_death credit each (numbered (coroutines l) n) ≡ frames_weigh item raw on_birth on_death credit each rest.frames → local_weighs item raw on_birth on_death credit each l + each ≤ limit + credits item raw on_birth on_death credit each l.seen → Fits item raw on_birth on_death credit each limit (calls (Comes (Goes Destroying)) (activation_of OfDestroy n c rest) (set_condition n (Running serial) l))
  destroying-fits limit n serial c rest l e known =
      calls-fits item raw on_birth on_death credit each small limit (Comes (Goes Destroying)) (activation_of OfDestroy n c rest) (set_condition n (Running serial) l)
      (let set = set-weigh n (Running serial) l in let frames = set.0 in let worth = set.1 in let changed = set.2 in omega (arith, known, e, frames, worth, changed))

  destroyed_by-fits : (limit n : ℕ) (c : Coroutine) (now : Condition) (l : Local) → numbered (coroutines l) n ≡ Some c → c.condition ≡ now → local_weighs item raw on_birth on_death credit each l + each ≤ limit + credits item raw on_birth on_death credit each l.seen → Fits item raw on_birth on_death credit each limit (destroyed_by n c now l)
  destroyed_by-fits limit n c (Suspended point serial rest) l e f known = destroying-fits limit n serial c rest l (ap (option_weighs item raw on_birth on_death credit each) e ∙ ap (condition_weighs item raw on_birth on_death credit each) f) known
  destroyed_by-fits limit n c (Final point serial rest) l e f known = destroying-fits limit n serial c rest l (ap (option_weighs item raw on_birth on_death credit each) e ∙ ap (condition_weighs item raw on_birth on_death credit each) f) known
  destroyed_by-fits limit n c now l e f known = tt

  destroyed-fits : (limit n : ℕ) (l : Local) (o : Option Coroutine) → numbered (coroutines l) n ≡ o → local_weighs item raw on_birth on_death credit each l + each ≤ limit + credits item raw on_birth on_death credit each l.seen → Fits item raw on_birth on_death credit each limit (destroyed n l o)
  destroyed-fits limit n l None e known = tt
  destroyed-fits limit n l (Some c) e known = destroyed_by-fits limit n c c.condition l e refl known

  pub destroy_handle-fits : (limit : ℕ) (v : Value) (at : Span) (l : Local) → local_weighs item raw on_birth on_death credit each l + each ≤ limit + credits item raw on_birth on_death credit each l.seen → Fits item raw on_birth on_death credit each limit (destroy_handle v at l)
  destroy_handle-fits limit (value.Handle n) at l known = unless-fits item raw on_birth on_death credit each small limit (record { kind = U1; holds = not_suspended (coroutines l) n } ∷ []) at l (destroyed n l (numbered (coroutines l) n)) known (destroyed-fits limit n l (numbered (coroutines l) n) refl known)
  destroy_handle-fits limit value.Noop at l known = gives-fits item raw on_birth on_death credit each small limit Nothing l (omega (arith, known))
  destroy_handle-fits limit value.Null at l known = unless-fits item raw on_birth on_death credit each small limit null_fault at l None known tt
  destroy_handle-fits limit v at l known = tt

  abbrev IfLocal : ℕ → Option Local → Type 0
  IfLocal m None = Unit {0}
  IfLocal m (Some l) = local_weighs item raw on_birth on_death credit each l + each ≤ m + credits item raw on_birth on_death credit each l.seen

  held_as-fits : (limit slot : ℕ) (g : Given) (l : Local) (of : Option CoType) → local_weighs item raw on_birth on_death credit each l + each ≤ limit + credits item raw on_birth on_death credit each l.seen → IfLocal limit (held_as slot g l of)
  held_as-fits limit slot (At p) l (Some of) known = let new = fresh item raw on_birth on_death credit each small (live_object of (cell.Holds (pointer p) ∷ [])) (store l) in omega (arith, known, new)
  held_as-fits limit slot g l of known = tt

  ready_under-fits : (limit : ℕ) (plan : AwaitPlan) (into : Option Place) (l : Option Local) → IfLocal limit l → Fits item raw on_birth on_death credit each limit (ready_under plan into l)
  ready_under-fits limit plan into None known = tt
  ready_under-fits limit plan into (Some l) known = under-fits item raw on_birth on_death credit each small limit (AwaitReady plan into) (Evaluate plan.ready None) l (omega (arith, known))

  pub await_operand-fits : (limit : ℕ) (plan : AwaitPlan) (into : Option Place) (g : Given) (l : Local) → local_weighs item raw on_birth on_death credit each l + each ≤ limit + credits item raw on_birth on_death credit each l.seen → Fits item raw on_birth on_death credit each limit (await_operand plan into g l)
  await_operand-fits limit plan into g l known =
      if-fits item raw on_birth on_death credit each small limit (holder_in (func_of l) plan.holder.0) (ready_under plan into (held_as plan.holder.0 g l (type_of_slot l plan.holder.0))) (ready_under plan into (Some l))
      (ready_under-fits limit plan into (held_as plan.holder.0 g l (type_of_slot l plan.holder.0)) (held_as-fits limit plan.holder.0 g l (type_of_slot l plan.holder.0) known))
      (ready_under-fits limit plan into (Some l) known)

  pub await_resume-fits : (limit : ℕ) (y0 : AwaitPlan) (y1 : Option Place) (y2 : Local) → local_weighs item raw on_birth on_death credit each y2 + each ≤ limit + credits item raw on_birth on_death credit each y2.seen → Fits item raw on_birth on_death credit each limit (await_resume y0 y1 y2)
  await_resume-fits limit plan into l known = (goes-fits item raw on_birth on_death credit each small limit (Evaluate plan.resume into) (reached_at plan.point.0 l) (let f0 = (reached_at-weigh plan.point.0 l).0 in let f1 = (reached_at-weigh plan.point.0 l).1 in omega (arith, known, f0, f1)))

  suspend_as-fits : (limit n : ℕ) (plan : AwaitPlan) (into : Option Place) (own : List ℕ) (frames : List Frame) (outcome : Outcome) (l : Local) → frames_weigh item raw on_birth on_death credit each frames + local_weighs item raw on_birth on_death credit each l + each ≤ limit + credits item raw on_birth on_death credit each l.seen → Fits item raw on_birth on_death credit each limit (suspend_as n plan into own frames outcome l)
  suspend_as-fits limit n plan into own frames outcome l known =
      let rest : Continuation = record { slots = l.top.slots; frames = AwaitResume plan into ∷ l.top.frames } in
      let set = set-weigh n (suspended_at plan.point.0 (suc (serial_now n l)) rest) l in
      let worth = set.1 in
      let changed = set.2 in
      let held = suspended-weigh plan.point.0 (suc (serial_now n l)) rest in
      let joined = frames-join item raw on_birth on_death credit each small frames (Answers n (suc (serial_now n l)) plan.answer own plan.span ∷ []) in
      omega (arith, known, worth, changed, held, joined)

  pub suspend-fits : (limit : ℕ) (n : Option ℕ) (plan : AwaitPlan) (into : Option Place) (own : List ℕ) (frames : List Frame) (outcome : Outcome) (l : Local) → frames_weigh item raw on_birth on_death credit each frames + local_weighs item raw on_birth on_death credit each l + each ≤ limit + credits item raw on_birth on_death credit each l.seen → Fits item raw on_birth on_death credit each limit (suspend n plan into own frames outcome l)
  suspend-fits limit None plan into own frames outcome l known = tt
  suspend-fits limit (Some n) plan into own frames outcome l known = suspend_as-fits limit n plan into own frames outcome l known

  pub await_ready-fits : (limit : ℕ) (y0 : AwaitPlan) (y1 : Option Place) (y2 : Bool) (y3 : Local) → local_weighs item raw on_birth on_death credit each y3 + each ≤ limit + credits item raw on_birth on_death credit each y3.seen → Fits item raw on_birth on_death credit each limit (await_ready y0 y1 y2 y3)
  await_ready-fits limit plan into true l known = (await_resume-fits limit plan into l (omega (arith, known)))
  await_ready-fits limit plan into false l known = (if-fits item raw on_birth on_death credit each small limit (is_call plan.suspend) (under (AwaitSuspend plan into []) (Evaluate plan.suspend None) l) (suspend l.top.coroutine plan into [] [] (Gives Nothing) l) (under-fits item raw on_birth on_death credit each small limit (AwaitSuspend plan into []) (Evaluate plan.suspend None) l (omega (arith, known))) (suspend-fits limit l.top.coroutine plan into [] [] (Gives Nothing) l (omega (arith, known))))

  taking-fits : (limit n serial : ℕ) (c : Coroutine) (rest : Continuation) (outcome : Outcome) (l : Local) → option_weighs item raw on_birth on_death credit each (numbered (coroutines l) n) ≡ frames_weigh item raw on_birth on_death credit each rest.frames → local_weighs item raw on_birth on_death credit each l + each ≤ limit + credits item raw on_birth on_death credit each l.seen → Fits item raw on_birth on_death credit each limit (goes (Comes outcome) (set_condition n (Running serial) (record l { top = activation_of OfBody n c rest })))
  taking-fits limit n serial c rest outcome l e known =
      goes-fits item raw on_birth on_death credit each small limit (Comes outcome) (set_condition n (Running serial) (record l { top = activation_of OfBody n c rest }))
      (let set = set-weigh n (Running serial) (record l { top = activation_of OfBody n c rest }) in let frames = set.0 in let worth = set.1 in let changed = set.2 in omega (arith, known, e, frames, worth, changed))

  taken_by-fits : (limit n : ℕ) (c : Coroutine) (now : Condition) (outcome : Outcome) (l : Local) → numbered (coroutines l) n ≡ Some c → c.condition ≡ now → local_weighs item raw on_birth on_death credit each l + each ≤ limit + credits item raw on_birth on_death credit each l.seen → Fits item raw on_birth on_death credit each limit (taken_by n c now outcome l)
  taken_by-fits limit n c (Suspended point serial rest) outcome l e f known = taking-fits limit n serial c rest outcome l (ap (option_weighs item raw on_birth on_death credit each) e ∙ ap (condition_weighs item raw on_birth on_death credit each) f) known
  taken_by-fits limit n c (Final point serial rest) outcome l e f known = taking-fits limit n serial c rest outcome l (ap (option_weighs item raw on_birth on_death credit each) e ∙ ap (condition_weighs item raw on_birth on_death credit each) f) known
  taken_by-fits limit n c now outcome l e f known = tt

  taken_in-fits : (limit n : ℕ) (outcome : Outcome) (l : Local) (o : Option Coroutine) → numbered (coroutines l) n ≡ o → local_weighs item raw on_birth on_death credit each l + each ≤ limit + credits item raw on_birth on_death credit each l.seen → Fits item raw on_birth on_death credit each limit (taken_in n outcome l o)
  taken_in-fits limit n outcome l None e known = tt
  taken_in-fits limit n outcome l (Some c) e known = taken_by-fits limit n c c.condition outcome l e refl known

  pub take_back-fits : (limit n serial : ℕ) (outcome : Outcome) (at : Span) (l : Local) → local_weighs item raw on_birth on_death credit each l + each ≤ limit + credits item raw on_birth on_death credit each l.seen → Fits item raw on_birth on_death credit each limit (take_back n serial outcome at l)
  take_back-fits limit n serial outcome at l known = unless-fits item raw on_birth on_death credit each small limit (record { kind = U1; holds = not_taken_back (coroutines l) n serial } ∷ []) at l (taken_in n outcome l (numbered (coroutines l) n)) known (taken_in-fits limit n outcome l (numbered (coroutines l) n) refl known)

  pub answer_bool-fits : (limit : ℕ) (y0 : Bool) (y1 : ℕ) (y2 : ℕ) (y3 : Span) (y4 : Local) → local_weighs item raw on_birth on_death credit each y4 + each ≤ limit + credits item raw on_birth on_death credit each y4.seen → Fits item raw on_birth on_death credit each limit (answer_bool y0 y1 y2 y3 y4)
  answer_bool-fits limit true n serial at l known = (take_back-fits limit n serial Passes at l (omega (arith, known)))
  answer_bool-fits limit false n serial at l known = (returns-fits item raw on_birth on_death credit each small limit Nothing l (omega (arith, known)))

  pub answered-fits : (limit : ℕ) (y0 : ℕ) (y1 : ℕ) (y2 : Answer) (y3 : Given) (y4 : Span) (y5 : Local) → local_weighs item raw on_birth on_death credit each y5 + each ≤ limit + credits item raw on_birth on_death credit each y5.seen → Fits item raw on_birth on_death credit each limit (answered y0 y1 y2 y3 y4 y5)
  answered-fits limit n serial answer.Void g at l known = (returns-fits item raw on_birth on_death credit each small limit Nothing l (omega (arith, known)))
  answered-fits limit n serial answer.Bool (Scalar (value.Number k z)) at l known = (answer_bool-fits limit (is_zero z) n serial at l (omega (arith, known)))
  answered-fits limit n serial answer.Handle (Scalar v) at l known = (transfer-fits limit v at l (omega (arith, known)))
  answered-fits limit n serial a g at l known = tt

  pub answers-fits : (limit : ℕ) (y0 : ℕ) (y1 : ℕ) (y2 : Answer) (y3 : List ℕ) (y4 : Given) (y5 : Span) (y6 : Local) → local_weighs item raw on_birth on_death credit each y6 + each ≤ limit + credits item raw on_birth on_death credit each y6.seen → Fits item raw on_birth on_death credit each limit (answers y0 y1 y2 y3 y4 y5 y6)
  answers-fits limit n serial a [] g at l known = (answered-fits limit n serial a g at l (omega (arith, known)))
  answers-fits limit n serial a (x ∷ own) g at l known = (ends-fits item raw on_birth on_death credit each small limit (unseen_endings (x ∷ own)) (Gives g) (pushed (Answers n serial a [] at) l) (let f0 = unseen-weigh item raw on_birth on_death credit each small (x ∷ own) in omega (arith, known, f0)))

  pub answer_left-fits : (limit : ℕ) (y0 : ℕ) (y1 : ℕ) (y2 : Answer) (y3 : List ℕ) (y4 : Going) (y5 : Span) (y6 : Local) → local_weighs item raw on_birth on_death credit each y6 + each ≤ limit + credits item raw on_birth on_death credit each y6.seen → Fits item raw on_birth on_death credit each limit (answer_left y0 y1 y2 y3 y4 y5 y6)
  answer_left-fits limit n serial a [] going at l known = (take_back-fits limit n serial (Goes going) at l (omega (arith, known)))
  answer_left-fits limit n serial a (x ∷ own) going at l known = (ends-fits item raw on_birth on_death credit each small limit (unseen_endings (x ∷ own)) (Goes going) (pushed (Answers n serial a [] at) l) (let f0 = unseen-weigh item raw on_birth on_death credit each small (x ∷ own) in omega (arith, known, f0)))
