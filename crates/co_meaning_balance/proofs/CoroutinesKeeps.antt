-- Coroutines lose no object.
use Rattle.std.proofs.Common.{◌≡◌, ℕ, zero, suc, ◌+◌, ◌≤◌, List, [], ◌∷◌, ◌++◌, Bool, true, false, Some, None, refl, ap, ◌∙◌, arith, length, subst, sym}
use Rattle.std.proofs.lemmas.Bool.{eqb-false, eqb-true}
use Rattle.std.specs.Prelude.{◌/◌, ◌==◌, if◌then◌else◌, Option}
use Rattle.co_base.specs.declared.ids.FuncId.{FuncId}
use Rattle.co_base.specs.declared.kinds.Thrown.{Thrown}
use Rattle.co_base.specs.declared.kinds.Undef.TheVariants.{U1, U10, U11}
use Rattle.co_base.specs.declared.span.Span.{Span}
use Rattle.co_types.specs.declared.types.CoType.{CoType}
use Rattle.co_core_tree.specs.declared.exprs.AwaitPlan.{AwaitPlan}
use Rattle.co_core_tree.specs.declared.exprs.Init.{Init}
use Rattle.co_core_tree.specs.declared.kinds.Answer.{Answer}
use Rattle.co_core_tree.specs.declared.kinds.Answer.TheVariants as answer
use Rattle.co_core_tree.specs.declared.kinds.GivePlan.{GivePlan}
use Rattle.co_core_tree.specs.declared.kinds.GivePlan.TheVariants as give
use Rattle.co_core_tree.specs.declared.kinds.TakePlan.{TakePlan}
use Rattle.co_core_tree.specs.declared.kinds.TakePlan.TheVariants as take_plan
use Rattle.co_core_tree.specs.declared.units.CopyPlan.{CopyPlan}
use Rattle.co_core_tree.specs.declared.units.CoreFunc.{CoreFunc}
use Rattle.co_core_tree.specs.declared.units.PromisePlan.{PromisePlan}
use Rattle.co_meaning_data.specs.Frames.{Alive, InHold, Activation, Answers, At, AwaitResume, AwaitSuspend, Awaits, Calling, Closes, Comes, Condition, Continuation, Coroutine, Destroying, Drops, Evaluate, Final, Frame, Given, Gives, Goes, Going, HasEnded, Hold, Holds, Initialize, IsMade, Leaving, Nothing, OfBody, OfDestroy, Outcome, Over, Passes, RampCopies, RampDone, RampMade, RampResult, RampTaken, Running, Scalar, Suspended, Throwing, Doing, Kind}
use Rattle.co_meaning_data.specs.Store.{Place, next_object, set_standing, whole}
use Rattle.co_meaning_data.specs.Turn.{Local, frame_bytes, func_of, goes, happens, pushed, store, under, with_frames, with_store, leaves, passes}
use Rattle.co_meaning_data.specs.Undefined.{is_no_block, is_no_room, not_suspended, not_taken_back, numbered}
use Rattle.co_meaning_data.specs.declared.events.Event.TheVariants as event
use Rattle.co_meaning_data.specs.declared.values.Standing.TheVariants as standing
use Rattle.co_meaning_data.specs.declared.values.Value.{Value}
use Rattle.co_meaning_data.specs.declared.values.Value.TheVariants as value
use Rattle.co_meaning_calls.specs.Calls.{border, call_acts, calls}
use Rattle.co_meaning_calls.specs.Coroutines.{coroutines, set_condition, plan_of, func_span, is_noexcept_in, take_block, release_value, releases, take_call, takes_frame, ramp_takes, ramp_take, frame_room, without_storage, ramp_taken_by, ramp_taken, new_coroutine, draws, is_made, init_acts_here, ramp_copy_of, promise_in, promised_by, ctor_call, construct_promise, make_promise_in, make_promise_at, ramp_copies, ramp_made, ramp_result_by, ramp_result, await_acts, body_frames, body_begins, ramp_body_by, ramp_body, start_in, started, final_by, final_await, handled_by, guard_left, serial_now, escapes, escapes_from, unhandled_left, hold_left, closes, release_frame, has_ended, activation_of, resumed_by, resumed, above, instead, wakes, resume_faults, null_fault, resume_handle, transfer, destroyed_by, destroyed, destroy_handle, holder_in, held_as, ready_under, await_operand, reached, reached_at, await_resume, is_call, suspended_at, suspend_as, suspend, await_ready, taken_by, taken_in, take_back, is_zero, answer_bool, answered, answers, answer_left, parked}
use Rattle.co_meaning_calls.specs.Objects.{counted_in, endings, type_of_slot, with_raw}
use Rattle.co_meaning_balance.proofs.Alive.{bare, births-add, deaths-add, ended-add, endings-alive, foreign, frames-none, reaches-alive}
use Rattle.co_meaning_balance.proofs.CallsKeeps.{as-before, opens-keeps, returns-keeps}
use Rattle.co_meaning_balance.proofs.CoroutinesOrder.{numbered-strays, with_list}
use Rattle.co_meaning_balance.proofs.Frames.{reaches}
use Rattle.co_meaning_balance.proofs.Numbered.{Moved, Same, apart-more, apart-other, draw, found, here-more, lacking, more-among, promised_by-same, set-moved, taken}
use Rattle.co_meaning_balance.proofs.ObjectsKeeps.{ends-keeps, if-keeps, lives-keeps, unless-keeps, unseen_ends-keeps}
use Rattle.co_meaning_balance.specs.Order.{condition_strays, coroutines_stray, frames_hold, frames_inner, frames_stray, is_other, needs, one_more, open_strays}
use Rattle.co_meaning_balance.specs.Places.{Keeps, Kept, RestKept, activations_hold, condition_alive, condition_holds, coroutine_alive, coroutine_tokens, frames_alive, objects_alive, present}

module _ (number item limit owed : ℕ) where
  pub take_block-keeps : (words : ℕ) (l : Local) → Kept number item limit owed l → Keeps number item limit owed (take_block words l)
  take_block-keeps words l known = known

  pub release_value-keeps : (v : Value) (outcome : Outcome) (at : Span) (l : Local) → Kept number item limit owed l → Keeps number item limit owed (release_value v outcome at l)
  release_value-keeps (value.Block b) outcome at l known = known
  release_value-keeps v outcome at l known = tt

  pub releases-keeps : (b : ℕ) (words : ℕ) (g : GivePlan) (outcome : Outcome) (at : Span) (l : Local) → Kept number item limit owed l → Keeps number item limit owed (releases b words g outcome at l)
  releases-keeps b words give.Global outcome at l known = unless-keeps number item limit owed (record { kind = U11; holds = is_no_block (store l) (coroutines l) (value.Block b) } ∷ []) at l (release_value (value.Block b) outcome at l) known (release_value-keeps (value.Block b) outcome at l known)
  releases-keeps b words (give.Own f) outcome at l known = (known.0, known.1, let enough = known.2 in omega (arith, enough))
  releases-keeps b words (give.OwnSized f) outcome at l known = (known.0, known.1, let enough = known.2 in omega (arith, enough))

  takes_frame-keeps : (plan : TakePlan) (rest : List Init) (l : Local) → Kept number item limit owed l → Keeps number item limit owed (takes_frame plan rest l)
  takes_frame-keeps take_plan.Global rest l known = take_block-keeps (frame_bytes l / 8) l known
  takes_frame-keeps (take_plan.Own f) rest l known = known
  takes_frame-keeps (take_plan.OwnWith f) rest l known = opens-keeps number item limit owed (call_acts l (take_call f rest l)) (Calling (take_call f rest l) ∷ []) (Comes Passes) l known

  ramp_takes-keeps : (l : Local) (o : Option PromisePlan) → Kept number item limit owed l → Keeps number item limit owed (ramp_takes l o)
  ramp_takes-keeps l None known = tt
  ramp_takes-keeps l (Some plan) known = takes_frame-keeps plan.take plan.take_args (pushed RampTaken l) known

  pub ramp_take-keeps : (l : Local) → Kept number item limit owed l → Keeps number item limit owed (ramp_take l)
  ramp_take-keeps l known = ramp_takes-keeps l (plan_of l) known

  frame_room-keeps : (v : Value) (l : Local) → Kept number item limit owed l → Keeps number item limit owed (frame_room v l)
  frame_room-keeps (value.Block b) l known = known
  frame_room-keeps v l known = tt

  without_storage-keeps : (on_null : Option FuncId) (v : Value) (l : Local) → Kept number item limit owed l → Keeps number item limit owed (without_storage on_null v l)
  without_storage-keeps (Some f) value.Null l known = known
  without_storage-keeps on_null v l known = unless-keeps number item limit owed (record { kind = U10; holds = is_no_room (store l) (coroutines l) (frame_bytes l / 8) v } ∷ []) (func_span l) l (frame_room v l) known (frame_room-keeps v l known)

  ramp_taken_by-keeps : (v : Value) (l : Local) (o : Option PromisePlan) → Kept number item limit owed l → Keeps number item limit owed (ramp_taken_by v l o)
  ramp_taken_by-keeps v l None known = tt
  ramp_taken_by-keeps v l (Some plan) known = without_storage-keeps plan.on_null v l known

  pub ramp_taken-keeps : (v : Value) (l : Local) → Kept number item limit owed l → Keeps number item limit owed (ramp_taken v l)
  ramp_taken-keeps v l known = ramp_taken_by-keeps v l (plan_of l) known

  -- the frames of the newest activation hold and keep nothing
  rest-kept : (l : Local) → frames_inner l.top.frames ≤ 0 → Kept number item limit owed l → RestKept number item limit owed l
  rest-kept l inner known =
      let none = frames-none number item l.top.frames (bare number item l.top.frames inner) in
      let once = known.1 in
      let enough = known.2 in
      (known.0, omega (arith, once), omega (arith, none, enough))

  border-none : (c : Bool) → (frames_hold (Some number) (border c) ≡ 0) × (frames_alive number item (border c) ≡ 0)
  border-none true = (refl, refl)
  border-none false = (refl, refl)

  suspended-held : (point serial : ℕ) (rest : Continuation) → (condition_holds number item (suspended_at point serial rest) ≡ frames_hold (Some number) rest.frames) × (condition_alive number item (suspended_at point serial rest) ≡ frames_alive number item rest.frames)
  suspended-held point serial rest = go (point == 1)
    where
      go : (c : Bool) → (condition_holds number item (if c then Final point serial rest else Suspended point serial rest) ≡ frames_hold (Some number) rest.frames) × (condition_alive number item (if c then Final point serial rest else Suspended point serial rest) ≡ frames_alive number item rest.frames)
      go true = (refl, refl)
      go false = (refl, refl)

  pub draws-keeps : (b : ℕ) (l : Local) → Kept number item limit owed l → Keeps number item limit owed (draws b l)
  draws-keeps b l known =
      let drawn = draw number item l.shared.coroutines (new_coroutine b l) refl in
      let tokens = drawn.0 in
      let places = drawn.1 in
      let after = coroutine_tokens number item (numbered (l.shared.coroutines ++ new_coroutine b l ∷ []) number) in
      let m = suc (length l.shared.coroutines) in
      let others = activations_hold number item (l.top ∷ l.below) in
      let swap : others + after ≡ after + others = omega arith in
      let one = ap (one_more (Some number) m) swap in
      let two = more-among number m after others in
      let once = known.1 in
      let enough = known.2 in
      (known.0, omega (arith, tokens, one, two, once), omega (arith, places, enough))

  pub is_made-keeps : (m : ℕ) (l : Local) → Keeps number item limit owed (goes (IsMade m) l) → Keeps number item limit owed (is_made m l)
  is_made-keeps m l known =
      let one = more-among number m (frames_hold (Some number) l.top.frames + activations_hold number item l.below) (coroutine_tokens number item (numbered l.shared.coroutines number)) in
      let two = more-among number m (frames_hold (Some number) l.top.frames) (activations_hold number item l.below) in
      let born = births-add number item l.seen (event.Made m ∷ []) in
      let died = deaths-add number item l.seen (event.Made m ∷ []) in
      let over = ended-add number item l.seen (event.Made m ∷ []) in
      let once = known.1 in
      let enough = known.2 in
      (known.0, omega (arith, one, two, over, once), omega (arith, born, died, enough))

  ramp_copy_of-keeps : (copy : CopyPlan) (rest : List CopyPlan) (l : Local) (o : Option CoType) → Kept number item limit owed l → Keeps number item limit owed (ramp_copy_of copy rest l o)
  ramp_copy_of-keeps copy rest l None known = tt
  ramp_copy_of-keeps copy rest l (Some of) known = opens-keeps number item limit owed (init_acts_here (pushed (RampCopies rest) (with_raw copy.to.0 of (counted_in l of) l)) copy.init) (RampMade (record { object = (next_object (store l)); coroutine = counted_in l of }) ∷ []) (Initialize copy.init (Some (whole (next_object (store l))))) (pushed (RampCopies rest) (with_raw copy.to.0 of (counted_in l of) l)) known

  construct_promise-keeps : (plan : PromisePlan) (x : Alive) (l : Local) (o : Option FuncId) → Kept number item limit owed l → Keeps number item limit owed (construct_promise plan x l o)
  construct_promise-keeps plan x l None known = known
  construct_promise-keeps plan x l (Some f) known = opens-keeps number item limit owed (call_acts l (ctor_call f plan.with_params plan.ctor_args x.object l)) (Calling (ctor_call f plan.with_params plan.ctor_args x.object l) ∷ Drops ∷ RampMade x ∷ []) (Comes Passes) l known

  pub fewer-without : (m others : ℕ) → others ≤ one_more (Some number) m others
  fewer-without m others = go (number == m)
    where
      go : (b : Bool) → others ≤ (if b then suc others else others)
      go true = omega arith
      go false = omega arith

  promise_made-keeps : (plan : PromisePlan) (y : Alive) (l k : Local) → Same number item l k → Kept number item limit owed l → Keeps number item limit owed (construct_promise plan y (pushed RampResult k) plan.ctor)
  promise_made-keeps plan y l k same known =
      let tokens = same.tokens in
      let alive = same.alive in
      let once = known.1 in
      let enough = known.2 in
      subst (λ k. Keeps number item limit owed (construct_promise plan y (pushed RampResult k) plan.ctor)) (sym same.is) (construct_promise-keeps plan y (pushed RampResult (with_list same.list l)) plan.ctor (known.0, omega (arith, tokens, once), omega (arith, alive, enough)))

  make_promise_in-keeps : (plan : PromisePlan) (slot : ℕ) (l : Local) (of : Option CoType) → Kept number item limit owed l → Keeps number item limit owed (make_promise_in plan slot l of)
  make_promise_in-keeps plan slot l None known = tt
  make_promise_in-keeps plan slot l (Some of) known =
      promise_made-keeps plan (record { object = next_object (store l); coroutine = counted_in l of }) (with_raw slot of (counted_in l of) l) (promised_by (next_object (store l)) (with_raw slot of (counted_in l of) l) l.top.coroutine) (promised_by-same number item (next_object (store l)) (with_raw slot of (counted_in l of) l) l.top.coroutine) known

  make_promise_at-keeps : (l : Local) (plan : Option PromisePlan) (slot : Option ℕ) → Kept number item limit owed l → Keeps number item limit owed (make_promise_at l plan slot)
  make_promise_at-keeps l (Some plan) (Some slot) known = make_promise_in-keeps plan slot l (type_of_slot l slot) known
  make_promise_at-keeps l plan slot known = tt

  pub ramp_copies-keeps : (list : List CopyPlan) (l : Local) → Kept number item limit owed l → Keeps number item limit owed (ramp_copies list l)
  ramp_copies-keeps (copy ∷ rest) l known = ramp_copy_of-keeps copy rest l (type_of_slot l copy.to.0) known
  ramp_copies-keeps [] l known = make_promise_at-keeps l (plan_of l) (promise_in (func_of l)) known

  pub ramp_made-keeps : (x : Alive) (l : Local) → Kept number item limit owed l → Keeps number item limit owed (ramp_made x l)
  ramp_made-keeps x l known = lives-keeps number item limit owed x InHold Passes l known

  ramp_result_by-keeps : (l : Local) (o : Option PromisePlan) → Kept number item limit owed l → Keeps number item limit owed (ramp_result_by l o)
  ramp_result_by-keeps l None known = tt
  ramp_result_by-keeps l (Some plan) known = known

  pub ramp_result-keeps : (l : Local) → Kept number item limit owed l → Keeps number item limit owed (ramp_result l)
  ramp_result-keeps l known = ramp_result_by-keeps l (plan_of l) known

  body_begins-keeps : (plan : PromisePlan) (hold : Hold) (l : Local) → frames_inner l.top.frames ≤ 0 → Kept number item limit owed (pushed (Holds hold) l) → Keeps number item limit owed (body_begins plan hold l)
  body_begins-keeps plan hold l inner known =
      let body : Activation = record { kind = OfBody; func = l.top.func; slots = l.top.slots; coroutine = l.top.coroutine; into = None; frames = body_frames plan.initial hold l } in
      let outer = border-none (is_noexcept_in (func_of l)) in
      let places = outer.1 in
      let bare_below = bare number item l.top.frames inner in
      let none : frames_hold (Some number) l.top.frames ≡ 0 = omega (arith, bare_below) in
      let same : frames_hold (Some number) (border (is_noexcept_in (func_of l))) ≡ frames_hold (Some number) l.top.frames = outer.0 ∙ sym none in
      let held = ap (one_more (Some number) hold.coroutine) same in
      let alive = ap (λ h. objects_alive number item (present (one_more (Some number) hold.coroutine h)) hold.alive) same in
      let once = known.1 in
      let enough = known.2 in
      opens-keeps number item limit owed (await_acts l plan.initial) [] (Awaits plan.initial None) (record (pushed RampDone l) { top = body; below = (pushed RampDone l).top ∷ (pushed RampDone l).below })
      (known.0, omega (arith, held, none, once), omega (arith, alive, places, enough))

  ramp_body_by-keeps : (fs : List Frame) (l : Local) (plan : Option PromisePlan) → frames_stray l.top.coroutine fs ≤ 0 → Kept number item limit owed (with_frames fs l) → Keeps number item limit owed (ramp_body_by fs l plan)
  ramp_body_by-keeps (Holds hold ∷ fs) l (Some plan) order known = body_begins-keeps plan hold (with_frames fs l) (omega (arith, order)) known
  ramp_body_by-keeps fs l plan order known = tt

  pub ramp_body-keeps : (l : Local) → frames_stray l.top.coroutine l.top.frames ≤ 0 → Kept number item limit owed l → Keeps number item limit owed (ramp_body l)
  ramp_body-keeps l order known = ramp_body_by-keeps l.top.frames l (plan_of l) order known

  start_in-keeps : (l : Local) (o : Option CoreFunc) → Kept number item limit owed l → Keeps number item limit owed (start_in l o)
  start_in-keeps l None known = tt
  start_in-keeps l (Some func) known = known

  pub started-keeps : (l : Local) → Kept number item limit owed l → Keeps number item limit owed (started l)
  started-keeps l known = start_in-keeps l (func_of l) known

  final_by-keeps : (l : Local) (o : Option PromisePlan) → Kept number item limit owed l → Keeps number item limit owed (final_by l o)
  final_by-keeps l None known = tt
  final_by-keeps l (Some plan) known = opens-keeps number item limit owed (await_acts l plan.last) [] (Awaits plan.last None) (pushed Drops l) known

  pub final_await-keeps : (l : Local) → Kept number item limit owed l → Keeps number item limit owed (final_await l)
  final_await-keeps l known = final_by-keeps l (plan_of l) known

  handled_by-keeps : (v : Thrown) (l : Local) (o : Option PromisePlan) → Kept number item limit owed l → Keeps number item limit owed (handled_by v l o)
  handled_by-keeps v l None known = tt
  handled_by-keeps v l (Some plan) known = known

  pub guard_left-keeps : (resumed : Bool) (going : Going) (l : Local) → Kept number item limit owed l → Keeps number item limit owed (guard_left resumed going l)
  guard_left-keeps resumed Leaving l known = final_await-keeps l known
  guard_left-keeps true (Throwing v) l known = handled_by-keeps v l (plan_of l) known
  guard_left-keeps resumed going l known = known

  -- What a coroutine leaves of itself at a suspension: its frames, in place of which others stand that hold and keep nothing.
  leaves-frames : (m : ℕ) (now : Condition) (l k : Local) (top : Activation) → l.top.coroutine ≡ Some m → open_strays l ≤ 0 → condition_holds number item now ≡ frames_hold (Some number) l.top.frames → condition_alive number item now ≡ frames_alive number item l.top.frames → frames_hold (Some number) top.frames ≡ 0 → frames_alive number item top.frames ≡ 0
      → (moved : Moved number item m now l k) → Kept number item limit owed l → Kept number item limit owed (record (with_list moved.list l) { top = top })
  leaves-frames m now l k top e order holds alive bare_held bare_alive moved known = go (number == m) refl
    where
      go : (b : Bool) → (number == m) ≡ b → Kept number item limit owed (record (with_list moved.list l) { top = top })
      go true f =
          let same = eqb-true number m f in
          let mine = ap (λ c. needs c (frames_hold c l.top.frames)) e in
          let other = ap (λ k. frames_hold (Some k) l.top.frames) same in
          let some = lacking number item (frames_hold (Some m) l.top.frames) (omega (arith, mine, order)) in
          let small = known.0 in
          let once = known.1 in
          let enough = known.2 in
          let there = found number item (numbered l.shared.coroutines number) (omega (arith, small, once, some, other)) in
          let none = there.2 in
          let both = moved.here same there.0 there.1 in
          let tokens = both.0 in
          let places = both.1 in
          (known.0, omega (arith, once, tokens, holds, bare_held), omega (arith, enough, places, alive, bare_alive, none))
      go false f =
          let same = moved.apart (eqb-false number m f) in
          let tokens = ap (coroutine_tokens number item) same in
          let places = ap (coroutine_alive number item) same in
          let far = ap (λ c. is_other c number) e in
          let other = apart-other number item m f in
          let held = foreign number item l.top.coroutine l.top.frames (omega (arith, order)) (omega (arith, far, other)) in
          let none = frames-none number item l.top.frames held in
          let once = known.1 in
          let enough = known.2 in
          (known.0, omega (arith, once, tokens, bare_held), omega (arith, enough, places, none, bare_alive))

  escapes-keeps : (m : ℕ) (v : Thrown) (l : Local) → l.top.coroutine ≡ Some m → open_strays l ≤ 0 → Kept number item limit owed l → Keeps number item limit owed (escapes m v l)
  escapes-keeps m v l e order known =
      let rest : Continuation = record { slots = l.top.slots; frames = l.top.frames } in
      let moved = set-moved number item m (Final 2 (suc (serial_now m l)) rest) l in
      let outer = border-none (is_noexcept_in (func_of l)) in
      subst (λ k. Keeps number item limit owed (leaves (Throwing v) (with_frames (border (is_noexcept_in (func_of l))) k))) (sym moved.is)
      (leaves-frames m (Final 2 (suc (serial_now m l)) rest) l (set_condition m (Final 2 (suc (serial_now m l)) rest) l) (record l.top { frames = border (is_noexcept_in (func_of l)) }) e order refl refl outer.0 outer.1 moved known)

  escapes_from-keeps : (o : Option ℕ) (v : Thrown) (l : Local) → l.top.coroutine ≡ o → open_strays l ≤ 0 → Kept number item limit owed l → Keeps number item limit owed (escapes_from o v l)
  escapes_from-keeps None v l e order known = tt
  escapes_from-keeps (Some m) v l e order known = escapes-keeps m v l e order known

  pub unhandled_left-keeps : (going : Going) (l : Local) → open_strays l ≤ 0 → Kept number item limit owed l → Keeps number item limit owed (unhandled_left going l)
  unhandled_left-keeps (Throwing v) l order known = escapes_from-keeps l.top.coroutine v l refl order known
  unhandled_left-keeps going l order known = known

  pub hold_left-keeps : (hold : Hold) (outcome : Outcome) (l : Local) → Kept number item limit owed (pushed (Holds hold) l) → Keeps number item limit owed (hold_left hold outcome l)
  hold_left-keeps hold outcome l known =
      ends-keeps number item limit owed (endings hold.alive) Passes (pushed (Closes hold.coroutine hold.block outcome) l)
      (known.0, known.1, let same = endings-alive number item (present (one_more (Some number) hold.coroutine (frames_hold (Some number) l.top.frames))) hold.alive in let enough = known.2 in omega (arith, same, enough))

  -- a coroutine is over while nothing holds it but the frame that closes it
  closing : (m b : ℕ) (outcome : Outcome) (l k : Local) (moved : Moved number item m Over l k) → Kept number item limit owed (pushed (Closes m b outcome) l) → Keeps number item limit owed (goes (HasEnded m b outcome) (with_list moved.list l))
  closing m b outcome l k moved known = go (number == m) refl
    where
      go : (c : Bool) → (number == m) ≡ c → Keeps number item limit owed (goes (HasEnded m b outcome) (with_list moved.list l))
      go true f =
          let more = here-more number m (frames_hold (Some number) l.top.frames) f in
          let after = here-more number m (activations_hold number item (l.top ∷ l.below) + coroutine_tokens number item (numbered moved.list number)) f in
          let small = known.0 in
          let once = known.1 in
          let enough = known.2 in
          let there = found number item (numbered l.shared.coroutines number) (omega (arith, small, once, more)) in
          let none = there.2 in
          let both = moved.here (eqb-true number m f) there.0 there.1 in
          let tokens = both.0 in
          let places = both.1 in
          (known.0, omega (arith, once, more, after, tokens), omega (arith, enough, none, places))
      go false f =
          let more = apart-more number m (frames_hold (Some number) l.top.frames) f in
          let after = apart-more number m (activations_hold number item (l.top ∷ l.below) + coroutine_tokens number item (numbered moved.list number)) f in
          let same = moved.apart (eqb-false number m f) in
          let tokens = ap (coroutine_tokens number item) same in
          let places = ap (coroutine_alive number item) same in
          let once = known.1 in
          let enough = known.2 in
          (known.0, omega (arith, once, more, after, tokens), omega (arith, enough, places))

  pub closes-keeps : (m b : ℕ) (outcome : Outcome) (l : Local) → Kept number item limit owed (pushed (Closes m b outcome) l) → Keeps number item limit owed (closes m b outcome l)
  closes-keeps m b outcome l known =
      let moved = set-moved number item m Over (with_store (set_standing b standing.Nothing (store l)) l) in
      subst (λ k. Keeps number item limit owed (goes (HasEnded m b outcome) k)) (sym moved.is) (closing m b outcome (with_store (set_standing b standing.Nothing (store l)) l) (set_condition m Over (with_store (set_standing b standing.Nothing (store l)) l)) moved known)

  release_frame-keeps : (b : ℕ) (outcome : Outcome) (l : Local) (o : Option PromisePlan) → Kept number item limit owed l → Keeps number item limit owed (release_frame b outcome l o)
  release_frame-keeps b outcome l None known = tt
  release_frame-keeps b outcome l (Some plan) known = known

  pub has_ended-keeps : (m b : ℕ) (outcome : Outcome) (l : Local) → Keeps number item limit owed (goes (HasEnded m b outcome) l) → Keeps number item limit owed (has_ended m b outcome l)
  has_ended-keeps m b outcome l known =
      let born = births-add number item l.seen (event.Ended m ∷ []) in
      let died = deaths-add number item l.seen (event.Ended m ∷ []) in
      let over = ended-add number item l.seen (event.Ended m ∷ []) in
      let others = activations_hold number item (l.top ∷ l.below) + coroutine_tokens number item (numbered l.shared.coroutines number) in
      let none : 0 + others ≡ others = omega arith in
      let same = ap (one_more (Some number) m) none in
      let more = more-among number m 0 others in
      let once = known.1 in
      let enough = known.2 in
      release_frame-keeps b outcome (happens (event.Ended m) l) (plan_of l) (known.0, omega (arith, over, same, more, once), omega (arith, born, died, enough))

  -- ---- coroutines that go on

  -- a coroutine takes its frames back
  record Woken (l : Local) (woken : Activation × Local) : Type 0 where
    list : List Coroutine
    is : woken.1 ≡ with_list list l
    tokens : frames_hold (Some number) woken.0.frames + coroutine_tokens number item (numbered list number) ≤ coroutine_tokens number item (numbered l.shared.coroutines number)
    places : coroutine_alive number item (numbered l.shared.coroutines number) ≤ frames_alive number item woken.0.frames + coroutine_alive number item (numbered list number)

  abbrev IfWoken : Local → Option (Activation × Local) → Type 0
  IfWoken l None = Unit {0}
  IfWoken l (Some woken) = Woken l woken

  wakes-again : (k : Kind) (m serial : ℕ) (c : Coroutine) (rest : Continuation) (l : Local) → numbered (coroutines l) m ≡ Some c → condition_strays m c.condition ≡ frames_stray (Some m) rest.frames → condition_holds number item c.condition ≡ frames_hold (Some number) rest.frames → condition_alive number item c.condition ≡ frames_alive number item rest.frames → coroutines_stray 1 l.shared.coroutines ≤ 0 → Woken l (activation_of k m c rest, set_condition m (Running serial) l)
  wakes-again k m serial c rest l e strays holds alive order =
      let before = numbered-strays m c l.shared.coroutines e in
      let moved = set-moved number item m (Running serial) l in
      let both = taken number item m serial c rest l (set_condition m (Running serial) l) e holds alive (omega (arith, before, strays, order)) moved in
      record { list = moved.list; is = moved.is; tokens = both.0; places = both.1 }

  resumed_by-keeps : (m : ℕ) (c : Coroutine) (now : Condition) (l : Local) → numbered (coroutines l) m ≡ Some c → c.condition ≡ now → coroutines_stray 1 l.shared.coroutines ≤ 0 → IfWoken l (resumed_by m c now l)
  resumed_by-keeps m c (Suspended point serial rest) l e f order = wakes-again OfBody m serial c rest l e (ap (condition_strays m) f) (ap (condition_holds number item) f) (ap (condition_alive number item) f) order
  resumed_by-keeps m c now l e f order = tt

  resumed-keeps : (m : ℕ) (l : Local) (o : Option Coroutine) → numbered (coroutines l) m ≡ o → coroutines_stray 1 l.shared.coroutines ≤ 0 → IfWoken l (resumed m l o)
  resumed-keeps m l None e order = tt
  resumed-keeps m l (Some c) e order = resumed_by-keeps m c c.condition l e refl order

  wakes-keeps : (m : ℕ) (l : Local) → coroutines_stray 1 l.shared.coroutines ≤ 0 → IfWoken l (wakes m l)
  wakes-keeps m l order = resumed-keeps m l (numbered (coroutines l) m) refl order

  above-keeps : (l : Local) (woken : Option (Activation × Local)) → IfWoken l woken → Kept number item limit owed l → Keeps number item limit owed (above woken)
  above-keeps l None woken known = tt
  above-keeps l (Some w) woken known =
      let tokens = woken.tokens in
      let places = woken.places in
      let once = known.1 in
      let enough = known.2 in
      subst (λ k. Keeps number item limit owed (calls (Comes Passes) w.0 k)) (sym woken.is) (known.0, omega (arith, tokens, once), omega (arith, places, enough))

  instead-keeps : (l : Local) (woken : Option (Activation × Local)) → IfWoken l woken → RestKept number item limit owed l → Keeps number item limit owed (instead woken)
  instead-keeps l None woken known = tt
  instead-keeps l (Some w) woken known =
      let tokens = woken.tokens in
      let places = woken.places in
      let once = known.1 in
      let enough = known.2 in
      subst (λ k. Keeps number item limit owed (passes (record k { top = w.0 }))) (sym woken.is) (known.0, omega (arith, tokens, once), omega (arith, places, enough))

  pub resume_handle-keeps : (v : Value) (at : Span) (l : Local) → coroutines_stray 1 l.shared.coroutines ≤ 0 → Kept number item limit owed l → Keeps number item limit owed (resume_handle v at l)
  resume_handle-keeps (value.Handle m) at l order known = unless-keeps number item limit owed (resume_faults m l) at l (above (wakes m l)) known (above-keeps l (wakes m l) (wakes-keeps m l order) known)
  resume_handle-keeps value.Noop at l order known = known
  resume_handle-keeps value.Null at l order known = unless-keeps number item limit owed null_fault at l None known tt
  resume_handle-keeps v at l order known = tt

  pub transfer-keeps : (v : Value) (at : Span) (l : Local) → frames_inner l.top.frames ≤ 0 → coroutines_stray 1 l.shared.coroutines ≤ 0 → Kept number item limit owed l → Keeps number item limit owed (transfer v at l)
  transfer-keeps (value.Handle m) at l inner order known = unless-keeps number item limit owed (resume_faults m l) at l (instead (wakes m l)) known (instead-keeps l (wakes m l) (wakes-keeps m l order) (rest-kept l inner known))
  transfer-keeps value.Noop at l inner order known = returns-keeps number item limit owed Nothing l (rest-kept l inner known)
  transfer-keeps value.Null at l inner order known = unless-keeps number item limit owed null_fault at l None known tt
  transfer-keeps v at l inner order known = tt

  destroying : (m serial : ℕ) (c : Coroutine) (rest : Continuation) (l : Local) → Woken l (activation_of OfDestroy m c rest, set_condition m (Running serial) l) → Kept number item limit owed l → Keeps number item limit owed (calls (Comes (Goes Destroying)) (activation_of OfDestroy m c rest) (set_condition m (Running serial) l))
  destroying m serial c rest l woken known =
      let tokens = woken.tokens in
      let places = woken.places in
      let once = known.1 in
      let enough = known.2 in
      subst (λ k. Keeps number item limit owed (calls (Comes (Goes Destroying)) (activation_of OfDestroy m c rest) k)) (sym woken.is) (known.0, omega (arith, tokens, once), omega (arith, places, enough))

  destroyed_by-keeps : (m : ℕ) (c : Coroutine) (now : Condition) (l : Local) → numbered (coroutines l) m ≡ Some c → c.condition ≡ now → coroutines_stray 1 l.shared.coroutines ≤ 0 → Kept number item limit owed l → Keeps number item limit owed (destroyed_by m c now l)
  destroyed_by-keeps m c (Suspended point serial rest) l e f order known = destroying m serial c rest l (wakes-again OfDestroy m serial c rest l e (ap (condition_strays m) f) (ap (condition_holds number item) f) (ap (condition_alive number item) f) order) known
  destroyed_by-keeps m c (Final point serial rest) l e f order known = destroying m serial c rest l (wakes-again OfDestroy m serial c rest l e (ap (condition_strays m) f) (ap (condition_holds number item) f) (ap (condition_alive number item) f) order) known
  destroyed_by-keeps m c now l e f order known = tt

  destroyed-keeps : (m : ℕ) (l : Local) (o : Option Coroutine) → numbered (coroutines l) m ≡ o → coroutines_stray 1 l.shared.coroutines ≤ 0 → Kept number item limit owed l → Keeps number item limit owed (destroyed m l o)
  destroyed-keeps m l None e order known = tt
  destroyed-keeps m l (Some c) e order known = destroyed_by-keeps m c c.condition l e refl order known

  pub destroy_handle-keeps : (v : Value) (at : Span) (l : Local) → coroutines_stray 1 l.shared.coroutines ≤ 0 → Kept number item limit owed l → Keeps number item limit owed (destroy_handle v at l)
  destroy_handle-keeps (value.Handle m) at l order known = unless-keeps number item limit owed (record { kind = U1; holds = not_suspended (coroutines l) m } ∷ []) at l (destroyed m l (numbered (coroutines l) m)) known (destroyed-keeps m l (numbered (coroutines l) m) refl order known)
  destroy_handle-keeps value.Noop at l order known = known
  destroy_handle-keeps value.Null at l order known = unless-keeps number item limit owed null_fault at l None known tt
  destroy_handle-keeps v at l order known = tt

  -- ---- awaits

  abbrev IfLocal : Option Local → Type 0
  IfLocal None = Unit {0}
  IfLocal (Some l) = Kept number item limit owed l

  held_as-keeps : (slot : ℕ) (g : Given) (l : Local) (of : Option CoType) → Kept number item limit owed l → IfLocal (held_as slot g l of)
  held_as-keeps slot (At p) l (Some of) known = known
  held_as-keeps slot g l of known = tt

  ready_under-keeps : (plan : AwaitPlan) (into : Option Place) (l : Option Local) → IfLocal l → Keeps number item limit owed (ready_under plan into l)
  ready_under-keeps plan into None known = tt
  ready_under-keeps plan into (Some l) known = known

  pub await_operand-keeps : (plan : AwaitPlan) (into : Option Place) (g : Given) (l : Local) → Kept number item limit owed l → Keeps number item limit owed (await_operand plan into g l)
  await_operand-keeps plan into g l known =
      if-keeps number item limit owed (holder_in (func_of l) plan.holder.0) (ready_under plan into (held_as plan.holder.0 g l (type_of_slot l plan.holder.0))) (ready_under plan into (Some l))
      (ready_under-keeps plan into (held_as plan.holder.0 g l (type_of_slot l plan.holder.0)) (held_as-keeps plan.holder.0 g l (type_of_slot l plan.holder.0) known))
      (ready_under-keeps plan into (Some l) known)

  reached_at-keeps : (k : ℕ) (d : Doing) (l : Local) → Keeps number item limit owed (goes d l) → Keeps number item limit owed (goes d (reached_at k l))
  reached_at-keeps zero d l known = as-before number item limit owed d l.top.frames (reached l.top.frames) l (reaches (Some number) l.top.frames).held (reaches-alive number item l.top.frames) known
  reached_at-keeps (suc k) d l known = known

  pub await_resume-keeps : (plan : AwaitPlan) (into : Option Place) (l : Local) → Kept number item limit owed l → Keeps number item limit owed (await_resume plan into l)
  await_resume-keeps plan into l known = reached_at-keeps plan.point.0 (Evaluate plan.resume into) l known

  suspend_as-keeps : (m : ℕ) (plan : AwaitPlan) (into : Option Place) (own : List ℕ) (frames : List Frame) (outcome : Outcome) (l : Local) → l.top.coroutine ≡ Some m → open_strays l ≤ 0 → ((serial : ℕ) → (frames_hold (Some number) (frames ++ Answers m serial plan.answer own plan.span ∷ []) ≡ 0) × (frames_alive number item (frames ++ Answers m serial plan.answer own plan.span ∷ []) ≡ 0)) → Kept number item limit owed l → Keeps number item limit owed (suspend_as m plan into own frames outcome l)
  suspend_as-keeps m plan into own frames outcome l e order new known =
      let serial = suc (serial_now m l) in
      let rest : Continuation = record { slots = l.top.slots; frames = AwaitResume plan into ∷ l.top.frames } in
      let moved = set-moved number item m (suspended_at plan.point.0 serial rest) l in
      let there = suspended-held plan.point.0 serial rest in
      let parks = new serial in
      subst (λ k. Keeps number item limit owed (goes (Comes outcome) (record k { top = parked m serial plan own frames l }))) (sym moved.is)
      (leaves-frames m (suspended_at plan.point.0 serial rest) l (set_condition m (suspended_at plan.point.0 serial rest) l) (parked m serial plan own frames l) e order there.0 there.1 parks.0 parks.1 moved known)

  pub suspend-keeps : (o : Option ℕ) (plan : AwaitPlan) (into : Option Place) (own : List ℕ) (frames : List Frame) (outcome : Outcome) (l : Local) → l.top.coroutine ≡ o → open_strays l ≤ 0 → ((m serial : ℕ) → (frames_hold (Some number) (frames ++ Answers m serial plan.answer own plan.span ∷ []) ≡ 0) × (frames_alive number item (frames ++ Answers m serial plan.answer own plan.span ∷ []) ≡ 0)) → Kept number item limit owed l → Keeps number item limit owed (suspend o plan into own frames outcome l)
  suspend-keeps None plan into own frames outcome l e order new known = tt
  suspend-keeps (Some m) plan into own frames outcome l e order new known = suspend_as-keeps m plan into own frames outcome l e order (new m) known

  pub await_ready-keeps : (plan : AwaitPlan) (into : Option Place) (ready : Bool) (l : Local) → open_strays l ≤ 0 → Kept number item limit owed l → Keeps number item limit owed (await_ready plan into ready l)
  await_ready-keeps plan into true l order known = await_resume-keeps plan into l known
  await_ready-keeps plan into false l order known = if-keeps number item limit owed (is_call plan.suspend) (under (AwaitSuspend plan into []) (Evaluate plan.suspend None) l) (suspend l.top.coroutine plan into [] [] (Gives Nothing) l) known (suspend-keeps l.top.coroutine plan into [] [] (Gives Nothing) l refl order (λ m serial. (refl, refl)) known)

  taking : (m serial : ℕ) (c : Coroutine) (rest : Continuation) (outcome : Outcome) (l : Local) → Woken (record l { top = activation_of OfBody m c rest }) (activation_of OfBody m c rest, set_condition m (Running serial) (record l { top = activation_of OfBody m c rest })) → RestKept number item limit owed l → Keeps number item limit owed (goes (Comes outcome) (set_condition m (Running serial) (record l { top = activation_of OfBody m c rest })))
  taking m serial c rest outcome l woken known =
      let tokens = woken.tokens in
      let places = woken.places in
      let once = known.1 in
      let enough = known.2 in
      subst (λ k. Keeps number item limit owed (goes (Comes outcome) k)) (sym woken.is) (known.0, omega (arith, tokens, once), omega (arith, places, enough))

  taken_by-keeps : (m : ℕ) (c : Coroutine) (now : Condition) (outcome : Outcome) (l : Local) → numbered (coroutines l) m ≡ Some c → c.condition ≡ now → coroutines_stray 1 l.shared.coroutines ≤ 0 → RestKept number item limit owed l → Keeps number item limit owed (taken_by m c now outcome l)
  taken_by-keeps m c (Suspended point serial rest) outcome l e f order known = taking m serial c rest outcome l (wakes-again OfBody m serial c rest (record l { top = activation_of OfBody m c rest }) e (ap (condition_strays m) f) (ap (condition_holds number item) f) (ap (condition_alive number item) f) order) known
  taken_by-keeps m c (Final point serial rest) outcome l e f order known = taking m serial c rest outcome l (wakes-again OfBody m serial c rest (record l { top = activation_of OfBody m c rest }) e (ap (condition_strays m) f) (ap (condition_holds number item) f) (ap (condition_alive number item) f) order) known
  taken_by-keeps m c now outcome l e f order known = tt

  taken_in-keeps : (m : ℕ) (outcome : Outcome) (l : Local) (o : Option Coroutine) → numbered (coroutines l) m ≡ o → coroutines_stray 1 l.shared.coroutines ≤ 0 → RestKept number item limit owed l → Keeps number item limit owed (taken_in m outcome l o)
  taken_in-keeps m outcome l None e order known = tt
  taken_in-keeps m outcome l (Some c) e order known = taken_by-keeps m c c.condition outcome l e refl order known

  take_back-keeps : (m serial : ℕ) (outcome : Outcome) (at : Span) (l : Local) → frames_inner l.top.frames ≤ 0 → coroutines_stray 1 l.shared.coroutines ≤ 0 → Kept number item limit owed l → Keeps number item limit owed (take_back m serial outcome at l)
  take_back-keeps m serial outcome at l inner order known = unless-keeps number item limit owed (record { kind = U1; holds = not_taken_back (coroutines l) m serial } ∷ []) at l (taken_in m outcome l (numbered (coroutines l) m)) known (taken_in-keeps m outcome l (numbered (coroutines l) m) refl order (rest-kept l inner known))

  answer_bool-keeps : (again : Bool) (m serial : ℕ) (at : Span) (l : Local) → frames_inner l.top.frames ≤ 0 → coroutines_stray 1 l.shared.coroutines ≤ 0 → Kept number item limit owed l → Keeps number item limit owed (answer_bool again m serial at l)
  answer_bool-keeps true m serial at l inner order known = take_back-keeps m serial Passes at l inner order known
  answer_bool-keeps false m serial at l inner order known = returns-keeps number item limit owed Nothing l (rest-kept l inner known)

  answered-keeps : (m serial : ℕ) (a : Answer) (g : Given) (at : Span) (l : Local) → frames_inner l.top.frames ≤ 0 → coroutines_stray 1 l.shared.coroutines ≤ 0 → Kept number item limit owed l → Keeps number item limit owed (answered m serial a g at l)
  answered-keeps m serial answer.Void g at l inner order known = returns-keeps number item limit owed Nothing l (rest-kept l inner known)
  answered-keeps m serial answer.Bool (Scalar (value.Number k z)) at l inner order known = answer_bool-keeps (is_zero z) m serial at l inner order known
  answered-keeps m serial answer.Handle (Scalar v) at l inner order known = transfer-keeps v at l inner order known
  answered-keeps m serial a g at l inner order known = tt

  pub answers-keeps : (m serial : ℕ) (a : Answer) (own : List ℕ) (g : Given) (at : Span) (l : Local) → frames_inner l.top.frames ≤ 0 → coroutines_stray 1 l.shared.coroutines ≤ 0 → Kept number item limit owed l → Keeps number item limit owed (answers m serial a own g at l)
  answers-keeps m serial a [] g at l inner order known = answered-keeps m serial a g at l inner order known
  answers-keeps m serial a (x ∷ own) g at l inner order known = unseen_ends-keeps number item limit owed (x ∷ own) (Gives g) (pushed (Answers m serial a [] at) l) known

  pub answer_left-keeps : (m serial : ℕ) (a : Answer) (own : List ℕ) (going : Going) (at : Span) (l : Local) → frames_inner l.top.frames ≤ 0 → coroutines_stray 1 l.shared.coroutines ≤ 0 → Kept number item limit owed l → Keeps number item limit owed (answer_left m serial a own going at l)
  answer_left-keeps m serial a [] going at l inner order known = take_back-keeps m serial (Goes going) at l inner order known
  answer_left-keeps m serial a (x ∷ own) going at l inner order known = unseen_ends-keeps number item limit owed (x ∷ own) (Goes going) (pushed (Answers m serial a [] at) l) known
