-- A step loses no object.
use Rattle.std.proofs.Common.{ℕ, ◌+◌, ◌≤◌, List, [], ◌∷◌, Bool, true, false, Some, None, arith, refl}
use Rattle.std.specs.Prelude.{drop, not, Option}
use Rattle.co_base.specs.declared.span.Span.{Span}
use Rattle.co_core_tree.specs.declared.exprs.CoreExpr.{CoreExpr}
use Rattle.co_core_tree.specs.declared.exprs.Init.{Init}
use Rattle.co_meaning_data.specs.Access.{compare, load, put}
use Rattle.co_meaning_data.specs.Frames.{AddressOf, Answers, ArgumentMade, ArithRight, ArithWith, At, AwaitOperand, AwaitReady, AwaitResume, AwaitSuspend, Awaits, Border, BothRight, BranchOn, Building, Call, Called, Calling, ChooseOne, Closes, Comes, CompareAt, Constructing, ConvertTo, Declares, DeleteEnded, DeleteOf, Dies, Doing, Draws, Drops, EitherRight, Ends, EndsPart, Evaluate, ExchangeFrom, ExchangePlace, ExchangeWith, Execute, FieldMade, FieldOf, FieldsEnd, Frame, Full, Function, Given, Gives, Goes, Going, Guards, Handled, HasDied, HasEnded, Holds, Idle, Initialize, IsBorn, IsMade, Joined, LoadFrom, LoopBody, LoopStep, LoopTest, NewMade, NewTaken, Nothing, NullDone, ObjectEnds, Opens, Operands, Operation, Outcome, PartEnds, Passes, PickOne, RampBody, RampCopies, RampDone, RampMade, RampResult, RampTake, RampTaken, Reads, Referent, Releases, ResultInto, RethrowOf, Returns, SameRight, SameWith, Scalar, Scope, Started, StoreInto, StoreValue, TempMade, TestOf, ThrowOf, ThrowRead, Throwing, Tries, Unhandled, UpdateAt, UpdateFrom, UpdateValue, ValueInto, Writes}
use Rattle.co_meaning_data.specs.Store.{Place, field_of_place}
use Rattle.co_meaning_data.specs.Turn.{Local, Turned, gives, pointer, pushed, under, with_frames, goes}
use Rattle.co_meaning_data.specs.declared.values.Value.{Value}
use Rattle.co_meaning_data.specs.declared.values.Value.TheVariants as value
use Rattle.co_meaning_calls.specs.Coroutines.{await_ready, after_end, is_zero, ramp_taken, suspends_before}
use Rattle.co_meaning.specs.Expressions.{delete_of, new_taken}
use Rattle.co_meaning.specs.Step.{on_place, on_scalar, on_truth, operand, result_ends, receive, or_enter, call_next, call_on, all_fields, pass, constructor_left, leave, come, act}
use Rattle.co_meaning_balance.proofs.AccessKeeps.{reads-keeps, load-keeps, writes-keeps, put-keeps, compare-keeps}
use Rattle.co_meaning_balance.proofs.CallsKeeps.{open_step-keeps, argument-keeps, argument_lives-keeps, enter-keeps, next_member-keeps, next_element-keeps, field_made-keeps, last_frame-keeps, function_left-keeps, at_border-keeps, call_returned-keeps}
use Rattle.co_meaning_balance.proofs.CoroutinesKeeps.{fewer-without, releases-keeps, ramp_take-keeps, ramp_taken-keeps, draws-keeps, is_made-keeps, ramp_copies-keeps, ramp_made-keeps, ramp_result-keeps, ramp_body-keeps, started-keeps, final_await-keeps, guard_left-keeps, unhandled_left-keeps, hold_left-keeps, closes-keeps, has_ended-keeps, await_operand-keeps, await_resume-keeps, suspend-keeps, await_ready-keeps, answers-keeps, answer_left-keeps}
use Rattle.co_meaning_balance.proofs.ExpressionsKeeps.{dereferenced-keeps, arithmetic-keeps, converted-keeps, updated-keeps, tested-keeps, compared_with-keeps, both-keeps, either-keeps, picks-keeps, chooses-keeps, temporary_made-keeps, throws-keeps, rethrow_parts-keeps, new_taken-keeps, new_made-keeps, new_left-keeps, delete_of-keeps, delete_ended-keeps, evaluate-keeps, initialize-keeps}
use Rattle.co_meaning_balance.proofs.LibraryKeeps.{operate-keeps}
use Rattle.co_meaning_balance.proofs.ObjectsKeeps.{is_born-keeps, ends-keeps, end_next-keeps, dies-keeps, has_died-keeps, abandon-keeps, unseen_ends-keeps, fields_end-keeps, full_ends-keeps, scope_ends-keeps}
use Rattle.co_meaning_balance.proofs.StatementsKeeps.{declares-keeps, execute-keeps, next_statement-keeps, branch-keeps, loop_tested-keeps, loop_body-keeps, loop_step-keeps, loop_left-keeps, try_left-keeps, handler_left-keeps}
use Rattle.co_meaning_balance.specs.Order.{coroutines_stray, doing_strays, frame_strays, frames_hold, frames_inner, frames_stray, local_strays, rest_strays}
use Rattle.co_meaning_balance.specs.Places.{Keeps, Kept}

module _ (number item limit owed : ℕ) where
  on_place-keeps : (f : Place → Option Turned) (g : Given) → ((p : Place) → Keeps number item limit owed (f p)) → Keeps number item limit owed (on_place f g)
  on_place-keeps f (At p) fits = fits p
  on_place-keeps f g fits = tt

  on_scalar-keeps : (f : Value → Option Turned) (g : Given) → ((v : Value) → Keeps number item limit owed (f v)) → Keeps number item limit owed (on_scalar f g)
  on_scalar-keeps f (Scalar v) fits = fits v
  on_scalar-keeps f g fits = tt

  on_truth-keeps : (f : Bool → Option Turned) (g : Given) → ((b : Bool) → Keeps number item limit owed (f b)) → Keeps number item limit owed (on_truth f g)
  on_truth-keeps f (Scalar (value.Number n z)) fits = fits (not (is_zero z))
  on_truth-keeps f g fits = tt

  operand-keeps : (o : Operation) (given : List Given) (rest : List CoreExpr) (at : Span) (l : Local) → coroutines_stray 1 l.shared.coroutines ≤ 0 → Kept number item limit owed l → Keeps number item limit owed (operand o given rest at l)
  operand-keeps o given [] at l order known = operate-keeps number item limit owed o given at l order known
  operand-keeps o given (e ∷ rest) at l order known = known

  result_ends-keeps : (o : Option Place) (going : Going) (l : Local) → Kept number item limit owed l → Keeps number item limit owed (result_ends o going l)
  result_ends-keeps None going l known = known
  result_ends-keeps (Some p) going l known = ends-keeps number item limit owed (EndsPart p ∷ []) (Goes going) l (known.0, known.1, let enough = known.2 in omega (arith, enough))

  receive-keeps : (f : Frame) (g : Given) (l : Local) → frame_strays l.top.coroutine (frames_hold l.top.coroutine l.top.frames) (frames_inner l.top.frames) f + local_strays l ≤ 0 → Kept number item limit owed (pushed f l) → Keeps number item limit owed (receive f g l)
  receive-keeps (FieldOf k) g l order known = on_place-keeps (λ p. gives (At (field_of_place p k)) l) g (λ p. known)
  receive-keeps (Referent at) g l order known = dereferenced-keeps number item limit owed g at l known
  receive-keeps AddressOf g l order known = on_place-keeps (λ p. gives (Scalar (pointer p)) l) g (λ p. known)
  receive-keeps (LoadFrom at) g l order known = on_place-keeps (λ p. load p at l) g (λ p. (load-keeps number item limit owed p at l known))
  receive-keeps (StoreValue place at) g l order known = known
  receive-keeps (StoreInto new at) g l order known = on_place-keeps (λ p. put false p new (Gives (At p)) at l) g (λ p. (put-keeps number item limit owed false p new (Gives (At p)) at l known))
  receive-keeps (ExchangePlace e at) g l order known = on_place-keeps (λ p. under (ExchangeWith p at) (Evaluate e None) l) g (λ p. known)
  receive-keeps (ExchangeWith p at) g l order known = load-keeps number item limit owed p at (pushed (ExchangeFrom p g at) l) known
  receive-keeps (ExchangeFrom p new at) g l order known = put-keeps number item limit owed false p new (Gives g) at l known
  receive-keeps (UpdateValue o n place old at) g l order known = known
  receive-keeps (UpdateAt o n v old at) g l order known = on_place-keeps (λ p. load p at (pushed (UpdateFrom o n v p old at) l)) g (λ p. (load-keeps number item limit owed p at (pushed (UpdateFrom o n v p old at) l) known))
  receive-keeps (UpdateFrom o n v p old at) g l order known = updated-keeps number item limit owed o n v p old g at l known
  receive-keeps (ArithRight o n right at) g l order known = known
  receive-keeps (ArithWith o n left at) g l order known = arithmetic-keeps number item limit owed o n left g at l known
  receive-keeps (ConvertTo n) g l order known = converted-keeps number item limit owed n g l known
  receive-keeps TestOf g l order known = tested-keeps number item limit owed g l known
  receive-keeps (SameRight right at) g l order known = known
  receive-keeps (SameWith left at) g l order known = compared_with-keeps number item limit owed left g at l known
  receive-keeps (BothRight right) g l order known = both-keeps number item limit owed right g l known
  receive-keeps (EitherRight right) g l order known = either-keeps number item limit owed right g l known
  receive-keeps (PickOne x y) g l order known = picks-keeps number item limit owed x y g l known
  receive-keeps Joined g l order known = known
  receive-keeps (ThrowOf of at) g l order known = throws-keeps number item limit owed of g at l known
  receive-keeps (ThrowRead class) g l order known = known
  receive-keeps (RethrowOf at) g l order known = rethrow_parts-keeps number item limit owed g at l known
  receive-keeps (Operands o given rest at) g l order known = operand-keeps o (g ∷ given) (drop 1 rest) at l (omega (arith, order)) known
  receive-keeps (CompareAt p expected (Scalar desired) at) g l order known = on_scalar-keeps (λ wanted. compare p expected wanted desired at l) g (λ wanted. (compare-keeps number item limit owed p expected wanted desired at l known))
  receive-keeps (Calling call) g l order known = known
  receive-keeps (Called objects) g l order known = call_returned-keeps number item limit owed objects (Gives g) l known
  receive-keeps (NewTaken plan) g l order known = on_scalar-keeps (λ v. new_taken plan v l) g (λ v. (new_taken-keeps number item limit owed plan v l known))
  receive-keeps (DeleteOf plan) g l order known = on_scalar-keeps (λ v. delete_of plan v l) g (λ v. (delete_of-keeps number item limit owed plan v l known))
  receive-keeps (AwaitOperand plan into) g l order known = await_operand-keeps number item limit owed plan into g l known
  receive-keeps (AwaitReady plan into) g l order known = on_truth-keeps (λ ready. await_ready plan into ready l) g (λ ready. (await_ready-keeps number item limit owed plan into ready l (omega (arith, order)) known))
  receive-keeps (Answers n serial a own at) g l order known = answers-keeps number item limit owed n serial a own g at l (omega (arith, order)) (omega (arith, order)) known
  receive-keeps (ValueInto p at) g l order known = put-keeps number item limit owed true p g Passes at l known
  receive-keeps ResultInto g l order known = known
  receive-keeps (ChooseOne x y p) g l order known = chooses-keeps number item limit owed x y p g l known
  receive-keeps (Ends rest outcome) g l order known = end_next-keeps number item limit owed rest outcome l (known.0, known.1, let enough = known.2 in omega (arith, enough))
  receive-keeps (ObjectEnds x) g l order known = (known.0, known.1, let enough = known.2 in omega (arith, enough))
  receive-keeps (PartEnds p) g l order known = known
  receive-keeps Drops g l order known = known
  receive-keeps (Full ts) g l order known = full_ends-keeps number item limit owed ts (Gives g) l known
  receive-keeps (BranchOn x y) g l order known = branch-keeps number item limit owed x y g l known
  receive-keeps (LoopTest e step body) g l order known = loop_tested-keeps number item limit owed e step body g l known
  receive-keeps Returns g l order known = known
  receive-keeps RampTaken g l order known = on_scalar-keeps (λ v. ramp_taken v l) g (λ v. (ramp_taken-keeps number item limit owed v l known))
  receive-keeps RampBody g l order known = ramp_body-keeps number item limit owed l (omega (arith, order)) known
  receive-keeps RampDone g l order known = known
  receive-keeps NullDone g l order known = known
  receive-keeps f g l order known = tt

  abbrev IfSuspended : Option (Option Turned) → Type 0
  IfSuspended None = Unit {0}
  IfSuspended (Some t) = Keeps number item limit owed t

  suspends_before-keeps : (call : Call) (fs : List Frame) (l : Local) → frames_stray l.top.coroutine fs + rest_strays l ≤ 0 → Kept number item limit owed (with_frames fs l) → IfSuspended (suspends_before call fs l)
  suspends_before-keeps call (AwaitSuspend plan into own ∷ fs) l order known =
      suspend-keeps number item limit owed l.top.coroutine plan into own (Calling call ∷ []) Passes (with_frames fs l) refl (omega (arith, order)) (λ m serial. (refl, refl)) known
  suspends_before-keeps call (LoadFrom at ∷ AwaitSuspend plan into own ∷ fs) l order known =
      suspend-keeps number item limit owed l.top.coroutine plan into own (Calling call ∷ LoadFrom at ∷ []) Passes (with_frames fs l) refl (omega (arith, order)) (λ m serial. (refl, refl)) known
  suspends_before-keeps call fs l order known = tt

  or_enter-keeps : (call : Call) (l : Local) (t : Option (Option Turned)) → IfSuspended t → Kept number item limit owed l → Keeps number item limit owed (or_enter call l t)
  or_enter-keeps call l None fits known = enter-keeps number item limit owed call l known
  or_enter-keeps call l (Some t) fits known = fits

  call_next-keeps : (call : Call) (l : Local) (rest : List Init) → local_strays l ≤ 0 → Kept number item limit owed l → Keeps number item limit owed (call_next call l rest)
  call_next-keeps call l [] order known = or_enter-keeps call l (suspends_before call l.top.frames l) (suspends_before-keeps call l.top.frames l order known) known
  call_next-keeps call l (i ∷ rest) order known = argument-keeps number item limit owed (record call { rest = rest }) i l known

  call_on-keeps : (call : Call) (l : Local) → local_strays l ≤ 0 → Kept number item limit owed l → Keeps number item limit owed (call_on call l)
  call_on-keeps call l order known = call_next-keeps call l call.rest order known

  pass-keeps : (f : Frame) (l : Local) → frame_strays l.top.coroutine (frames_hold l.top.coroutine l.top.frames) (frames_inner l.top.frames) f + local_strays l ≤ 0 → Kept number item limit owed (pushed f l) → Keeps number item limit owed (pass f l)
  pass-keeps Joined l order known = known
  pass-keeps (TempMade slot x) l order known = temporary_made-keeps number item limit owed slot x l known
  pass-keeps (Operands o given rest at) l order known = operand-keeps o given rest at l (omega (arith, order)) known
  pass-keeps (Calling call) l order known = call_on-keeps call l (omega (arith, order)) known
  pass-keeps (ArgumentMade x) l order known = argument_lives-keeps number item limit owed x l.top.frames l known
  pass-keeps (NewMade x b plan) l order known = new_made-keeps number item limit owed x l known
  pass-keeps (DeleteEnded x b plan) l order known = delete_ended-keeps number item limit owed x b plan l known
  pass-keeps (AwaitResume plan into) l order known = await_resume-keeps number item limit owed plan into l known
  pass-keeps FieldMade l order known = field_made-keeps number item limit owed l known
  pass-keeps (Building p built rest) l order known = next_element-keeps number item limit owed p built rest l known
  pass-keeps (Constructing p class built rest body) l order known = next_member-keeps number item limit owed p class built rest body l known
  pass-keeps (FieldsEnd p class) l order known = fields_end-keeps number item limit owed p (all_fields p l) Passes l known
  pass-keeps (Ends rest outcome) l order known = end_next-keeps number item limit owed rest outcome l (known.0, known.1, let enough = known.2 in omega (arith, enough))
  pass-keeps Drops l order known = known
  pass-keeps (Full ts) l order known = full_ends-keeps number item limit owed ts Passes l known
  pass-keeps (Scope alive rest) l order known = next_statement-keeps number item limit owed alive rest l known
  pass-keeps (Declares x) l order known = declares-keeps number item limit owed x l known
  pass-keeps (LoopBody e step body) l order known = loop_body-keeps number item limit owed e step body l known
  pass-keeps (LoopStep e step body) l order known = loop_step-keeps number item limit owed e step body l known
  pass-keeps Returns l order known = known
  pass-keeps (Tries handlers) l order known = known
  pass-keeps Handled l order known = handler_left-keeps number item limit owed Passes l known
  pass-keeps Border l order known = known
  pass-keeps (Function own) l order known = unseen_ends-keeps number item limit owed own (Gives Nothing) l known
  pass-keeps RampTake l order known = ramp_take-keeps number item limit owed l known
  pass-keeps (RampCopies rest) l order known = ramp_copies-keeps number item limit owed rest l known
  pass-keeps (RampMade x) l order known = ramp_made-keeps number item limit owed x l known
  pass-keeps RampResult l order known = ramp_result-keeps number item limit owed l known
  pass-keeps (Holds hold) l order known = hold_left-keeps number item limit owed hold Passes l known
  pass-keeps (Closes n b outcome) l order known = closes-keeps number item limit owed n b outcome l known
  pass-keeps Started l order known = started-keeps number item limit owed l known
  pass-keeps (Guards resumed) l order known = final_await-keeps number item limit owed l known
  pass-keeps Unhandled l order known = final_await-keeps number item limit owed l known
  pass-keeps f l order known = tt

  constructor_left-keeps : (p : Place) (built : ℕ) (going : Going) (l : Local) → Kept number item limit owed l → Keeps number item limit owed (constructor_left p built going l)
  constructor_left-keeps p built (Throwing v) l known = fields_end-keeps number item limit owed p built (Goes (Throwing v)) l known
  constructor_left-keeps p built going l known = known

  leave-keeps : (f : Frame) (going : Going) (l : Local) → frame_strays l.top.coroutine (frames_hold l.top.coroutine l.top.frames) (frames_inner l.top.frames) f + local_strays l ≤ 0 → Kept number item limit owed (pushed f l) → Keeps number item limit owed (leave f going l)
  leave-keeps (TempMade slot x) going l order known = abandon-keeps number item limit owed x.object (Goes going) l known
  leave-keeps (ArgumentMade x) going l order known = abandon-keeps number item limit owed x (Goes going) l known
  leave-keeps (Declares x) going l order known = abandon-keeps number item limit owed x.object (Goes going) l known
  leave-keeps (RampMade x) going l order known = abandon-keeps number item limit owed x.object (Goes going) l known
  leave-keeps (NewMade x b plan) going l order known = new_left-keeps number item limit owed x b plan (Goes going) l known
  leave-keeps (Calling call) going l order known = call_returned-keeps number item limit owed call.objects (Goes going) l known
  leave-keeps (Called objects) going l order known = call_returned-keeps number item limit owed objects (Goes going) l known
  leave-keeps (AwaitSuspend plan into own) going l order known = call_returned-keeps number item limit owed own (Goes going) l known
  leave-keeps (Answers n serial a own at) going l order known = answer_left-keeps number item limit owed n serial a own going at l (omega (arith, order)) (omega (arith, order)) known
  leave-keeps (Building p built rest) going l order known = fields_end-keeps number item limit owed p built (Goes going) l known
  leave-keeps (Constructing p class built rest body) going l order known = constructor_left-keeps p built going l known
  leave-keeps (FieldsEnd p class) going l order known = fields_end-keeps number item limit owed p (all_fields p l) (Goes going) l known
  leave-keeps (Ends rest outcome) going l order known = ends-keeps number item limit owed rest (Goes going) l (known.0, known.1, let enough = known.2 in omega (arith, enough))
  leave-keeps (ObjectEnds x) going l order known = (known.0, known.1, let enough = known.2 in omega (arith, enough))
  leave-keeps (PartEnds p) going l order known = known
  leave-keeps (Full ts) going l order known = full_ends-keeps number item limit owed ts (Goes going) l known
  leave-keeps (Scope alive rest) going l order known = scope_ends-keeps number item limit owed alive (Goes going) l known
  leave-keeps (LoopBody e step body) going l order known = loop_left-keeps number item limit owed e step body going l known
  leave-keeps (Tries handlers) going l order known = try_left-keeps number item limit owed handlers going l known
  leave-keeps Handled going l order known = handler_left-keeps number item limit owed (Goes going) l known
  leave-keeps Border going l order known = at_border-keeps number item limit owed going l known
  leave-keeps (Function own) going l order known = function_left-keeps number item limit owed own going l known
  leave-keeps RampDone going l order known = result_ends-keeps l.top.into going l known
  leave-keeps (Holds hold) going l order known = hold_left-keeps number item limit owed hold (after_end going) l known
  leave-keeps (Guards resumed) going l order known = guard_left-keeps number item limit owed resumed going l known
  leave-keeps Unhandled going l order known = unhandled_left-keeps number item limit owed going l (omega (arith, order)) known
  leave-keeps (Closes m b outcome) going l order known = (known.0, let fewer = fewer-without number item limit owed m (frames_hold (Some number) l.top.frames) in let once = known.1 in omega (arith, fewer, once), known.2)
  leave-keeps f going l order known = known

  come-keeps : (list : List Frame) (outcome : Outcome) (l : Local) → frames_stray l.top.coroutine list + rest_strays l ≤ 0 → Kept number item limit owed (with_frames list l) → Keeps number item limit owed (come list outcome l)
  come-keeps [] outcome l order known = last_frame-keeps number item limit owed outcome (with_frames [] l) refl known
  come-keeps (f ∷ fs) (Gives g) l order known = receive-keeps f g (with_frames fs l) (omega (arith, order)) known
  come-keeps (f ∷ fs) Passes l order known = pass-keeps f (with_frames fs l) (omega (arith, order)) known
  come-keeps (f ∷ fs) (Goes going) l order known = leave-keeps f going (with_frames fs l) (omega (arith, order)) known

  pub act-keeps : (d : Doing) (l : Local) → doing_strays l.top.coroutine (frames_hold l.top.coroutine l.top.frames) (frames_inner l.top.frames) d + local_strays l ≤ 0 → Keeps number item limit owed (goes d l) → Keeps number item limit owed (act d l)
  act-keeps Idle l order known = tt
  act-keeps (Evaluate e into) l order known = evaluate-keeps number item limit owed e into l known
  act-keeps (Awaits plan into) l order known = known
  act-keeps (Initialize i p) l order known = initialize-keeps number item limit owed i p l known
  act-keeps (Execute s) l order known = execute-keeps number item limit owed s l known
  act-keeps (Opens marks d) l order known = open_step-keeps number item limit owed marks d l known
  act-keeps (Reads p left done at) l order known = reads-keeps number item limit owed p left done at l known
  act-keeps (Writes initial p done left outcome at) l order known = writes-keeps number item limit owed initial p done left outcome at l known
  act-keeps (Comes outcome) l order known = come-keeps l.top.frames outcome l (omega (arith, order)) known
  act-keeps (IsBorn x spot outcome) l order known = is_born-keeps number item limit owed x spot outcome l (omega (arith, order)) (omega (arith, order)) known
  act-keeps (Dies x) l order known = dies-keeps number item limit owed x l known
  act-keeps (HasDied c x) l order known = has_died-keeps number item limit owed c x l known
  act-keeps (Draws b) l order known = draws-keeps number item limit owed b l known
  act-keeps (IsMade n) l order known = is_made-keeps number item limit owed n l known
  act-keeps (HasEnded n b outcome) l order known = has_ended-keeps number item limit owed n b outcome l known
  act-keeps (Releases b words give outcome at) l order known = releases-keeps number item limit owed b words give outcome at l known
