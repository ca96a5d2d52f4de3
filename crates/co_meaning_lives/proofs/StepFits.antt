-- A step of an agent keeps what is to come.
use Rattle.std.proofs.Common.{ℕ, ◌+◌, ◌≤◌, List, [], ◌∷◌, Bool, true, false, Some, None, arith}
use Rattle.std.specs.Prelude.{drop, not, Option}
use Rattle.co_base.specs.declared.span.Span.{Span}
use Rattle.co_core_tree.specs.declared.exprs.CoreExpr.{CoreExpr}
use Rattle.co_core_tree.specs.declared.exprs.Init.{Init}
use Rattle.co_meaning_data.specs.declared.values.Value.{Value}
use Rattle.co_meaning_data.specs.Frames.{AddressOf, Answers, ArgumentMade, ArithRight, ArithWith, At, AwaitOperand, AwaitReady, AwaitResume, AwaitSuspend, Awaits, Border, BothRight, BranchOn, Building, Call, Called, Calling, ChooseOne, Closes, Comes, CompareAt, Constructing, ConvertTo, Declares, DeleteEnded, DeleteOf, Dies, Doing, Draws, Drops, EitherRight, Ends, EndsPart, Evaluate, ExchangeFrom, ExchangePlace, ExchangeWith, Execute, FieldMade, FieldOf, FieldsEnd, Frame, Full, Function, Given, Gives, Goes, Going, Guards, Handled, HasDied, HasEnded, Holds, Idle, Initialize, IsBorn, IsMade, Joined, LoadFrom, LoopBody, LoopStep, LoopTest, NewMade, NewTaken, Nothing, NullDone, ObjectEnds, Opens, Operands, Operation, Outcome, PartEnds, Passes, PickOne, RampBody, RampCopies, RampDone, RampMade, RampResult, RampTake, RampTaken, Reads, Referent, Releases, ResultInto, RethrowOf, Returning, Returns, SameRight, SameWith, Scalar, Scope, Started, StoreInto, StoreValue, TempMade, TestOf, ThrowOf, ThrowRead, Throwing, Tries, Unhandled, UpdateAt, UpdateFrom, UpdateValue, ValueInto, Writes}
use Rattle.co_meaning_data.specs.Store.{Place, end_part, field_of_place}
use Rattle.co_meaning_data.specs.Access.{compare, load, put}
use Rattle.co_meaning_calls.specs.Coroutines.{await_ready, after_end, is_zero, ramp_taken, suspends_before}
use Rattle.co_meaning.specs.Expressions.{delete_of, new_taken, thrown_object, values_given}
use Rattle.co_meaning_calls.specs.Objects.{unseen_endings, endings, fields_end, temporaries_end}
use Rattle.co_meaning_data.specs.Turn.{Local, Turned, classes, gives, pointer, pushed, store, under, with_frames, with_store}
use Rattle.co_meaning.specs.Step.{on_place, on_scalar, on_truth, operand, result_ends, receive, or_enter, call_next, call_on, all_fields, pass, constructor_left, leave, come, act}
use Rattle.co_meaning_lives.specs.Tokens.{Fits, credits, doing_weighs, frame_weighs, frames_weigh, local_weighs, rest_weighs}
use Rattle.co_meaning_lives.proofs.Weights.{end_part-count, same, goes-fits, under-fits, gives-fits, passes-fits, leaves-fits, marks, unseen-weigh, endings-weigh, fields-weigh, temporaries-end}
use Rattle.co_meaning_data.specs.declared.values.Value.TheVariants as value
use Rattle.co_meaning_lives.proofs.AccessFits.{reads-fits, load-fits, writes-fits, put-fits, compare-fits}
use Rattle.co_meaning_lives.proofs.ObjectsFits.{is_born-fits, ends-fits, end_next-fits, dies-fits, has_died-fits, abandon-fits}
use Rattle.co_meaning_lives.proofs.CallsFits.{open_step-fits, argument-fits, argument_lives-fits, enter-fits, next_member-fits, next_element-fits, field_made-fits, last_frame-fits, function_left-fits, at_border-fits, call_returned-fits}
use Rattle.co_meaning_lives.proofs.CoroutinesFits.{releases-fits, ramp_take-fits, ramp_taken-fits, draws-fits, is_made-fits, ramp_copies-fits, ramp_made-fits, ramp_result-fits, ramp_body-fits, started-fits, final_await-fits, guard_left-fits, unhandled_left-fits, hold_left-fits, closes-fits, has_ended-fits, await_operand-fits, await_resume-fits, suspend-fits, await_ready-fits, answers-fits, answer_left-fits}
use Rattle.co_meaning_lives.proofs.ExpressionsFits.{dereferenced-fits, arithmetic-fits, converted-fits, updated-fits, tested-fits, compared_with-fits, both-fits, either-fits, picks-fits, chooses-fits, temporary_made-fits, throws-fits, rethrow_parts-fits, new_taken-fits, new_made-fits, new_left-fits, delete_of-fits, delete_ended-fits, evaluate-fits, initialize-fits}
use Rattle.co_meaning_lives.proofs.StatementsFits.{declares-fits, execute-fits, next_statement-fits, branch-fits, loop_tested-fits, loop_body-fits, loop_step-fits, loop_left-fits, try_left-fits, handler_left-fits}
use Rattle.co_meaning_lives.proofs.LibraryFits.{operate-fits}

module _ (item raw on_birth on_death credit each : ℕ) (small : on_birth + on_death ≤ raw + credit) where
  on_place-fits : (limit : ℕ) (f : Place → Option Turned) (g : Given) → ((p : Place) → Fits item raw on_birth on_death credit each limit (f p)) → Fits item raw on_birth on_death credit each limit (on_place f g)
  on_place-fits limit f (At p) fits = fits p
  on_place-fits limit f g fits = tt

  on_scalar-fits : (limit : ℕ) (f : Value → Option Turned) (g : Given) → ((v : Value) → Fits item raw on_birth on_death credit each limit (f v)) → Fits item raw on_birth on_death credit each limit (on_scalar f g)
  on_scalar-fits limit f (Scalar v) fits = fits v
  on_scalar-fits limit f g fits = tt

  on_truth-fits : (limit : ℕ) (f : Bool → Option Turned) (g : Given) → ((b : Bool) → Fits item raw on_birth on_death credit each limit (f b)) → Fits item raw on_birth on_death credit each limit (on_truth f g)
  on_truth-fits limit f (Scalar (value.Number n z)) fits = fits (not (is_zero z))
  on_truth-fits limit f g fits = tt

  pub operand-fits : (limit : ℕ) (y0 : Operation) (y1 : List Given) (y2 : List CoreExpr) (y3 : Span) (y4 : Local) → local_weighs item raw on_birth on_death credit each y4 + each ≤ limit + credits item raw on_birth on_death credit each y4.seen → Fits item raw on_birth on_death credit each limit (operand y0 y1 y2 y3 y4)
  operand-fits limit o given [] at l known = (operate-fits item raw on_birth on_death credit each small limit o given at l (omega (arith, known)))
  operand-fits limit o given (e ∷ rest) at l known = (under-fits item raw on_birth on_death credit each small limit (Operands o given (e ∷ rest) at) (Evaluate e None) l (omega (arith, known)))

  pub result_ends-fits : (limit : ℕ) (y0 : Option Place) (y1 : Going) (y2 : Local) → local_weighs item raw on_birth on_death credit each y2 + each ≤ limit + credits item raw on_birth on_death credit each y2.seen → Fits item raw on_birth on_death credit each limit (result_ends y0 y1 y2)
  result_ends-fits limit None going l known = (leaves-fits item raw on_birth on_death credit each small limit going l (omega (arith, known)))
  result_ends-fits limit (Some p) going l known = (ends-fits item raw on_birth on_death credit each small limit (EndsPart p ∷ []) (Goes going) l (omega (arith, known)))

  pub receive-fits : (limit : ℕ) (y0 : Frame) (y1 : Given) (y2 : Local) → frame_weighs item raw on_birth on_death credit each y0 + (local_weighs item raw on_birth on_death credit each y2) + each ≤ limit + credits item raw on_birth on_death credit each y2.seen → Fits item raw on_birth on_death credit each limit (receive y0 y1 y2)
  receive-fits limit (FieldOf k) g l known = (on_place-fits limit (λ p. gives (At (field_of_place p k)) l) g (λ p. (gives-fits item raw on_birth on_death credit each small limit (At (field_of_place p k)) l (omega (arith, known)))))
  receive-fits limit (Referent at) g l known = (dereferenced-fits item raw on_birth on_death credit each small limit g at l (omega (arith, known)))
  receive-fits limit AddressOf g l known = (on_place-fits limit (λ p. gives (Scalar (pointer p)) l) g (λ p. (gives-fits item raw on_birth on_death credit each small limit (Scalar (pointer p)) l (omega (arith, known)))))
  receive-fits limit (LoadFrom at) g l known = (on_place-fits limit (λ p. load p at l) g (λ p. (load-fits item raw on_birth on_death credit each small limit p at l (omega (arith, known)))))
  receive-fits limit (StoreValue place at) g l known = (under-fits item raw on_birth on_death credit each small limit (StoreInto g at) (Evaluate place None) l (omega (arith, known)))
  receive-fits limit (StoreInto new at) g l known = (on_place-fits limit (λ p. put false p new (Gives (At p)) at l) g (λ p. (put-fits item raw on_birth on_death credit each small limit false p new (Gives (At p)) at l (omega (arith, known)))))
  receive-fits limit (ExchangePlace e at) g l known = (on_place-fits limit (λ p. under (ExchangeWith p at) (Evaluate e None) l) g (λ p. (under-fits item raw on_birth on_death credit each small limit (ExchangeWith p at) (Evaluate e None) l (omega (arith, known)))))
  receive-fits limit (ExchangeWith p at) g l known = (load-fits item raw on_birth on_death credit each small limit p at (pushed (ExchangeFrom p g at) l) (omega (arith, known)))
  receive-fits limit (ExchangeFrom p new at) g l known = (put-fits item raw on_birth on_death credit each small limit false p new (Gives g) at l (omega (arith, known)))
  receive-fits limit (UpdateValue o n place old at) g l known = (under-fits item raw on_birth on_death credit each small limit (UpdateAt o n g old at) (Evaluate place None) l (omega (arith, known)))
  receive-fits limit (UpdateAt o n v old at) g l known = (on_place-fits limit (λ p. load p at (pushed (UpdateFrom o n v p old at) l)) g (λ p. (load-fits item raw on_birth on_death credit each small limit p at (pushed (UpdateFrom o n v p old at) l) (omega (arith, known)))))
  receive-fits limit (UpdateFrom o n v p old at) g l known = (updated-fits item raw on_birth on_death credit each small limit o n v p old g at l (omega (arith, known)))
  receive-fits limit (ArithRight o n right at) g l known = (under-fits item raw on_birth on_death credit each small limit (ArithWith o n g at) (Evaluate right None) l (omega (arith, known)))
  receive-fits limit (ArithWith o n left at) g l known = (arithmetic-fits item raw on_birth on_death credit each small limit o n left g at l (omega (arith, known)))
  receive-fits limit (ConvertTo n) g l known = (converted-fits item raw on_birth on_death credit each small limit n g l (omega (arith, known)))
  receive-fits limit TestOf g l known = (tested-fits item raw on_birth on_death credit each small limit g l (omega (arith, known)))
  receive-fits limit (SameRight right at) g l known = (under-fits item raw on_birth on_death credit each small limit (SameWith g at) (Evaluate right None) l (omega (arith, known)))
  receive-fits limit (SameWith left at) g l known = (compared_with-fits item raw on_birth on_death credit each small limit left g at l (omega (arith, known)))
  receive-fits limit (BothRight right) g l known = (both-fits item raw on_birth on_death credit each small limit right g l (omega (arith, known)))
  receive-fits limit (EitherRight right) g l known = (either-fits item raw on_birth on_death credit each small limit right g l (omega (arith, known)))
  receive-fits limit (PickOne x y) g l known = (picks-fits item raw on_birth on_death credit each small limit x y g l (omega (arith, known)))
  receive-fits limit Joined g l known = (gives-fits item raw on_birth on_death credit each small limit g l (omega (arith, known)))
  receive-fits limit (ThrowOf of at) g l known = (throws-fits item raw on_birth on_death credit each small limit of g at l (omega (arith, known)))
  receive-fits limit (ThrowRead class) g l known = (leaves-fits item raw on_birth on_death credit each small limit (Throwing (thrown_object class (values_given g))) l (omega (arith, known)))
  receive-fits limit (RethrowOf at) g l known = (rethrow_parts-fits item raw on_birth on_death credit each small limit g at l (omega (arith, known)))
  receive-fits limit (Operands o given rest at) g l known = (operand-fits limit o (g ∷ given) (drop 1 rest) at l (omega (arith, known)))
  receive-fits limit (CompareAt p expected (Scalar desired) at) g l known = (on_scalar-fits limit (λ wanted. compare p expected wanted desired at l) g (λ wanted. (compare-fits item raw on_birth on_death credit each small limit p expected wanted desired at l (omega (arith, known)))))
  receive-fits limit (Calling call) g l known = (under-fits item raw on_birth on_death credit each small limit (Calling (record call { given = g ∷ call.given })) (Comes Passes) l (omega (arith, known)))
  receive-fits limit (Called objects) g l known = (call_returned-fits item raw on_birth on_death credit each small limit objects (Gives g) l (omega (arith, known)))
  receive-fits limit (NewTaken plan) g l known = (on_scalar-fits limit (λ v. new_taken plan v l) g (λ v. (new_taken-fits item raw on_birth on_death credit each small limit plan v l (omega (arith, known)))))
  receive-fits limit (DeleteOf plan) g l known = (on_scalar-fits limit (λ v. delete_of plan v l) g (λ v. (delete_of-fits item raw on_birth on_death credit each small limit plan v l (omega (arith, known)))))
  receive-fits limit (AwaitOperand plan into) g l known = (await_operand-fits item raw on_birth on_death credit each small limit plan into g l (omega (arith, known)))
  receive-fits limit (AwaitReady plan into) g l known = (on_truth-fits limit (λ ready. await_ready plan into ready l) g (λ ready. (await_ready-fits item raw on_birth on_death credit each small limit plan into ready l (omega (arith, known)))))
  receive-fits limit (Answers n serial a own at) g l known = (answers-fits item raw on_birth on_death credit each small limit n serial a own g at l (omega (arith, known)))
  receive-fits limit (ValueInto p at) g l known = (put-fits item raw on_birth on_death credit each small limit true p g Passes at l (omega (arith, known)))
  receive-fits limit ResultInto g l known = (passes-fits item raw on_birth on_death credit each small limit l (omega (arith, known)))
  receive-fits limit (ChooseOne x y p) g l known = (chooses-fits item raw on_birth on_death credit each small limit x y p g l (omega (arith, known)))
  receive-fits limit (Ends rest outcome) g l known = (end_next-fits item raw on_birth on_death credit each small limit rest outcome l (omega (arith, known)))
  receive-fits limit (ObjectEnds x) g l known = (goes-fits item raw on_birth on_death credit each small limit (Dies x) l (omega (arith, known)))
  receive-fits limit (PartEnds p) g l known = (passes-fits item raw on_birth on_death credit each small limit (with_store (end_part (classes l) p (store l)) l) (let f0 = same item raw on_birth on_death credit each small (end_part (classes l) p (store l)) (store l) (end_part-count (classes l) p (store l)) in omega (arith, known, f0)))
  receive-fits limit Drops g l known = (passes-fits item raw on_birth on_death credit each small limit l (omega (arith, known)))
  receive-fits limit (Full ts) g l known = (ends-fits item raw on_birth on_death credit each small limit (temporaries_end ts) (Gives g) l (let f0 = temporaries-end item raw on_birth on_death credit each small ts in omega (arith, known, f0)))
  receive-fits limit (BranchOn x y) g l known = (branch-fits item raw on_birth on_death credit each small limit x y g l (omega (arith, known)))
  receive-fits limit (LoopTest e step body) g l known = (loop_tested-fits item raw on_birth on_death credit each small limit e step body g l (omega (arith, known)))
  receive-fits limit Returns g l known = (leaves-fits item raw on_birth on_death credit each small limit (Returning g) l (omega (arith, known)))
  receive-fits limit RampTaken g l known = (on_scalar-fits limit (λ v. ramp_taken v l) g (λ v. (ramp_taken-fits item raw on_birth on_death credit each small limit v l (omega (arith, known)))))
  receive-fits limit RampBody g l known = (ramp_body-fits item raw on_birth on_death credit each small limit l (omega (arith, known)))
  receive-fits limit RampDone g l known = (passes-fits item raw on_birth on_death credit each small limit l (omega (arith, known)))
  receive-fits limit NullDone g l known = (passes-fits item raw on_birth on_death credit each small limit l (omega (arith, known)))
  receive-fits limit f g l known = tt

  abbrev IfFits : ℕ → Option (Option Turned) → Type 0
  IfFits limit None = Unit {0}
  IfFits limit (Some t) = Fits item raw on_birth on_death credit each limit t

  suspends_before-fits : (limit : ℕ) (call : Call) (fs : List Frame) (l : Local) → frames_weigh item raw on_birth on_death credit each fs + rest_weighs item raw on_birth on_death credit each l + each ≤ limit + credits item raw on_birth on_death credit each l.seen → IfFits limit (suspends_before call fs l)
  suspends_before-fits limit call (AwaitSuspend plan into own ∷ fs) l known = suspend-fits item raw on_birth on_death credit each small limit l.top.coroutine plan into own (Calling call ∷ []) Passes (with_frames fs l) (omega (arith, known))
  suspends_before-fits limit call (LoadFrom at ∷ AwaitSuspend plan into own ∷ fs) l known = suspend-fits item raw on_birth on_death credit each small limit l.top.coroutine plan into own (Calling call ∷ LoadFrom at ∷ []) Passes (with_frames fs l) (omega (arith, known))
  suspends_before-fits limit call fs l known = tt

  or_enter-fits : (limit : ℕ) (call : Call) (l : Local) (t : Option (Option Turned)) → IfFits limit t → local_weighs item raw on_birth on_death credit each l + each ≤ limit + credits item raw on_birth on_death credit each l.seen → Fits item raw on_birth on_death credit each limit (or_enter call l t)
  or_enter-fits limit call l None fits known = enter-fits item raw on_birth on_death credit each small limit call l known
  or_enter-fits limit call l (Some t) fits known = fits

  call_next-fits : (limit : ℕ) (call : Call) (l : Local) (rest : List Init) → local_weighs item raw on_birth on_death credit each l + each ≤ limit + credits item raw on_birth on_death credit each l.seen → Fits item raw on_birth on_death credit each limit (call_next call l rest)
  call_next-fits limit call l [] known = or_enter-fits limit call l (suspends_before call l.top.frames l) (suspends_before-fits limit call l.top.frames l known) known
  call_next-fits limit call l (i ∷ rest) known = argument-fits item raw on_birth on_death credit each small limit (record call { rest = rest }) i l (omega (arith, known))

  pub call_on-fits : (limit : ℕ) (y0 : Call) (y1 : Local) → local_weighs item raw on_birth on_death credit each y1 + each ≤ limit + credits item raw on_birth on_death credit each y1.seen → Fits item raw on_birth on_death credit each limit (call_on y0 y1)
  call_on-fits limit call l known = (call_next-fits limit call l call.rest (omega (arith, known)))

  pub pass-fits : (limit : ℕ) (y0 : Frame) (y1 : Local) → frame_weighs item raw on_birth on_death credit each y0 + (local_weighs item raw on_birth on_death credit each y1) + each ≤ limit + credits item raw on_birth on_death credit each y1.seen → Fits item raw on_birth on_death credit each limit (pass y0 y1)
  pass-fits limit Joined l known = (passes-fits item raw on_birth on_death credit each small limit l (omega (arith, known)))
  pass-fits limit (TempMade slot x) l known = (temporary_made-fits item raw on_birth on_death credit each small limit slot x l (omega (arith, known)))
  pass-fits limit (Operands o given rest at) l known = (operand-fits limit o given rest at l (omega (arith, known)))
  pass-fits limit (Calling call) l known = (call_on-fits limit call l (omega (arith, known)))
  pass-fits limit (ArgumentMade x) l known = (argument_lives-fits item raw on_birth on_death credit each small limit x l.top.frames l (omega (arith, known)))
  pass-fits limit (NewMade x b plan) l known = (new_made-fits item raw on_birth on_death credit each small limit x l (omega (arith, known)))
  pass-fits limit (DeleteEnded x b plan) l known = (delete_ended-fits item raw on_birth on_death credit each small limit x b plan l (omega (arith, known)))
  pass-fits limit (AwaitResume plan into) l known = (await_resume-fits item raw on_birth on_death credit each small limit plan into l (omega (arith, known)))
  pass-fits limit FieldMade l known = (field_made-fits item raw on_birth on_death credit each small limit l (omega (arith, known)))
  pass-fits limit (Building p built rest) l known = (next_element-fits item raw on_birth on_death credit each small limit p built rest l (omega (arith, known)))
  pass-fits limit (Constructing p class built rest body) l known = (next_member-fits item raw on_birth on_death credit each small limit p class built rest body l (omega (arith, known)))
  pass-fits limit (FieldsEnd p class) l known = (ends-fits item raw on_birth on_death credit each small limit (fields_end p (all_fields p l)) Passes l (let f0 = fields-weigh item raw on_birth on_death credit each small p (all_fields p l) in omega (arith, known, f0)))
  pass-fits limit (Ends rest outcome) l known = (end_next-fits item raw on_birth on_death credit each small limit rest outcome l (omega (arith, known)))
  pass-fits limit Drops l known = (passes-fits item raw on_birth on_death credit each small limit l (omega (arith, known)))
  pass-fits limit (Full ts) l known = (ends-fits item raw on_birth on_death credit each small limit (temporaries_end ts) Passes l (let f0 = temporaries-end item raw on_birth on_death credit each small ts in omega (arith, known, f0)))
  pass-fits limit (Scope alive rest) l known = (next_statement-fits item raw on_birth on_death credit each small limit alive rest l (omega (arith, known)))
  pass-fits limit (Declares x) l known = (declares-fits item raw on_birth on_death credit each small limit x l (omega (arith, known)))
  pass-fits limit (LoopBody e step body) l known = (loop_body-fits item raw on_birth on_death credit each small limit e step body l (omega (arith, known)))
  pass-fits limit (LoopStep e step body) l known = (loop_step-fits item raw on_birth on_death credit each small limit e step body l (omega (arith, known)))
  pass-fits limit Returns l known = (leaves-fits item raw on_birth on_death credit each small limit (Returning Nothing) l (omega (arith, known)))
  pass-fits limit (Tries handlers) l known = (passes-fits item raw on_birth on_death credit each small limit l (omega (arith, known)))
  pass-fits limit Handled l known = (handler_left-fits item raw on_birth on_death credit each small limit Passes l (omega (arith, known)))
  pass-fits limit Border l known = (passes-fits item raw on_birth on_death credit each small limit l (omega (arith, known)))
  pass-fits limit (Function own) l known = (ends-fits item raw on_birth on_death credit each small limit (unseen_endings own) (Gives Nothing) l (let f0 = unseen-weigh item raw on_birth on_death credit each small own in omega (arith, known, f0)))
  pass-fits limit RampTake l known = (ramp_take-fits item raw on_birth on_death credit each small limit l (omega (arith, known)))
  pass-fits limit (RampCopies rest) l known = (ramp_copies-fits item raw on_birth on_death credit each small limit rest l (omega (arith, known)))
  pass-fits limit (RampMade x) l known = (ramp_made-fits item raw on_birth on_death credit each small limit x l (omega (arith, known)))
  pass-fits limit RampResult l known = (ramp_result-fits item raw on_birth on_death credit each small limit l (omega (arith, known)))
  pass-fits limit (Holds hold) l known = (hold_left-fits item raw on_birth on_death credit each small limit hold Passes l (omega (arith, known)))
  pass-fits limit (Closes n b outcome) l known = (closes-fits item raw on_birth on_death credit each small limit n b outcome l (omega (arith, known)))
  pass-fits limit Started l known = (started-fits item raw on_birth on_death credit each small limit l (omega (arith, known)))
  pass-fits limit (Guards resumed) l known = (final_await-fits item raw on_birth on_death credit each small limit l (omega (arith, known)))
  pass-fits limit Unhandled l known = (final_await-fits item raw on_birth on_death credit each small limit l (omega (arith, known)))
  pass-fits limit f l known = tt

  pub constructor_left-fits : (limit : ℕ) (y0 : Place) (y1 : ℕ) (y2 : Going) (y3 : Local) → local_weighs item raw on_birth on_death credit each y3 + each ≤ limit + credits item raw on_birth on_death credit each y3.seen → Fits item raw on_birth on_death credit each limit (constructor_left y0 y1 y2 y3)
  constructor_left-fits limit p built (Throwing v) l known = (ends-fits item raw on_birth on_death credit each small limit (fields_end p built) (Goes (Throwing v)) l (let f0 = fields-weigh item raw on_birth on_death credit each small p built in omega (arith, known, f0)))
  constructor_left-fits limit p built going l known = (leaves-fits item raw on_birth on_death credit each small limit going l (omega (arith, known)))

  pub leave-fits : (limit : ℕ) (y0 : Frame) (y1 : Going) (y2 : Local) → frame_weighs item raw on_birth on_death credit each y0 + (local_weighs item raw on_birth on_death credit each y2) + each ≤ limit + credits item raw on_birth on_death credit each y2.seen → Fits item raw on_birth on_death credit each limit (leave y0 y1 y2)
  leave-fits limit (TempMade slot x) going l known = (abandon-fits item raw on_birth on_death credit each small limit x.object (Goes going) l (omega (arith, known)))
  leave-fits limit (ArgumentMade x) going l known = (abandon-fits item raw on_birth on_death credit each small limit x (Goes going) l (omega (arith, known)))
  leave-fits limit (Declares x) going l known = (abandon-fits item raw on_birth on_death credit each small limit x.object (Goes going) l (omega (arith, known)))
  leave-fits limit (RampMade x) going l known = (abandon-fits item raw on_birth on_death credit each small limit x.object (Goes going) l (omega (arith, known)))
  leave-fits limit (NewMade x b plan) going l known = (new_left-fits item raw on_birth on_death credit each small limit x b plan (Goes going) l (omega (arith, known)))
  leave-fits limit (Calling call) going l known = (call_returned-fits item raw on_birth on_death credit each small limit call.objects (Goes going) l (omega (arith, known)))
  leave-fits limit (Called objects) going l known = (call_returned-fits item raw on_birth on_death credit each small limit objects (Goes going) l (omega (arith, known)))
  leave-fits limit (AwaitSuspend plan into own) going l known = (call_returned-fits item raw on_birth on_death credit each small limit own (Goes going) l (omega (arith, known)))
  leave-fits limit (Answers n serial a own at) going l known = (answer_left-fits item raw on_birth on_death credit each small limit n serial a own going at l (omega (arith, known)))
  leave-fits limit (Building p built rest) going l known = (ends-fits item raw on_birth on_death credit each small limit (fields_end p built) (Goes going) l (let f0 = fields-weigh item raw on_birth on_death credit each small p built in omega (arith, known, f0)))
  leave-fits limit (Constructing p class built rest body) going l known = (constructor_left-fits limit p built going l (omega (arith, known)))
  leave-fits limit (FieldsEnd p class) going l known = (ends-fits item raw on_birth on_death credit each small limit (fields_end p (all_fields p l)) (Goes going) l (let f0 = fields-weigh item raw on_birth on_death credit each small p (all_fields p l) in omega (arith, known, f0)))
  leave-fits limit (Ends rest outcome) going l known = (ends-fits item raw on_birth on_death credit each small limit rest (Goes going) l (omega (arith, known)))
  leave-fits limit (ObjectEnds x) going l known = (goes-fits item raw on_birth on_death credit each small limit (Dies x) (pushed (Ends [] (Goes going)) l) (omega (arith, known)))
  leave-fits limit (PartEnds p) going l known = (leaves-fits item raw on_birth on_death credit each small limit going (with_store (end_part (classes l) p (store l)) l) (let f0 = same item raw on_birth on_death credit each small (end_part (classes l) p (store l)) (store l) (end_part-count (classes l) p (store l)) in omega (arith, known, f0)))
  leave-fits limit (Full ts) going l known = (ends-fits item raw on_birth on_death credit each small limit (temporaries_end ts) (Goes going) l (let f0 = temporaries-end item raw on_birth on_death credit each small ts in omega (arith, known, f0)))
  leave-fits limit (Scope alive rest) going l known = (ends-fits item raw on_birth on_death credit each small limit (endings alive) (Goes going) l (let f0 = endings-weigh item raw on_birth on_death credit each small alive in omega (arith, known, f0)))
  leave-fits limit (LoopBody e step body) going l known = (loop_left-fits item raw on_birth on_death credit each small limit e step body going l (omega (arith, known)))
  leave-fits limit (Tries handlers) going l known = (try_left-fits item raw on_birth on_death credit each small limit handlers going l (omega (arith, known)))
  leave-fits limit Handled going l known = (handler_left-fits item raw on_birth on_death credit each small limit (Goes going) l (omega (arith, known)))
  leave-fits limit Border going l known = (at_border-fits item raw on_birth on_death credit each small limit going l (omega (arith, known)))
  leave-fits limit (Function own) going l known = (function_left-fits item raw on_birth on_death credit each small limit own going l (omega (arith, known)))
  leave-fits limit RampDone going l known = (result_ends-fits limit l.top.into going l (omega (arith, known)))
  leave-fits limit (Holds hold) going l known = (hold_left-fits item raw on_birth on_death credit each small limit hold (after_end going) l (omega (arith, known)))
  leave-fits limit (Guards resumed) going l known = (guard_left-fits item raw on_birth on_death credit each small limit resumed going l (omega (arith, known)))
  leave-fits limit Unhandled going l known = (unhandled_left-fits item raw on_birth on_death credit each small limit going l (omega (arith, known)))
  leave-fits limit f going l known = (leaves-fits item raw on_birth on_death credit each small limit going l (omega (arith, known)))

  pub come-fits : (limit : ℕ) (y0 : List Frame) (y1 : Outcome) (y2 : Local) → frames_weigh item raw on_birth on_death credit each y0 + (rest_weighs item raw on_birth on_death credit each y2) + each ≤ limit + credits item raw on_birth on_death credit each y2.seen → Fits item raw on_birth on_death credit each limit (come y0 y1 y2)
  come-fits limit [] outcome l known = (last_frame-fits item raw on_birth on_death credit each small limit outcome (with_frames [] l) (omega (arith, known)))
  come-fits limit (f ∷ fs) (Gives g) l known = (receive-fits limit f g (with_frames fs l) (omega (arith, known)))
  come-fits limit (f ∷ fs) Passes l known = (pass-fits limit f (with_frames fs l) (omega (arith, known)))
  come-fits limit (f ∷ fs) (Goes going) l known = (leave-fits limit f going (with_frames fs l) (omega (arith, known)))

  pub act-fits : (limit : ℕ) (y0 : Doing) (y1 : Local) → doing_weighs item raw on_birth on_death credit each y0 + (local_weighs item raw on_birth on_death credit each y1) + each ≤ limit + credits item raw on_birth on_death credit each y1.seen → Fits item raw on_birth on_death credit each limit (act y0 y1)
  act-fits limit Idle l known = tt
  act-fits limit (Evaluate e into) l known = (evaluate-fits item raw on_birth on_death credit each small limit e into l (omega (arith, known)))
  act-fits limit (Awaits plan into) l known = (under-fits item raw on_birth on_death credit each small limit (AwaitOperand plan into) (Evaluate plan.operand None) l (omega (arith, known)))
  act-fits limit (Initialize i p) l known = (initialize-fits item raw on_birth on_death credit each small limit i p l (omega (arith, known)))
  act-fits limit (Execute s) l known = (execute-fits item raw on_birth on_death credit each small limit s l (omega (arith, known)))
  act-fits limit (Opens marks d) l known = (open_step-fits item raw on_birth on_death credit each small limit marks d l (omega (arith, known)))
  act-fits limit (Reads p left done at) l known = (reads-fits item raw on_birth on_death credit each small limit p left done at l (omega (arith, known)))
  act-fits limit (Writes initial p done left outcome at) l known = (writes-fits item raw on_birth on_death credit each small limit initial p done left outcome at l (omega (arith, known)))
  act-fits limit (Comes outcome) l known = (come-fits limit l.top.frames outcome l (omega (arith, known)))
  act-fits limit (IsBorn x spot outcome) l known = (is_born-fits item raw on_birth on_death credit each small limit x spot outcome l (omega (arith, known)))
  act-fits limit (Dies x) l known = (dies-fits item raw on_birth on_death credit each small limit x l (omega (arith, known)))
  act-fits limit (HasDied c x) l known = (has_died-fits item raw on_birth on_death credit each small limit c x l (omega (arith, known)))
  act-fits limit (Draws b) l known = (draws-fits item raw on_birth on_death credit each small limit b l (omega (arith, known)))
  act-fits limit (IsMade n) l known = (is_made-fits item raw on_birth on_death credit each small limit n l (omega (arith, known)))
  act-fits limit (HasEnded n b outcome) l known = (has_ended-fits item raw on_birth on_death credit each small limit n b outcome l (omega (arith, known)))
  act-fits limit (Releases b words give outcome at) l known = (releases-fits item raw on_birth on_death credit each small limit b words give outcome at l (omega (arith, known)))
