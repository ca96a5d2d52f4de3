-- A step keeps the frames in order.
use Rattle.std.proofs.Common.{ℕ, ◌+◌, ◌≤◌, List, [], ◌∷◌, Bool, true, false, Some, None, arith, refl}
use Rattle.std.specs.Prelude.{drop, not, Option}
use Rattle.co_base.specs.declared.span.Span.{Span}
use Rattle.co_core_tree.specs.declared.exprs.CoreExpr.{CoreExpr}
use Rattle.co_core_tree.specs.declared.exprs.Init.{Init}
use Rattle.co_meaning_data.specs.Access.{compare, load, put}
use Rattle.co_meaning_data.specs.Frames.{AddressOf, Answers, ArgumentMade, ArithRight, ArithWith, At, AwaitOperand, AwaitReady, AwaitResume, AwaitSuspend, Awaits, Border, BothRight, BranchOn, Building, Call, Called, Calling, ChooseOne, Closes, Comes, CompareAt, Constructing, ConvertTo, Declares, DeleteEnded, DeleteOf, Dies, Doing, Draws, Drops, EitherRight, Ends, EndsPart, Evaluate, ExchangeFrom, ExchangePlace, ExchangeWith, Execute, FieldMade, FieldOf, FieldsEnd, Frame, Full, Function, Given, Gives, Goes, Going, Guards, Handled, HasDied, HasEnded, Holds, Idle, Initialize, IsBorn, IsMade, Joined, LoadFrom, LoopBody, LoopStep, LoopTest, NewMade, NewTaken, Nothing, NullDone, ObjectEnds, Opens, Operands, Operation, Outcome, PartEnds, Passes, PickOne, RampBody, RampCopies, RampDone, RampMade, RampResult, RampTake, RampTaken, Reads, Referent, Releases, ResultInto, RethrowOf, Returns, SameRight, SameWith, Scalar, Scope, Started, StoreInto, StoreValue, TempMade, TestOf, ThrowOf, ThrowRead, Throwing, Tries, Unhandled, UpdateAt, UpdateFrom, UpdateValue, ValueInto, Writes}
use Rattle.co_meaning_data.specs.Store.{Place, field_of_place}
use Rattle.co_meaning_data.specs.Turn.{Local, Turned, gives, pointer, pushed, under, with_frames}
use Rattle.co_meaning_data.specs.declared.values.Value.{Value}
use Rattle.co_meaning_data.specs.declared.values.Value.TheVariants as value
use Rattle.co_meaning_calls.specs.Coroutines.{await_ready, after_end, is_zero, ramp_taken, suspends_before}
use Rattle.co_meaning_calls.specs.Objects.{unseen_endings, endings, fields_end, temporaries_end}
use Rattle.co_meaning.specs.Expressions.{delete_of, new_taken}
use Rattle.co_meaning.specs.Step.{on_place, on_scalar, on_truth, operand, result_ends, receive, or_enter, call_next, call_on, all_fields, pass, constructor_left, leave, come, act}
use Rattle.co_meaning_balance.proofs.AccessOrder.{reads-order, load-order, writes-order, put-order, compare-order}
use Rattle.co_meaning_balance.proofs.CallsOrder.{open_step-order, argument-order, argument_lives-order, enter-order, next_member-order, next_element-order, field_made-order, last_frame-order, function_left-order, at_border-order, call_returned-order}
use Rattle.co_meaning_balance.proofs.CoroutinesOrder.{releases-order, ramp_take-order, ramp_taken-order, draws-order, is_made-order, ramp_copies-order, ramp_made-order, ramp_result-order, ramp_body-order, started-order, final_await-order, guard_left-order, unhandled_left-order, hold_left-order, closes-order, has_ended-order, await_operand-order, await_resume-order, suspend-order, await_ready-order, answers-order, answer_left-order}
use Rattle.co_meaning_balance.proofs.ExpressionsOrder.{dereferenced-order, arithmetic-order, converted-order, updated-order, tested-order, compared_with-order, both-order, either-order, picks-order, chooses-order, temporary_made-order, throws-order, rethrow_parts-order, new_taken-order, new_made-order, new_left-order, delete_of-order, delete_ended-order, evaluate-order, initialize-order}
use Rattle.co_meaning_balance.proofs.Frames.{few}
use Rattle.co_meaning_balance.proofs.LibraryOrder.{operate-order}
use Rattle.co_meaning_balance.proofs.ObjectsOrder.{is_born-order, ends-order, end_next-order, dies-order, has_died-order, abandon-order}
use Rattle.co_meaning_balance.proofs.StatementsOrder.{declares-order, execute-order, next_statement-order, branch-order, loop_tested-order, loop_body-order, loop_step-order, loop_left-order, try_left-order, handler_left-order}
use Rattle.co_meaning_balance.specs.Order.{InOrder, call_needs, doing_strays, frame_strays, frames_hold, frames_inner, frames_stray, local_strays, needs, open_strays, rest_strays}

on_place-order : (f : Place → Option Turned) (g : Given) → ((p : Place) → InOrder (f p)) → InOrder (on_place f g)
on_place-order f (At p) fits = fits p
on_place-order f g fits = tt

on_scalar-order : (f : Value → Option Turned) (g : Given) → ((v : Value) → InOrder (f v)) → InOrder (on_scalar f g)
on_scalar-order f (Scalar v) fits = fits v
on_scalar-order f g fits = tt

on_truth-order : (f : Bool → Option Turned) (g : Given) → ((b : Bool) → InOrder (f b)) → InOrder (on_truth f g)
on_truth-order f (Scalar (value.Number n z)) fits = fits (not (is_zero z))
on_truth-order f g fits = tt

operand-order : (o : Operation) (given : List Given) (list : List CoreExpr) (at : Span) (l : Local) → open_strays l ≤ 0 → InOrder (operand o given list at l)
operand-order o given [] at l known = operate-order o given at l (omega (arith, known))
operand-order o given (e ∷ rest) at l known = omega (arith, known)

result_ends-order : (o : Option Place) (going : Going) (l : Local) → local_strays l ≤ 0 → InOrder (result_ends o going l)
result_ends-order None going l known = omega (arith, known)
result_ends-order (Some p) going l known = ends-order (EndsPart p ∷ []) (Goes going) l (omega (arith, known))

receive-order : (f : Frame) (g : Given) (l : Local) → frame_strays l.top.coroutine (frames_hold l.top.coroutine l.top.frames) (frames_inner l.top.frames) f + local_strays l ≤ 0 → InOrder (receive f g l)
receive-order (FieldOf k) g l known = on_place-order (λ p. gives (At (field_of_place p k)) l) g (λ p. (omega (arith, known)))
receive-order (Referent at) g l known = dereferenced-order g at l (omega (arith, known))
receive-order AddressOf g l known = on_place-order (λ p. gives (Scalar (pointer p)) l) g (λ p. (omega (arith, known)))
receive-order (LoadFrom at) g l known = on_place-order (λ p. load p at l) g (λ p. (load-order p at l (omega (arith, known))))
receive-order (StoreValue place at) g l known = omega (arith, known)
receive-order (StoreInto new at) g l known = on_place-order (λ p. put false p new (Gives (At p)) at l) g (λ p. (put-order false p new (Gives (At p)) at l (omega (arith, known))))
receive-order (ExchangePlace e at) g l known = on_place-order (λ p. under (ExchangeWith p at) (Evaluate e None) l) g (λ p. (omega (arith, known)))
receive-order (ExchangeWith p at) g l known = load-order p at (pushed (ExchangeFrom p g at) l) (omega (arith, known))
receive-order (ExchangeFrom p new at) g l known = put-order false p new (Gives g) at l (omega (arith, known))
receive-order (UpdateValue o n place old at) g l known = omega (arith, known)
receive-order (UpdateAt o n v old at) g l known = on_place-order (λ p. load p at (pushed (UpdateFrom o n v p old at) l)) g (λ p. (load-order p at (pushed (UpdateFrom o n v p old at) l) (omega (arith, known))))
receive-order (UpdateFrom o n v p old at) g l known = updated-order o n v p old g at l (omega (arith, known))
receive-order (ArithRight o n right at) g l known = omega (arith, known)
receive-order (ArithWith o n left at) g l known = arithmetic-order o n left g at l (omega (arith, known))
receive-order (ConvertTo n) g l known = converted-order n g l (omega (arith, known))
receive-order TestOf g l known = tested-order g l (omega (arith, known))
receive-order (SameRight right at) g l known = omega (arith, known)
receive-order (SameWith left at) g l known = compared_with-order left g at l (omega (arith, known))
receive-order (BothRight right) g l known = both-order right g l (omega (arith, known))
receive-order (EitherRight right) g l known = either-order right g l (omega (arith, known))
receive-order (PickOne x y) g l known = picks-order x y g l (omega (arith, known))
receive-order Joined g l known = omega (arith, known)
receive-order (ThrowOf of at) g l known = throws-order of g at l (omega (arith, known))
receive-order (ThrowRead class) g l known = omega (arith, known)
receive-order (RethrowOf at) g l known = rethrow_parts-order g at l (omega (arith, known))
receive-order (Operands o given rest at) g l known = operand-order o (g ∷ given) (drop 1 rest) at l (omega (arith, known))
receive-order (CompareAt p expected (Scalar desired) at) g l known = on_scalar-order (λ wanted. compare p expected wanted desired at l) g (λ wanted. (compare-order p expected wanted desired at l (omega (arith, known))))
receive-order (Calling call) g l known = omega (arith, known)
receive-order (Called objects) g l known = call_returned-order objects (Gives g) l (omega (arith, known))
receive-order (NewTaken plan) g l known = on_scalar-order (λ v. new_taken plan v l) g (λ v. (new_taken-order plan v l (omega (arith, known))))
receive-order (DeleteOf plan) g l known = on_scalar-order (λ v. delete_of plan v l) g (λ v. (delete_of-order plan v l (omega (arith, known))))
receive-order (AwaitOperand plan into) g l known = await_operand-order plan into g l (omega (arith, known))
receive-order (AwaitReady plan into) g l known = on_truth-order (λ ready. await_ready plan into ready l) g (λ ready. (await_ready-order plan into ready l (omega (arith, known))))
receive-order (Answers n serial a own at) g l known = answers-order n serial a own g at l (omega (arith, known))
receive-order (ValueInto p at) g l known = put-order true p g Passes at l (omega (arith, known))
receive-order ResultInto g l known = omega (arith, known)
receive-order (ChooseOne x y p) g l known = chooses-order x y p g l (omega (arith, known))
receive-order (Ends rest outcome) g l known = end_next-order rest outcome l (omega (arith, known))
receive-order (ObjectEnds x) g l known = omega (arith, known)
receive-order (PartEnds p) g l known = omega (arith, known)
receive-order Drops g l known = omega (arith, known)
receive-order (Full ts) g l known = ends-order (temporaries_end ts) (Gives g) l (omega (arith, known))
receive-order (BranchOn x y) g l known = branch-order x y g l (omega (arith, known))
receive-order (LoopTest e step body) g l known = loop_tested-order e step body g l (omega (arith, known))
receive-order Returns g l known = omega (arith, known)
receive-order RampTaken g l known = on_scalar-order (λ v. ramp_taken v l) g (λ v. (ramp_taken-order v l (omega (arith, known))))
receive-order RampBody g l known = ramp_body-order l (omega (arith, known))
receive-order RampDone g l known = omega (arith, known)
receive-order NullDone g l known = omega (arith, known)
receive-order f g l known = tt

abbrev IfSuspended : Option (Option Turned) → Type 0
IfSuspended None = Unit {0}
IfSuspended (Some t) = InOrder t

suspends_before-order : (call : Call) (fs : List Frame) (l : Local) → frames_stray l.top.coroutine fs + rest_strays l ≤ 0 → IfSuspended (suspends_before call fs l)
suspends_before-order call (AwaitSuspend plan into own ∷ fs) l known =
    suspend-order l.top.coroutine plan into own (Calling call ∷ []) Passes (with_frames fs l) refl (λ n serial. let none = few 0 call.rest in omega (arith, none)) (omega (arith, known))
suspends_before-order call (LoadFrom at ∷ AwaitSuspend plan into own ∷ fs) l known =
    suspend-order l.top.coroutine plan into own (Calling call ∷ LoadFrom at ∷ []) Passes (with_frames fs l) refl (λ n serial. let none = few 0 call.rest in omega (arith, none)) (omega (arith, known))
suspends_before-order call fs l known = tt

or_enter-order : (call : Call) (l : Local) (t : Option (Option Turned)) → IfSuspended t → local_strays l ≤ 0 → InOrder (or_enter call l t)
or_enter-order call l None fits known = enter-order call l known
or_enter-order call l (Some t) fits known = fits

call_next-order : (call : Call) (l : Local) (rest : List Init) → call_needs (needs l.top.coroutine (frames_hold l.top.coroutine l.top.frames)) rest + local_strays l ≤ 0 → InOrder (call_next call l rest)
call_next-order call l [] known = or_enter-order call l (suspends_before call l.top.frames l) (suspends_before-order call l.top.frames l (omega (arith, known))) (omega (arith, known))
call_next-order call l (i ∷ rest) known = argument-order (record call { rest = rest }) i l (omega (arith, known))

call_on-order : (call : Call) (l : Local) → call_needs (needs l.top.coroutine (frames_hold l.top.coroutine l.top.frames)) call.rest + local_strays l ≤ 0 → InOrder (call_on call l)
call_on-order call l known = call_next-order call l call.rest known

pass-order : (f : Frame) (l : Local) → frame_strays l.top.coroutine (frames_hold l.top.coroutine l.top.frames) (frames_inner l.top.frames) f + local_strays l ≤ 0 → InOrder (pass f l)
pass-order Joined l known = omega (arith, known)
pass-order (TempMade slot x) l known = temporary_made-order slot x l (omega (arith, known))
pass-order (Operands o given rest at) l known = operand-order o given rest at l (omega (arith, known))
pass-order (Calling call) l known = call_on-order call l (omega (arith, known))
pass-order (ArgumentMade x) l known = argument_lives-order x l.top.frames l (omega (arith, known))
pass-order (NewMade x b plan) l known = new_made-order x l (omega (arith, known))
pass-order (DeleteEnded x b plan) l known = delete_ended-order x b plan l (omega (arith, known))
pass-order (AwaitResume plan into) l known = await_resume-order plan into l (omega (arith, known))
pass-order FieldMade l known = field_made-order l (omega (arith, known))
pass-order (Building p built rest) l known = next_element-order p built rest l (omega (arith, known))
pass-order (Constructing p class built rest body) l known = next_member-order p class built rest body l (omega (arith, known))
pass-order (FieldsEnd p class) l known = ends-order (fields_end p (all_fields p l)) Passes l (omega (arith, known))
pass-order (Ends rest outcome) l known = end_next-order rest outcome l (omega (arith, known))
pass-order Drops l known = omega (arith, known)
pass-order (Full ts) l known = ends-order (temporaries_end ts) Passes l (omega (arith, known))
pass-order (Scope alive rest) l known = next_statement-order alive rest l (omega (arith, known))
pass-order (Declares x) l known = declares-order x l (omega (arith, known))
pass-order (LoopBody e step body) l known = loop_body-order e step body l (omega (arith, known))
pass-order (LoopStep e step body) l known = loop_step-order e step body l (omega (arith, known))
pass-order Returns l known = omega (arith, known)
pass-order (Tries handlers) l known = omega (arith, known)
pass-order Handled l known = handler_left-order Passes l (omega (arith, known))
pass-order Border l known = omega (arith, known)
pass-order (Function own) l known = ends-order (unseen_endings own) (Gives Nothing) l (omega (arith, known))
pass-order RampTake l known = ramp_take-order l (omega (arith, known))
pass-order (RampCopies rest) l known = ramp_copies-order rest l (omega (arith, known))
pass-order (RampMade x) l known = ramp_made-order x l (omega (arith, known))
pass-order RampResult l known = ramp_result-order l (omega (arith, known))
pass-order (Holds hold) l known = hold_left-order hold Passes l (omega (arith, known))
pass-order (Closes n b outcome) l known = closes-order n b outcome l (omega (arith, known))
pass-order Started l known = started-order l (omega (arith, known))
pass-order (Guards resumed) l known = final_await-order l (omega (arith, known))
pass-order Unhandled l known = final_await-order l (omega (arith, known))
pass-order f l known = tt

constructor_left-order : (p : Place) (built : ℕ) (going : Going) (l : Local) → open_strays l ≤ 0 → InOrder (constructor_left p built going l)
constructor_left-order p built (Throwing v) l known = ends-order (fields_end p built) (Goes (Throwing v)) l (omega (arith, known))
constructor_left-order p built going l known = omega (arith, known)

leave-order : (f : Frame) (going : Going) (l : Local) → frame_strays l.top.coroutine (frames_hold l.top.coroutine l.top.frames) (frames_inner l.top.frames) f + local_strays l ≤ 0 → InOrder (leave f going l)
leave-order (TempMade slot x) going l known = abandon-order x.object (Goes going) l (omega (arith, known))
leave-order (ArgumentMade x) going l known = abandon-order x (Goes going) l (omega (arith, known))
leave-order (Declares x) going l known = abandon-order x.object (Goes going) l (omega (arith, known))
leave-order (RampMade x) going l known = abandon-order x.object (Goes going) l (omega (arith, known))
leave-order (NewMade x b plan) going l known = new_left-order x b plan (Goes going) l (omega (arith, known))
leave-order (Calling call) going l known = call_returned-order call.objects (Goes going) l (omega (arith, known))
leave-order (Called objects) going l known = call_returned-order objects (Goes going) l (omega (arith, known))
leave-order (AwaitSuspend plan into own) going l known = call_returned-order own (Goes going) l (omega (arith, known))
leave-order (Answers n serial a own at) going l known = answer_left-order n serial a own going at l (omega (arith, known))
leave-order (Building p built rest) going l known = ends-order (fields_end p built) (Goes going) l (omega (arith, known))
leave-order (Constructing p class built rest body) going l known = constructor_left-order p built going l (omega (arith, known))
leave-order (FieldsEnd p class) going l known = ends-order (fields_end p (all_fields p l)) (Goes going) l (omega (arith, known))
leave-order (Ends rest outcome) going l known = ends-order rest (Goes going) l (omega (arith, known))
leave-order (ObjectEnds x) going l known = omega (arith, known)
leave-order (PartEnds p) going l known = omega (arith, known)
leave-order (Full ts) going l known = ends-order (temporaries_end ts) (Goes going) l (omega (arith, known))
leave-order (Scope alive rest) going l known = ends-order (endings alive) (Goes going) l (omega (arith, known))
leave-order (LoopBody e step body) going l known = loop_left-order e step body going l (omega (arith, known))
leave-order (Tries handlers) going l known = try_left-order handlers going l (omega (arith, known))
leave-order Handled going l known = handler_left-order (Goes going) l (omega (arith, known))
leave-order Border going l known = at_border-order going l (omega (arith, known))
leave-order (Function own) going l known = function_left-order own going l (omega (arith, known))
leave-order RampDone going l known = result_ends-order l.top.into going l (omega (arith, known))
leave-order (Holds hold) going l known = hold_left-order hold (after_end going) l (omega (arith, known))
leave-order (Guards resumed) going l known = guard_left-order resumed going l (omega (arith, known))
leave-order Unhandled going l known = unhandled_left-order going l (omega (arith, known))
leave-order f going l known = omega (arith, known)

come-order : (list : List Frame) (outcome : Outcome) (l : Local) → frames_stray l.top.coroutine list + rest_strays l ≤ 0 → InOrder (come list outcome l)
come-order [] outcome l known = last_frame-order outcome (with_frames [] l) (omega (arith, known))
come-order (f ∷ fs) (Gives g) l known = receive-order f g (with_frames fs l) (omega (arith, known))
come-order (f ∷ fs) Passes l known = pass-order f (with_frames fs l) (omega (arith, known))
come-order (f ∷ fs) (Goes going) l known = leave-order f going (with_frames fs l) (omega (arith, known))

pub act-order : (d : Doing) (l : Local) → doing_strays l.top.coroutine (frames_hold l.top.coroutine l.top.frames) (frames_inner l.top.frames) d + local_strays l ≤ 0 → InOrder (act d l)
act-order Idle l known = tt
act-order (Evaluate e into) l known = evaluate-order e into l (omega (arith, known))
act-order (Awaits plan into) l known = omega (arith, known)
act-order (Initialize i p) l known = initialize-order i p l (omega (arith, known))
act-order (Execute s) l known = execute-order s l (omega (arith, known))
act-order (Opens marks d) l known = open_step-order marks d l (omega (arith, known))
act-order (Reads p left done at) l known = reads-order p left done at l (omega (arith, known))
act-order (Writes initial p done left outcome at) l known = writes-order initial p done left outcome at l (omega (arith, known))
act-order (Comes outcome) l known = come-order l.top.frames outcome l (omega (arith, known))
act-order (IsBorn x spot outcome) l known = is_born-order x spot outcome l (omega (arith, known))
act-order (Dies x) l known = dies-order x l (omega (arith, known))
act-order (HasDied c x) l known = has_died-order c x l (omega (arith, known))
act-order (Draws b) l known = draws-order b l (omega (arith, known))
act-order (IsMade n) l known = is_made-order n l (omega (arith, known))
act-order (HasEnded n b outcome) l known = has_ended-order n b outcome l (omega (arith, known))
act-order (Releases b words give outcome at) l known = releases-order b words give outcome at l (omega (arith, known))
