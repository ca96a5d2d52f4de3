-- One step of an agent: what it does next, or what comes to the frame on top.
use Rattle.std.specs.Prelude.{ℕ, Bool, true, false, not, List, [], ◌∷◌, drop, length, Option, None, Some}
use Rattle.co_base.specs.declared.span.Span.{Span}
use Rattle.co_core_tree.specs.declared.exprs.CoreExpr.{CoreExpr}
use Rattle.co_core_tree.specs.declared.exprs.Init.{Init}
use Rattle.co_types.specs.declared.types.CoType.{CoType}
use Rattle.co_meaning_data.specs.declared.values.Value.{Value}
use Rattle.co_meaning_data.specs.declared.values.Value.TheVariants as value
use Rattle.co_meaning_data.specs.Frames.{AddressOf, Answers, ArgumentMade, ArithRight, ArithWith, At, AwaitOperand, AwaitReady, AwaitResume, AwaitSuspend, Awaits, Border, BothRight, BranchOn, Building, Call, Called, Calling, ChooseOne, Closes, Comes, CompareAt, Constructing, ConvertTo, Declares, DeleteEnded, DeleteOf, Dies, Doing, Draws, Drops, EitherRight, Ends, EndsPart, Evaluate, ExchangeFrom, ExchangePlace, ExchangeWith, Execute, FieldMade, FieldOf, FieldsEnd, Frame, Full, Function, Given, Gives, Goes, Going, Guards, Handled, HasDied, HasEnded, Holds, Idle, Initialize, IsBorn, IsMade, Joined, LoadFrom, LoopBody, LoopStep, LoopTest, NewMade, NewTaken, Nothing, NullDone, ObjectEnds, Opens, Operands, Operation, Outcome, PartEnds, Passes, PickOne, RampBody, RampCopies, RampDone, RampMade, RampResult, RampTake, RampTaken, Reads, Referent, Releases, ResultInto, RethrowOf, Returning, Returns, SameRight, SameWith, Scalar, Scope, Started, StoreInto, StoreValue, TempMade, TestOf, ThrowOf, ThrowRead, Throwing, Tries, Unhandled, UpdateAt, UpdateFrom, UpdateValue, ValueInto, Writes}
use Rattle.co_meaning_data.specs.Store.{Place, end_part, field_of_place, fields_of, type_at}
use Rattle.co_meaning_data.specs.Access.{compare, load, put, reads, writes}
use Rattle.co_meaning_calls.specs.Calls.{argument, argument_lives, at_border, call_returned, enter, field_made, function_left, last_frame, next_element, next_member, open_step}
use Rattle.co_meaning_calls.specs.Coroutines.{answer_left, answers, await_operand, await_ready, await_resume, closes, draws, final_await, guard_left, has_ended, hold_left, after_end, is_made, is_zero, ramp_body, ramp_copies, ramp_made, ramp_result, ramp_take, ramp_taken, releases, started, suspends_before, unhandled_left}
use Rattle.co_meaning.specs.Expressions.{arithmetic, both, chooses, compared_with, converted, delete_ended, delete_of, dereferenced, either, evaluate, initialize, new_left, new_made, new_taken, picks, rethrow_parts, temporary_made, tested, thrown_object, throws, updated, values_given}
use Rattle.co_meaning.specs.Library.{operate}
use Rattle.co_meaning_calls.specs.Objects.{unseen_endings, abandon, dies, end_next, endings, ends, fields_end, has_died, is_born, temporaries_end}
use Rattle.co_meaning.specs.Statements.{branch, declares, execute, handler_left, loop_body, loop_left, loop_step, loop_tested, next_statement, try_left}
use Rattle.co_meaning_data.specs.Turn.{Local, Turned, classes, gives, goes, leaves, passes, pointer, pushed, store, under, with_frames, with_store}

-- ---- a value comes to a frame

abbrev pub on_place : (Place → Option Turned) → Given → Option Turned
on_place f (At p) = f p
on_place f g = None

abbrev pub on_scalar : (Value → Option Turned) → Given → Option Turned
on_scalar f (Scalar v) = f v
on_scalar f g = None

abbrev pub on_truth : (Bool → Option Turned) → Given → Option Turned
on_truth f (Scalar (value.Number n z)) = f (not (is_zero z))
on_truth f g = None

abbrev pub operand : Operation → List Given → List CoreExpr → Span → Local → Option Turned
operand o given [] at l = operate o given at l
operand o given (e ∷ rest) at l = under (Operands o given (e ∷ rest) at) (Evaluate e None) l

abbrev pub result_ends : Option Place → Going → Local → Option Turned
result_ends None going l = leaves going l
result_ends (Some p) going l = ends (EndsPart p ∷ []) (Goes going) l

-- What a frame does with what the part above it has given. The frame is taken away.
abbrev pub receive : Frame → Given → Local → Option Turned
receive (FieldOf k) g l = on_place (λ p. gives (At (field_of_place p k)) l) g
receive (Referent at) g l = dereferenced g at l
receive AddressOf g l = on_place (λ p. gives (Scalar (pointer p)) l) g
receive (LoadFrom at) g l = on_place (λ p. load p at l) g
receive (StoreValue place at) g l = under (StoreInto g at) (Evaluate place None) l
receive (StoreInto new at) g l = on_place (λ p. put false p new (Gives (At p)) at l) g
receive (ExchangePlace e at) g l = on_place (λ p. under (ExchangeWith p at) (Evaluate e None) l) g
receive (ExchangeWith p at) g l = load p at (pushed (ExchangeFrom p g at) l)
receive (ExchangeFrom p new at) g l = put false p new (Gives g) at l
receive (UpdateValue o n place old at) g l = under (UpdateAt o n g old at) (Evaluate place None) l
receive (UpdateAt o n v old at) g l = on_place (λ p. load p at (pushed (UpdateFrom o n v p old at) l)) g
receive (UpdateFrom o n v p old at) g l = updated o n v p old g at l
receive (ArithRight o n right at) g l = under (ArithWith o n g at) (Evaluate right None) l
receive (ArithWith o n left at) g l = arithmetic o n left g at l
receive (ConvertTo n) g l = converted n g l
receive TestOf g l = tested g l
receive (SameRight right at) g l = under (SameWith g at) (Evaluate right None) l
receive (SameWith left at) g l = compared_with left g at l
receive (BothRight right) g l = both right g l
receive (EitherRight right) g l = either right g l
receive (PickOne x y) g l = picks x y g l
receive Joined g l = gives g l
receive (ThrowOf of at) g l = throws of g at l
receive (ThrowRead class) g l = leaves (Throwing (thrown_object class (values_given g))) l
receive (RethrowOf at) g l = rethrow_parts g at l
receive (Operands o given rest at) g l = operand o (g ∷ given) (drop 1 rest) at l
receive (CompareAt p expected (Scalar desired) at) g l = on_scalar (λ wanted. compare p expected wanted desired at l) g
receive (Calling call) g l = under (Calling (record call { given = g ∷ call.given })) (Comes Passes) l
receive (Called objects) g l = call_returned objects (Gives g) l
receive (NewTaken plan) g l = on_scalar (λ v. new_taken plan v l) g
receive (DeleteOf plan) g l = on_scalar (λ v. delete_of plan v l) g
receive (AwaitOperand plan into) g l = await_operand plan into g l
receive (AwaitReady plan into) g l = on_truth (λ ready. await_ready plan into ready l) g
receive (Answers n serial a own at) g l = answers n serial a own g at l
receive (ValueInto p at) g l = put true p g Passes at l
receive ResultInto g l = passes l
receive (ChooseOne x y p) g l = chooses x y p g l
receive (Ends rest outcome) g l = end_next rest outcome l
receive (ObjectEnds x) g l = goes (Dies x) l
receive (PartEnds p) g l = passes (with_store (end_part (classes l) p (store l)) l)
receive Drops g l = passes l
receive (Full ts) g l = ends (temporaries_end ts) (Gives g) l
receive (BranchOn x y) g l = branch x y g l
receive (LoopTest e step body) g l = loop_tested e step body g l
receive Returns g l = leaves (Returning g) l
receive RampTaken g l = on_scalar (λ v. ramp_taken v l) g
receive RampBody g l = ramp_body l
receive RampDone g l = passes l
receive NullDone g l = passes l
receive f g l = None

-- ---- what stands above a frame is done

abbrev pub or_enter : Call → Local → Option (Option Turned) → Option Turned
or_enter call l None = enter call l
or_enter call l (Some suspended) = suspended

-- the next argument is evaluated, or the function is entered; the call of an `await_suspend` suspends its coroutine first
abbrev pub call_next : Call → Local → List Init → Option Turned
call_next call l [] = or_enter call l (suspends_before call l.top.frames l)
call_next call l (i ∷ rest) = argument (record call { rest = rest }) i l

abbrev pub call_on : Call → Local → Option Turned
call_on call l = call_next call l call.rest

abbrev pub field_count : Local → Option CoType → ℕ
field_count l None = 0
field_count l (Some of) = length (fields_of (classes l) of)

abbrev pub all_fields : Place → Local → ℕ
all_fields p l = field_count l (type_at (classes l) (store l) p)

-- What a frame does when what stands above it is done. The frame is taken away.
abbrev pub pass : Frame → Local → Option Turned
pass Joined l = passes l
pass (TempMade slot x) l = temporary_made slot x l
pass (Operands o given rest at) l = operand o given rest at l
pass (Calling call) l = call_on call l
pass (ArgumentMade x) l = argument_lives x l.top.frames l
pass (NewMade x b plan) l = new_made x l
pass (DeleteEnded x b plan) l = delete_ended x b plan l
pass (AwaitResume plan into) l = await_resume plan into l
pass FieldMade l = field_made l
pass (Building p built rest) l = next_element p built rest l
pass (Constructing p class built rest body) l = next_member p class built rest body l
pass (FieldsEnd p class) l = ends (fields_end p (all_fields p l)) Passes l
pass (Ends rest outcome) l = end_next rest outcome l
pass Drops l = passes l
pass (Full ts) l = ends (temporaries_end ts) Passes l
pass (Scope alive rest) l = next_statement alive rest l
pass (Declares x) l = declares x l
pass (LoopBody e step body) l = loop_body e step body l
pass (LoopStep e step body) l = loop_step e step body l
pass Returns l = leaves (Returning Nothing) l
pass (Tries handlers) l = passes l
pass Handled l = handler_left Passes l
pass Border l = passes l
pass (Function own) l = ends (unseen_endings own) (Gives Nothing) l
pass RampTake l = ramp_take l
pass (RampCopies rest) l = ramp_copies rest l
pass (RampMade x) l = ramp_made x l
pass RampResult l = ramp_result l
pass (Holds hold) l = hold_left hold Passes l
pass (Closes n b outcome) l = closes n b outcome l
pass Started l = started l
pass (Guards resumed) l = final_await l
pass Unhandled l = final_await l
pass f l = None

-- ---- a frame is left

-- a `return` leaves the members that a constructor has made, and an exception ends them [class.base.init]
abbrev pub constructor_left : Place → ℕ → Going → Local → Option Turned
constructor_left p built (Throwing v) l = ends (fields_end p built) (Goes (Throwing v)) l
constructor_left p built going l = leaves going l

-- What is done where a frame is left before it is done. The frame is taken away, and most do nothing more. What is alive in it ends,
-- also where a destructor is left.
abbrev pub leave : Frame → Going → Local → Option Turned
leave (TempMade slot x) going l = abandon x.object (Goes going) l
leave (ArgumentMade x) going l = abandon x (Goes going) l
leave (Declares x) going l = abandon x.object (Goes going) l
leave (RampMade x) going l = abandon x.object (Goes going) l
leave (NewMade x b plan) going l = new_left x b plan (Goes going) l
leave (Calling call) going l = call_returned call.objects (Goes going) l
leave (Called objects) going l = call_returned objects (Goes going) l
leave (AwaitSuspend plan into own) going l = call_returned own (Goes going) l
leave (Answers n serial a own at) going l = answer_left n serial a own going at l
leave (Building p built rest) going l = ends (fields_end p built) (Goes going) l
leave (Constructing p class built rest body) going l = constructor_left p built going l
leave (FieldsEnd p class) going l = ends (fields_end p (all_fields p l)) (Goes going) l
leave (Ends rest outcome) going l = ends rest (Goes going) l
leave (ObjectEnds x) going l = goes (Dies x) (pushed (Ends [] (Goes going)) l)
leave (PartEnds p) going l = leaves going (with_store (end_part (classes l) p (store l)) l)
leave (Full ts) going l = ends (temporaries_end ts) (Goes going) l
leave (Scope alive rest) going l = ends (endings alive) (Goes going) l
leave (LoopBody e step body) going l = loop_left e step body going l
leave (Tries handlers) going l = try_left handlers going l
leave Handled going l = handler_left (Goes going) l
leave Border going l = at_border going l
leave (Function own) going l = function_left own going l
leave RampDone going l = result_ends l.top.into going l
leave (Holds hold) going l = hold_left hold (after_end going) l
leave (Guards resumed) going l = guard_left resumed going l
leave Unhandled going l = unhandled_left going l
leave f going l = leaves going l

-- ---- a step

abbrev pub come : List Frame → Outcome → Local → Option Turned
come [] outcome l = last_frame outcome (with_frames [] l)
come (f ∷ fs) (Gives g) l = receive f g (with_frames fs l)
come (f ∷ fs) Passes l = pass f (with_frames fs l)
come (f ∷ fs) (Goes going) l = leave f going (with_frames fs l)

-- what an agent with an activation does next
abbrev pub act : Doing → Local → Option Turned
act Idle l = None
act (Evaluate e into) l = evaluate e into l
act (Awaits plan into) l = under (AwaitOperand plan into) (Evaluate plan.operand None) l
act (Initialize i p) l = initialize i p l
act (Execute s) l = execute s l
act (Opens marks d) l = open_step marks d l
act (Reads p left done at) l = reads p left done at l
act (Writes initial p done left outcome at) l = writes initial p done left outcome at l
act (Comes outcome) l = come l.top.frames outcome l
act (IsBorn x spot outcome) l = is_born x spot outcome l
act (Dies x) l = dies x l
act (HasDied c x) l = has_died c x l
act (Draws b) l = draws b l
act (IsMade n) l = is_made n l
act (HasEnded n b outcome) l = has_ended n b outcome l
act (Releases b words give outcome at) l = releases b words give outcome at l
