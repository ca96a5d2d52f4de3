-- What is done first with an expression, at each form.
use Rattle.std.specs.Prelude.{◌≡◌, ℕ, ℤ, Bool, List, [], slice_get, Option, None, Some}
use Rattle.std.proofs.Common.{refl, ap}
use Rattle.co_base.specs.declared.ids.FuncId.{FuncId}
use Rattle.co_base.specs.declared.ids.SlotId.{SlotId}
use Rattle.co_base.specs.declared.kinds.Num.{Num}
use Rattle.co_base.specs.declared.kinds.Op.{Op}
use Rattle.co_base.specs.declared.span.Span.{Span}
use Rattle.co_types.specs.declared.types.CoType.{CoType}
use Rattle.co_core_tree.specs.declared.kinds.AtomicOp.{AtomicOp}
use Rattle.co_core_tree.specs.declared.kinds.HandleOp.{HandleOp}
use Rattle.co_core_tree.specs.declared.kinds.LibOp.{LibOp}
use Rattle.co_core_tree.specs.declared.exprs.AwaitPlan.{AwaitPlan}
use Rattle.co_core_tree.specs.declared.exprs.CoreExpr.{CoreExpr, items_hidden-the_row-Init-1}
use Rattle.co_core_tree.specs.declared.exprs.CoreExpr.TheVariants as expr
use Rattle.co_core_tree.specs.declared.exprs.CoreExpr.TheBlock.{shape-the_row-CoreExpr-0, hidden-the_row-CoreExpr-0, shown-the_row-CoreExpr-0, shape-the_row-Init-2, hidden-the_row-Init-2, shown-the_row-Init-2, shape-the_row-AwaitPlan-3, hidden-the_row-AwaitPlan-3, shown-the_row-AwaitPlan-3, shape-the_row-NewPlan-5, hidden-the_row-NewPlan-5, shown-the_row-NewPlan-5, shape-the_row-DeletePlan-6, hidden-the_row-DeletePlan-6, shown-the_row-DeletePlan-6}
use Rattle.co_core_tree.specs.declared.exprs.DeletePlan.{DeletePlan}
use Rattle.co_core_tree.specs.declared.exprs.Init.{Init}
use Rattle.co_core_tree.specs.declared.exprs.NewPlan.{NewPlan}
use Rattle.co_meaning_data.specs.declared.values.Value.TheVariants as value
use Rattle.co_eval_data.specs.Seen as seen
use Rattle.co_meaning_data.specs.Frames as meaning
use Rattle.co_meaning_data.specs.Store.{Place, whole}
use Rattle.co_meaning_data.specs.Turn.{Local, gives, is_uncaught, object_in, pushed, under}
use Rattle.co_meaning_calls.specs.Objects.{type_of_slot}
use Rattle.co_meaning.specs.Expressions.{at_object, at_whole, evaluate, make_temporary, newest, parts_of_thrown, rethrow, takes, wholes}

pub const : (n : Num) (v : ℤ) (at : Span) (into : Option Place) (l : Local) → evaluate (expr.Const n v at) into l ≡ gives (meaning.Scalar (value.Number n v)) l
const n v at into l = refl

pub null : (at : Span) (into : Option Place) (l : Local) → evaluate (expr.Null at) into l ≡ gives (meaning.Scalar value.Null) l
null at into l = refl

pub slot : (s : SlotId) (at : Span) (into : Option Place) (l : Local) → evaluate (expr.Slot s at) into l ≡ at_object l (object_in l s.0)
slot s at into l = refl

pub global : (k : ℕ) (at : Span) (into : Option Place) (l : Local) → evaluate (expr.Global k at) into l ≡ gives (meaning.At (whole k)) l
global k at into l = refl

pub field : (x : CoreExpr) (k : ℕ) (at : Span) (into : Option Place) (l : Local) → evaluate (expr.Field x k at) into l ≡ under (meaning.FieldOf k) (meaning.Evaluate x None) l
unfolding shape-the_row-CoreExpr-0 hidden-the_row-CoreExpr-0 shown-the_row-CoreExpr-0 denote.Hole.Carrier.hidden
field x k at into l = refl

pub deref : (x : CoreExpr) (at : Span) (into : Option Place) (l : Local) → evaluate (expr.Deref x at) into l ≡ under (meaning.Referent at) (meaning.Evaluate x None) l
unfolding shape-the_row-CoreExpr-0 hidden-the_row-CoreExpr-0 shown-the_row-CoreExpr-0 denote.Hole.Carrier.hidden
deref x at into l = refl

pub address : (x : CoreExpr) (at : Span) (into : Option Place) (l : Local) → evaluate (expr.Address x at) into l ≡ under (meaning.AddressOf) (meaning.Evaluate x None) l
unfolding shape-the_row-CoreExpr-0 hidden-the_row-CoreExpr-0 shown-the_row-CoreExpr-0 denote.Hole.Carrier.hidden
address x at into l = refl

pub whole_place : (k : ℕ) (at : Span) (into : Option Place) (l : Local) → evaluate (expr.Whole k at) into l ≡ at_whole l (slice_get (wholes l.top.frames) k)
whole_place k at into l = refl

pub load : (x : CoreExpr) (at : Span) (into : Option Place) (l : Local) → evaluate (expr.Load x at) into l ≡ under (meaning.LoadFrom at) (meaning.Evaluate x None) l
unfolding shape-the_row-CoreExpr-0 hidden-the_row-CoreExpr-0 shown-the_row-CoreExpr-0 denote.Hole.Carrier.hidden
load x at into l = refl

pub store : (x y : CoreExpr) (at : Span) (into : Option Place) (l : Local) → evaluate (expr.Store x y at) into l ≡ under (meaning.StoreValue x at) (meaning.Evaluate y None) l
unfolding shape-the_row-CoreExpr-0 hidden-the_row-CoreExpr-0 shown-the_row-CoreExpr-0 denote.Hole.Carrier.hidden
store x y at into l = refl

pub exchange : (x y : CoreExpr) (at : Span) (into : Option Place) (l : Local) → evaluate (expr.Exchange x y at) into l ≡ under (meaning.ExchangePlace y at) (meaning.Evaluate x None) l
unfolding shape-the_row-CoreExpr-0 hidden-the_row-CoreExpr-0 shown-the_row-CoreExpr-0 denote.Hole.Carrier.hidden
exchange x y at into l = refl

pub update : (o : Op) (n : Num) (x y : CoreExpr) (old : Bool) (at : Span) (into : Option Place) (l : Local) → evaluate (expr.Update o n x y old at) into l ≡ under (meaning.UpdateValue o n x old at) (meaning.Evaluate y None) l
unfolding shape-the_row-CoreExpr-0 hidden-the_row-CoreExpr-0 shown-the_row-CoreExpr-0 denote.Hole.Carrier.hidden
update o n x y old at into l = refl

pub arithmetic : (o : Op) (n : Num) (x y : CoreExpr) (at : Span) (into : Option Place) (l : Local) → evaluate (expr.Arith o n x y at) into l ≡ under (meaning.ArithRight o n y at) (meaning.Evaluate x None) l
unfolding shape-the_row-CoreExpr-0 hidden-the_row-CoreExpr-0 shown-the_row-CoreExpr-0 denote.Hole.Carrier.hidden
arithmetic o n x y at into l = refl

pub convert : (n : Num) (x : CoreExpr) (at : Span) (into : Option Place) (l : Local) → evaluate (expr.Convert n x at) into l ≡ under (meaning.ConvertTo n) (meaning.Evaluate x None) l
unfolding shape-the_row-CoreExpr-0 hidden-the_row-CoreExpr-0 shown-the_row-CoreExpr-0 denote.Hole.Carrier.hidden
convert n x at into l = refl

pub test : (x : CoreExpr) (at : Span) (into : Option Place) (l : Local) → evaluate (expr.Test x at) into l ≡ under (meaning.TestOf) (meaning.Evaluate x None) l
unfolding shape-the_row-CoreExpr-0 hidden-the_row-CoreExpr-0 shown-the_row-CoreExpr-0 denote.Hole.Carrier.hidden
test x at into l = refl

pub same : (x y : CoreExpr) (at : Span) (into : Option Place) (l : Local) → evaluate (expr.Same x y at) into l ≡ under (meaning.SameRight y at) (meaning.Evaluate x None) l
unfolding shape-the_row-CoreExpr-0 hidden-the_row-CoreExpr-0 shown-the_row-CoreExpr-0 denote.Hole.Carrier.hidden
same x y at into l = refl

pub both : (x y : CoreExpr) (at : Span) (into : Option Place) (l : Local) → evaluate (expr.Both x y at) into l ≡ under (meaning.BothRight y) (meaning.Evaluate x None) l
unfolding shape-the_row-CoreExpr-0 hidden-the_row-CoreExpr-0 shown-the_row-CoreExpr-0 denote.Hole.Carrier.hidden
both x y at into l = refl

pub either : (x y : CoreExpr) (at : Span) (into : Option Place) (l : Local) → evaluate (expr.Either x y at) into l ≡ under (meaning.EitherRight y) (meaning.Evaluate x None) l
unfolding shape-the_row-CoreExpr-0 hidden-the_row-CoreExpr-0 shown-the_row-CoreExpr-0 denote.Hole.Carrier.hidden
either x y at into l = refl

pub pick : (e x y : CoreExpr) (at : Span) (into : Option Place) (l : Local) → evaluate (expr.Pick e x y at) into l ≡ under (meaning.PickOne x y) (meaning.Evaluate e None) l
unfolding shape-the_row-CoreExpr-0 hidden-the_row-CoreExpr-0 shown-the_row-CoreExpr-0 denote.Hole.Carrier.hidden
pick e x y at into l = refl

pub call : (f : FuncId) (args : List Init) (at : Span) (into : Option Place) (l : Local) → evaluate (expr.Call f args at) into l ≡ under (meaning.Calling (record { func = f; given = []; objects = []; rest = args; into = into; at = at })) (meaning.Comes meaning.Passes) l
call f args at into l = ap (λ list. under (meaning.Calling (record { func = f; given = []; objects = []; rest = list; into = into; at = at })) (meaning.Comes meaning.Passes) l) (items_hidden-the_row-Init-1 args)

pub temporary : (s : SlotId) (i : Init) (at : Span) (into : Option Place) (l : Local) → evaluate (expr.Temp s i at) into l ≡ make_temporary s.0 i l (type_of_slot l s.0)
unfolding shape-the_row-Init-2 hidden-the_row-Init-2 shown-the_row-Init-2 denote.Hole.Carrier.hidden
temporary s i at into l = refl

pub throw_of : (of : CoType) (x : CoreExpr) (at : Span) (into : Option Place) (l : Local) → evaluate (expr.Throw of x at) into l ≡ under (meaning.ThrowOf of at) (meaning.Evaluate x None) l
unfolding shape-the_row-CoreExpr-0 hidden-the_row-CoreExpr-0 shown-the_row-CoreExpr-0 denote.Hole.Carrier.hidden
throw_of of x at into l = refl

pub rethrow_newest : (at : Span) (into : Option Place) (l : Local) → evaluate (expr.Rethrow at) into l ≡ rethrow l.handled l
rethrow_newest at into l = refl

pub terminate : (at : Span) (into : Option Place) (l : Local) → evaluate (expr.Terminate at) into l ≡ is_uncaught (newest l.handled) l
terminate at into l = refl

pub current : (at : Span) (into : Option Place) (l : Local) → evaluate (expr.Current at) into l ≡ gives (meaning.Parts (parts_of_thrown (newest l.handled))) l
current at into l = refl

pub rethrow_pointer : (x : CoreExpr) (at : Span) (into : Option Place) (l : Local) → evaluate (expr.RethrowPtr x at) into l ≡ under (meaning.RethrowOf at) (meaning.Evaluate x None) l
unfolding shape-the_row-CoreExpr-0 hidden-the_row-CoreExpr-0 shown-the_row-CoreExpr-0 denote.Hole.Carrier.hidden
rethrow_pointer x at into l = refl

pub await : (plan : AwaitPlan) (into : Option Place) (l : Local) → evaluate (expr.Await plan) into l ≡ under (meaning.AwaitOperand plan into) (meaning.Evaluate plan.operand None) l
unfolding shape-the_row-AwaitPlan-3 hidden-the_row-AwaitPlan-3 shown-the_row-AwaitPlan-3 denote.Hole.Carrier.hidden
await plan into l = refl

pub on_handle : (o : HandleOp) (list : List CoreExpr) (at : Span) (into : Option Place) (l : Local) → evaluate (expr.Handle o list at) into l ≡ under (seen.operands [] (Some (expr.Handle o list at))) (meaning.Comes meaning.Passes) l
on_handle o list at into l = refl

pub on_atomic : (o : AtomicOp) (list : List CoreExpr) (at : Span) (into : Option Place) (l : Local) → evaluate (expr.Atomic o list at) into l ≡ under (seen.operands [] (Some (expr.Atomic o list at))) (meaning.Comes meaning.Passes) l
on_atomic o list at into l = refl

pub of_library : (o : LibOp) (list : List CoreExpr) (at : Span) (into : Option Place) (l : Local) → evaluate (expr.Lib o list at) into l ≡ under (seen.operands [] (Some (expr.Lib o list at))) (meaning.Comes meaning.Passes) l
of_library o list at into l = refl

pub new : (plan : NewPlan) (into : Option Place) (l : Local) → evaluate (expr.New plan) into l ≡ takes plan.take plan (pushed (meaning.NewTaken plan) l)
unfolding shape-the_row-NewPlan-5 hidden-the_row-NewPlan-5 shown-the_row-NewPlan-5 denote.Hole.Carrier.hidden
new plan into l = refl

pub delete : (plan : DeletePlan) (into : Option Place) (l : Local) → evaluate (expr.Delete plan) into l ≡ under (meaning.DeleteOf plan) (meaning.Evaluate plan.pointer None) l
unfolding shape-the_row-DeletePlan-6 hidden-the_row-DeletePlan-6 shown-the_row-DeletePlan-6 denote.Hole.Carrier.hidden
delete plan into l = refl

pub ruleset entered = (const, null, slot, global, field, deref, address, whole_place, load, store, exchange, update, arithmetic, convert, test, same, both, either, pick, call, temporary, throw_of, rethrow_newest, terminate, current, rethrow_pointer, await, on_handle, on_atomic, of_library, new, delete)
