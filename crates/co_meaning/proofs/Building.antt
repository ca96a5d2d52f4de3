-- Small programs, built from their parts.
use Rattle.std.proofs.Common.{ℕ, List, [], ◌∷◌, true, false, Some, None}
use Rattle.std.specs.Prelude.{pos, replicate}
use Rattle.co_base.specs.declared.ids.FuncId.{FuncId}
use Rattle.co_base.specs.declared.ids.SlotId.{SlotId}
use Rattle.co_base.specs.declared.kinds.Num.TheVariants as num
use Rattle.co_base.specs.declared.kinds.Op.TheVariants as op
use Rattle.co_base.specs.declared.span.Span.{Span}
use Rattle.co_types.specs.declared.types.CoType.{CoType}
use Rattle.co_types.specs.declared.types.CoType.TheVariants as type
use Rattle.co_types.specs.declared.classes.ClassInfo.{ClassInfo}
use Rattle.co_core_tree.specs.declared.exprs.CoreExpr.{CoreExpr, end_of-CoreExpr, more_of-CoreExpr, end_of-Init, more_of-Init}
use Rattle.co_core_tree.specs.declared.exprs.CoreExpr.TheVariants as expr
use Rattle.co_core_tree.specs.declared.exprs.Init.{Init}
use Rattle.co_core_tree.specs.declared.exprs.Init.TheVariants as init
use Rattle.co_core_tree.specs.declared.kinds.LibOp.TheVariants as library
use Rattle.co_core_tree.specs.declared.kinds.SlotKind.TheVariants as kind
use Rattle.co_core_tree.specs.declared.stmts.CoreStmt.{CoreStmt, end_of-CoreStmt, more_of-CoreStmt}
use Rattle.co_core_tree.specs.declared.stmts.CoreStmt.TheVariants as stmt
use Rattle.co_core_tree.specs.declared.units.CoreFunc.{CoreFunc}
use Rattle.co_core_tree.specs.declared.units.FuncRole.TheVariants as role
use Rattle.co_core_tree.specs.declared.units.SlotInfo.{SlotInfo}
use Rattle.co_meaning_data.specs.declared.events.Move.TheVariants as move
use Rattle.co_meaning_data.specs.Frames.{Config}
use Rattle.co_meaning_data.specs.Turn.{Program}
use Rattle.co_meaning.specs.Runs.{runs}
use Rattle.std.specs.Prelude.{if◌then◌else◌, ◌==◌}
use Rattle.co_types.specs.declared.classes.FieldInfo.{FieldInfo}
use Rattle.co_types.specs.declared.classes.FuncInfo.{FuncInfo}
use Rattle.co_types.specs.declared.types.CoType.{end_of-CoType, more_of-CoType}
use Rattle.co_core_tree.specs.declared.exprs.AwaitPlan.{AwaitPlan}
use Rattle.co_core_tree.specs.declared.exprs.CoreExpr.{end_of-AwaitPlan, more_of-AwaitPlan}
use Rattle.co_core_tree.specs.declared.kinds.Answer.TheVariants as answer
use Rattle.co_core_tree.specs.declared.kinds.GivePlan.TheVariants as give
use Rattle.co_core_tree.specs.declared.kinds.HandleOp.{HandleOp}
use Rattle.co_core_tree.specs.declared.kinds.HandleOp.TheVariants as handle
use Rattle.co_core_tree.specs.declared.kinds.Returns.TheVariants as returns
use Rattle.co_core_tree.specs.declared.kinds.TakePlan.TheVariants as take_plan

abbrev pub here : Span
here = record { line = 1; col = 1 }

abbrev pub slot : ℕ → SlotId
slot n = record { 0 = n }

abbrev pub long : ℕ → CoreExpr
long n = expr.Const num.Long (pos n) here

abbrev pub variable : ℕ → CoreExpr
variable n = expr.Slot (slot n) here

abbrev pub load : CoreExpr → CoreExpr
load e = expr.Load' _ (more_of-CoreExpr e end_of-CoreExpr) here

abbrev pub prints : CoreExpr → CoreStmt
prints e = stmt.Full (expr.Lib' library.Print (tt ∷ []) (more_of-CoreExpr e end_of-CoreExpr) here) here

abbrev pub less : CoreExpr → CoreExpr → CoreExpr
less x y = expr.Arith' op.Lt num.Long _ (more_of-CoreExpr x end_of-CoreExpr) _ (more_of-CoreExpr y end_of-CoreExpr) here

abbrev pub adds : CoreExpr → CoreExpr → CoreExpr
adds x y = expr.Update' op.Add num.Long _ (more_of-CoreExpr x end_of-CoreExpr) _ (more_of-CoreExpr y end_of-CoreExpr) false here

abbrev pub two : CoreStmt → CoreStmt → CoreStmt
two a b = stmt.Scope' (tt ∷ tt ∷ []) (more_of-CoreStmt a (more_of-CoreStmt b end_of-CoreStmt)) here

abbrev pub three : CoreStmt → CoreStmt → CoreStmt → CoreStmt
three a b c = stmt.Scope' (tt ∷ tt ∷ tt ∷ []) (more_of-CoreStmt a (more_of-CoreStmt b (more_of-CoreStmt c end_of-CoreStmt))) here

abbrev pub return_zero : CoreStmt
return_zero = stmt.Return (Some (init.Value (expr.Const num.Int (pos 0) here))) here

abbrev pub local : CoType → SlotInfo
local of = record { of = of; kind = kind.Local }

abbrev pub function : List SlotId → CoType → List SlotInfo → CoreStmt → CoreFunc
function params result slots body = record { name = []; params = params; result = result; slots = slots; body = body; noexcept = false; plan = None; role = role.Plain; span = here }

abbrev pub program : List ClassInfo → List CoreFunc → Program
program classes funcs = record { unit = record { classes = classes; globals = []; funcs = funcs; texts = []; main = record { 0 = 0 } }; inputs = []; sizes = [] }

abbrev pub alone : Program → ℕ → Config
alone p n = runs p 0 (replicate n (move.Go 0))

abbrev pub field : CoType → FieldInfo
field of = record { name = []; of = of; span = here; initialized = false }

abbrev pub destructor : ℕ → ℕ → FuncInfo
destructor name id = record { id = record { 0 = id }; name = 126 ∷ name ∷ []; params = []; result = type.Void; is_static = false; is_noexcept = true; is_deleted = false; is_implicit = false; is_defaulted = false; span = here }

abbrev pub class : ℕ → List FieldInfo → List FuncInfo → ClassInfo
class name fields funcs = record { name = name ∷ []; outer = None; fields = fields; funcs = funcs; aliases = []; span = here }

abbrev pub of_class : ℕ → CoType
of_class n = type.Class (record { 0 = n })

abbrev pub refers : CoType → CoType
refers of = type.Ref' _ (more_of-CoType of end_of-CoType)

abbrev pub this : CoreExpr
this = expr.Deref' _ (more_of-CoreExpr (load (variable 0)) end_of-CoreExpr) here

abbrev pub member : CoreExpr → ℕ → CoreExpr
member e k = expr.Field' _ (more_of-CoreExpr e end_of-CoreExpr) k here

abbrev pub param : CoType → SlotInfo
param of = record { of = of; kind = kind.Param }

abbrev pub nothing : CoreStmt
nothing = stmt.Scope' [] end_of-CoreStmt here

abbrev pub one : CoreStmt → CoreStmt
one a = stmt.Scope' (tt ∷ []) (more_of-CoreStmt a end_of-CoreStmt) here

abbrev pub call : ℕ → CoreExpr
call f = expr.Call' (record { 0 = f }) [] end_of-Init here

abbrev pub constructor : ℕ → ℕ → List Init → List SlotInfo → CoreStmt → CoreFunc
constructor class count members slots body =
    record (function (slot 0 ∷ (if count == 0 then [] else slot 1 ∷ [])) type.Void (param (refers (of_class class)) ∷ slots) body) { role = role.Ctor (record { 0 = class }) members }

abbrev pub ends_by : ℕ → CoreStmt → CoreFunc
ends_by class body = record (function (slot 0 ∷ []) type.Void (param (refers (of_class class)) ∷ []) body) { role = role.Dtor (record { 0 = class }); noexcept = true }

abbrev pub made_by : ℕ → CoreExpr → Init
made_by f e = init.Ctor' (record { 0 = f }) (tt ∷ []) (more_of-Init (init.Value e) end_of-Init)

abbrev pub handle_op : HandleOp → CoreExpr → CoreExpr
handle_op o e = expr.Handle' o (tt ∷ []) (more_of-CoreExpr e end_of-CoreExpr) here

abbrev pub zero_int : CoreExpr
zero_int = expr.Const num.Int (pos 0) here

-- an await of an awaiter of the library
abbrev pub library_await : ℕ → ℕ → ℕ → AwaitPlan
library_await ready holder point =
    record { operand = expr.Temp' (slot holder) _ (more_of-Init (init.Members' [] end_of-Init) end_of-Init) here; holder = slot holder; ready = expr.Const num.Bool (pos ready) here; suspend = zero_int; answer = answer.Void; resume = zero_int; point = record { 0 = point }; span = here }

abbrev pub awaits : ℕ → ℕ → CoreStmt
awaits holder point =
    let plan : AwaitPlan = library_await 0 holder point in
    stmt.Full (expr.Await' _ (more_of-AwaitPlan plan.operand plan.holder plan.ready plan.suspend plan.answer plan.resume plan.point plan.span end_of-AwaitPlan)) here

abbrev pub temporary : SlotInfo
temporary = record { of = type.SuspendAlways; kind = kind.Temp }

abbrev pub promise_slot : SlotInfo
promise_slot = record { of = of_class 0; kind = kind.Promise }

abbrev pub id : ℕ → FuncId
id f = record { 0 = f }

abbrev pub with_this : ℕ → CoreStmt
with_this f = stmt.Full (expr.Call' (id f) (tt ∷ []) (more_of-Init (init.Value (variable 0)) end_of-Init) here) here

abbrev pub five : CoreStmt → CoreStmt → CoreStmt → CoreStmt → CoreStmt → CoreStmt
five a b c d e = stmt.Scope' (tt ∷ tt ∷ tt ∷ tt ∷ tt ∷ []) (more_of-CoreStmt a (more_of-CoreStmt b (more_of-CoreStmt c (more_of-CoreStmt d (more_of-CoreStmt e end_of-CoreStmt))))) here

abbrev pub coroutine : CoreStmt → CoreFunc
coroutine body =
    record (function [] (of_class 1) (promise_slot ∷ temporary ∷ temporary ∷ temporary ∷ []) body)
    { plan = Some (record { promise = record { 0 = 0 }; ctor = Some (id 5); with_params = false; ctor_args = []; copies = []; take = take_plan.Global; take_args = []; on_null = None; give = give.Global; result = id 2; initial = library_await 1 1 0; last = library_await 0 2 1; returns = returns.Void (id 3); unhandled = id 4 }) }

abbrev pub job_funcs : CoreStmt → CoreStmt → List CoreFunc
job_funcs main body =
    function [] (type.Num num.Int) (local (of_class 1) ∷ []) main
    ∷ coroutine body
    ∷ function (slot 0 ∷ []) (of_class 1) (param (refers (of_class 0)) ∷ []) (stmt.Return (Some (init.Members' (tt ∷ []) (more_of-Init (init.Value (handle_op handle.FromPromise this)) end_of-Init))) here)
    ∷ function (slot 0 ∷ []) type.Void (param (refers (of_class 0)) ∷ []) nothing
    ∷ function (slot 0 ∷ []) type.Void (param (refers (of_class 0)) ∷ []) nothing
    ∷ constructor 0 0 (init.Value (long 0) ∷ []) [] nothing
    ∷ []

abbrev pub job : CoreStmt → CoreStmt → Program
job main body =
    record (program (class 80 (field (type.Num num.Long) ∷ []) [] ∷ class 74 (field (type.Handle None) ∷ []) [] ∷ []) (job_funcs main body)) { sizes = 64 ∷ [] }

abbrev pub makes_job : CoreStmt
makes_job = stmt.Local (slot 0) (init.Result (call 1)) here

abbrev pub handle_of_job : CoreExpr
handle_of_job = load (member (variable 0) 0)

abbrev pub on_job : HandleOp → CoreStmt
on_job o = stmt.Full (handle_op o handle_of_job) here

abbrev pub body_of_two : CoreStmt
body_of_two = five (prints (long 1)) (awaits 3 3) (prints (long 2)) (with_this 3) (stmt.Leave here)
