-- Statements and handlers keep the frames in order.
use Rattle.std.proofs.Common.{ℕ, ◌≤◌, List, [], ◌∷◌, Some, None, arith}
use Rattle.std.specs.Prelude.{Option}
use Rattle.co_base.specs.declared.ids.SlotId.{SlotId}
use Rattle.co_base.specs.declared.kinds.Thrown.{Thrown}
use Rattle.co_types.specs.declared.types.CoType.{CoType}
use Rattle.co_core_tree.specs.Slots.{acts_of, init_acts_of}
use Rattle.co_core_tree.specs.declared.exprs.CoreExpr.{CoreExpr}
use Rattle.co_core_tree.specs.declared.exprs.Init.{Init}
use Rattle.co_core_tree.specs.declared.stmts.CoreStmt.{CoreStmt, end_of-CoreStmt, more_of-CoreStmt}
use Rattle.co_core_tree.specs.declared.stmts.CoreStmt.TheVariants as stmt
use Rattle.co_core_tree.specs.declared.stmts.Handler.{Handler}
use Rattle.co_meaning_data.specs.Frames.{Alive, InScope, BranchOn, Breaking, Continuing, Declares, Drops, Evaluate, Execute, Given, Going, Handled, Initialize, LoopBody, LoopStep, LoopTest, Outcome, Passes, Returns, Scalar, Scope, Throwing}
use Rattle.co_meaning_data.specs.Store.{next_object, whole}
use Rattle.co_meaning_data.specs.Turn.{Local, funcs, passes, pushed, store, under}
use Rattle.co_meaning_data.specs.declared.values.Value.TheVariants as value
use Rattle.co_meaning_calls.specs.Coroutines.{is_zero}
use Rattle.co_meaning_calls.specs.Objects.{counted_in, endings, type_of_slot, with_raw}
use Rattle.co_meaning.specs.Statements.{full, declare_in, declares, execute, next_statement, branch, loop_tested, loop_body, loop_step, loop_left, first_handler, catch_into, catch_in, enter_handler, caught_by, try_left, handler_left}
use Rattle.co_meaning_balance.proofs.CallsOrder.{opens-order}
use Rattle.co_meaning_balance.proofs.Frames.{counts}
use Rattle.co_meaning_balance.proofs.ObjectsOrder.{ends-order, if-order, lives-order}
use Rattle.co_meaning_balance.specs.Order.{InOrder, frames_hold, made_strays, open_strays}

full-order : (e : CoreExpr) (l : Local) → open_strays l ≤ 0 → InOrder (full e l)
full-order e l known = opens-order (acts_of (funcs l) e) [] (Evaluate e None) l (λ us. omega (arith, known))

declare_in-order : (slot : ℕ) (i : Init) (l : Local) (of : Option CoType) → open_strays l ≤ 0 → InOrder (declare_in slot i l of)
declare_in-order slot i l None known = tt
declare_in-order slot i l (Some of) known =
    let made = counts l of (frames_hold l.top.coroutine l.top.frames) in
    opens-order (init_acts_of (funcs l) i) (Declares (record { object = next_object (store l); coroutine = counted_in l of }) ∷ []) (Initialize i (Some (whole (next_object (store l))))) (with_raw slot of (counted_in l of) l) (λ us. omega (arith, known, made))

pub declares-order : (y : Alive) (l : Local) → made_strays y l ≤ 0 → InOrder (declares y l)
declares-order y l known = lives-order y InScope Passes l known

pub execute-order : (s : CoreStmt) (l : Local) → open_strays l ≤ 0 → InOrder (execute s l)
execute-order (stmt.Scope' n list at) l known = omega (arith, known)
execute-order (stmt.Full e at) l known = full-order e (pushed Drops l) (omega (arith, known))
execute-order (stmt.Local slot i at) l known = declare_in-order slot.0 i l (type_of_slot l slot.0) (omega (arith, known))
execute-order (stmt.If' e n (more_of-CoreStmt x end_of-CoreStmt) m (more_of-CoreStmt y end_of-CoreStmt) at) l known = full-order e (pushed (BranchOn x y) l) (omega (arith, known))
execute-order (stmt.Loop' e step n (more_of-CoreStmt body end_of-CoreStmt) at) l known = full-order e (pushed (LoopTest e step body) l) (omega (arith, known))
execute-order (stmt.Break at) l known = omega (arith, known)
execute-order (stmt.Continue at) l known = omega (arith, known)
execute-order (stmt.Return None at) l known = omega (arith, known)
execute-order (stmt.Return (Some i) at) l known = opens-order (init_acts_of (funcs l) i) [] (Initialize i l.top.into) (pushed Returns l) (λ us. omega (arith, known))
execute-order (stmt.Leave at) l known = omega (arith, known)
execute-order (stmt.Try' n (more_of-CoreStmt body end_of-CoreStmt) m handlers at) l known = omega (arith, known)
execute-order (stmt.OffEnd at) l known = omega (arith, known)

pub next_statement-order : (alive : List Alive) (list : List CoreStmt) (l : Local) → open_strays l ≤ 0 → InOrder (next_statement alive list l)
next_statement-order alive [] l known = ends-order (endings alive) Passes l (omega (arith, known))
next_statement-order alive (s ∷ rest) l known = omega (arith, known)

pub branch-order : (x : CoreStmt) (y : CoreStmt) (g : Given) (l : Local) → open_strays l ≤ 0 → InOrder (branch x y g l)
branch-order x y (Scalar (value.Number n z)) l known = omega (arith, known)
branch-order x y g l known = tt

pub loop_tested-order : (e : CoreExpr) (step : CoreExpr) (body : CoreStmt) (g : Given) (l : Local) → open_strays l ≤ 0 → InOrder (loop_tested e step body g l)
loop_tested-order e step body (Scalar (value.Number n z)) l known = if-order (is_zero z) (passes l) (under (LoopBody e step body) (Execute body) l) (omega (arith, known)) (omega (arith, known))
loop_tested-order e step body g l known = tt

pub loop_body-order : (e : CoreExpr) (step : CoreExpr) (body : CoreStmt) (l : Local) → open_strays l ≤ 0 → InOrder (loop_body e step body l)
loop_body-order e step body l known = full-order step (pushed Drops (pushed (LoopStep e step body) l)) (omega (arith, known))

pub loop_step-order : (e : CoreExpr) (step : CoreExpr) (body : CoreStmt) (l : Local) → open_strays l ≤ 0 → InOrder (loop_step e step body l)
loop_step-order e step body l known = full-order e (pushed (LoopTest e step body) l) (omega (arith, known))

pub loop_left-order : (e : CoreExpr) (step : CoreExpr) (body : CoreStmt) (going : Going) (l : Local) → open_strays l ≤ 0 → InOrder (loop_left e step body going l)
loop_left-order e step body Breaking l known = omega (arith, known)
loop_left-order e step body Continuing l known = loop_body-order e step body l (omega (arith, known))
loop_left-order e step body going l known = omega (arith, known)

catch_into-order : (slot : ℕ) (v : Thrown) (l : Local) (o : Option CoType) → open_strays l ≤ 0 → InOrder (catch_into slot v l o)
catch_into-order slot v l None known = tt
catch_into-order slot v l (Some of) known = let fact0 = counts l of (frames_hold l.top.coroutine l.top.frames) in omega (arith, known, fact0)

catch_in-order : (o : Option SlotId) (v : Thrown) (l : Local) → open_strays l ≤ 0 → InOrder (catch_in o v l)
catch_in-order None v l known = omega (arith, known)
catch_in-order (Some slot) v l known = catch_into-order slot.0 v l (type_of_slot l slot.0) (omega (arith, known))

enter_handler-order : (h : Handler) (v : Thrown) (l : Local) → open_strays l ≤ 0 → InOrder (enter_handler h v l)
enter_handler-order h v l known = catch_in-order h.slot v (pushed (Scope [] (h.body ∷ [])) (pushed Handled (record l { handled = v ∷ l.handled }))) (omega (arith, known))

caught_by-order : (v : Thrown) (l : Local) (o : Option Handler) → open_strays l ≤ 0 → InOrder (caught_by v l o)
caught_by-order v l None known = omega (arith, known)
caught_by-order v l (Some h) known = enter_handler-order h v l (omega (arith, known))

pub try_left-order : (handlers : List Handler) (going : Going) (l : Local) → open_strays l ≤ 0 → InOrder (try_left handlers going l)
try_left-order handlers (Throwing v) l known = caught_by-order v l (first_handler v handlers) (omega (arith, known))
try_left-order handlers going l known = omega (arith, known)

pub handler_left-order : (outcome : Outcome) (l : Local) → open_strays l ≤ 0 → InOrder (handler_left outcome l)
handler_left-order outcome l known = omega (arith, known)
