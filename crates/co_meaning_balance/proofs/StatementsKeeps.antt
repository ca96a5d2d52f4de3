-- Statements and handlers lose no object.
use Rattle.std.proofs.Common.{ℕ, List, [], ◌∷◌, Some, None, arith}
use Rattle.std.specs.Prelude.{Option}
use Rattle.co_base.specs.declared.ids.SlotId.{SlotId}
use Rattle.co_base.specs.declared.kinds.Thrown.{Thrown}
use Rattle.co_base.specs.declared.kinds.Undef.TheVariants.{U6}
use Rattle.co_types.specs.declared.types.CoType.{CoType}
use Rattle.co_core_tree.specs.Slots.{acts_of, init_acts_of}
use Rattle.co_core_tree.specs.declared.exprs.CoreExpr.{CoreExpr}
use Rattle.co_core_tree.specs.declared.exprs.Init.{Init}
use Rattle.co_core_tree.specs.declared.stmts.CoreStmt.{CoreStmt, end_of-CoreStmt, more_of-CoreStmt}
use Rattle.co_core_tree.specs.declared.stmts.CoreStmt.TheVariants as stmt
use Rattle.co_core_tree.specs.declared.stmts.Handler.{Handler}
use Rattle.co_meaning_data.specs.Frames.{Alive, InScope, BranchOn, Breaking, Continuing, Declares, Drops, Evaluate, Execute, Given, Going, Handled, Initialize, LoopBody, LoopStep, LoopTest, Outcome, Passes, Returns, Scalar, Scope, Throwing}
use Rattle.co_meaning_data.specs.Store.{next_object, whole}
use Rattle.co_meaning_data.specs.Turn.{Local, funcs, passes, pushed, store, under}
use Rattle.co_meaning_data.specs.declared.values.Value.TheVariants as value
use Rattle.co_meaning_calls.specs.Coroutines.{is_zero}
use Rattle.co_meaning_calls.specs.Objects.{counted_in, type_of_slot, with_raw}
use Rattle.co_meaning.specs.Statements.{full, declare_in, declares, execute, next_statement, branch, loop_tested, loop_body, loop_step, loop_left, first_handler, catch_into, catch_in, enter_handler, caught_by, try_left, handler_left}
use Rattle.co_meaning_balance.proofs.CallsKeeps.{opens-keeps}
use Rattle.co_meaning_balance.proofs.ObjectsKeeps.{if-keeps, is_undefined-keeps, lives-keeps, scope_ends-keeps}
use Rattle.co_meaning_balance.specs.Places.{Keeps, Kept}

module _ (number item limit owed : ℕ) where
  full-keeps : (e : CoreExpr) (l : Local) → Kept number item limit owed l → Keeps number item limit owed (full e l)
  full-keeps e l known = opens-keeps number item limit owed (acts_of (funcs l) e) [] (Evaluate e None) l known

  declare_in-keeps : (slot : ℕ) (i : Init) (l : Local) (o : Option CoType) → Kept number item limit owed l → Keeps number item limit owed (declare_in slot i l o)
  declare_in-keeps slot i l None known = tt
  declare_in-keeps slot i l (Some of) known = opens-keeps number item limit owed (init_acts_of (funcs l) i) (Declares (record { object = (next_object (store l)); coroutine = counted_in l of }) ∷ []) (Initialize i (Some (whole (next_object (store l))))) (with_raw slot of (counted_in l of) l) known

  pub declares-keeps : (x : Alive) (l : Local) → Kept number item limit owed l → Keeps number item limit owed (declares x l)
  declares-keeps x l known = lives-keeps number item limit owed x InScope Passes l known

  pub execute-keeps : (s : CoreStmt) (l : Local) → Kept number item limit owed l → Keeps number item limit owed (execute s l)
  execute-keeps (stmt.Scope' n list at) l known = (known.0, known.1, let enough = known.2 in omega (arith, enough))
  execute-keeps (stmt.Full e at) l known = full-keeps e (pushed Drops l) known
  execute-keeps (stmt.Local slot i at) l known = declare_in-keeps slot.0 i l (type_of_slot l slot.0) known
  execute-keeps (stmt.If' e n (more_of-CoreStmt x end_of-CoreStmt) m (more_of-CoreStmt y end_of-CoreStmt) at) l known = full-keeps e (pushed (BranchOn x y) l) known
  execute-keeps (stmt.Loop' e step n (more_of-CoreStmt body end_of-CoreStmt) at) l known = full-keeps e (pushed (LoopTest e step body) l) known
  execute-keeps (stmt.Break at) l known = known
  execute-keeps (stmt.Continue at) l known = known
  execute-keeps (stmt.Return None at) l known = known
  execute-keeps (stmt.Return (Some i) at) l known = opens-keeps number item limit owed (init_acts_of (funcs l) i) [] (Initialize i l.top.into) (pushed Returns l) known
  execute-keeps (stmt.Leave at) l known = known
  execute-keeps (stmt.Try' n (more_of-CoreStmt body end_of-CoreStmt) m handlers at) l known = known
  execute-keeps (stmt.OffEnd at) l known = is_undefined-keeps number item limit owed U6 at l known

  pub next_statement-keeps : (alive : List Alive) (rest : List CoreStmt) (l : Local) → Kept number item limit owed (pushed (Scope alive rest) l) → Keeps number item limit owed (next_statement alive rest l)
  next_statement-keeps alive [] l known = scope_ends-keeps number item limit owed alive Passes l known
  next_statement-keeps alive (s ∷ rest) l known = known

  pub branch-keeps : (x : CoreStmt) (y : CoreStmt) (g : Given) (l : Local) → Kept number item limit owed l → Keeps number item limit owed (branch x y g l)
  branch-keeps x y (Scalar (value.Number n z)) l known = known
  branch-keeps x y g l known = tt

  pub loop_tested-keeps : (e : CoreExpr) (step : CoreExpr) (body : CoreStmt) (g : Given) (l : Local) → Kept number item limit owed l → Keeps number item limit owed (loop_tested e step body g l)
  loop_tested-keeps e step body (Scalar (value.Number n z)) l known = if-keeps number item limit owed (is_zero z) (passes l) (under (LoopBody e step body) (Execute body) l) known known
  loop_tested-keeps e step body g l known = tt

  pub loop_body-keeps : (e : CoreExpr) (step : CoreExpr) (body : CoreStmt) (l : Local) → Kept number item limit owed l → Keeps number item limit owed (loop_body e step body l)
  loop_body-keeps e step body l known = full-keeps step (pushed Drops (pushed (LoopStep e step body) l)) known

  pub loop_step-keeps : (e : CoreExpr) (step : CoreExpr) (body : CoreStmt) (l : Local) → Kept number item limit owed l → Keeps number item limit owed (loop_step e step body l)
  loop_step-keeps e step body l known = full-keeps e (pushed (LoopTest e step body) l) known

  pub loop_left-keeps : (e : CoreExpr) (step : CoreExpr) (body : CoreStmt) (going : Going) (l : Local) → Kept number item limit owed l → Keeps number item limit owed (loop_left e step body going l)
  loop_left-keeps e step body Breaking l known = known
  loop_left-keeps e step body Continuing l known = loop_body-keeps e step body l known
  loop_left-keeps e step body going l known = known

  catch_into-keeps : (slot : ℕ) (v : Thrown) (l : Local) (o : Option CoType) → Kept number item limit owed l → Keeps number item limit owed (catch_into slot v l o)
  catch_into-keeps slot v l None known = tt
  catch_into-keeps slot v l (Some of) known = known

  catch_in-keeps : (o : Option SlotId) (v : Thrown) (l : Local) → Kept number item limit owed l → Keeps number item limit owed (catch_in o v l)
  catch_in-keeps None v l known = known
  catch_in-keeps (Some slot) v l known = catch_into-keeps slot.0 v l (type_of_slot l slot.0) known

  enter_handler-keeps : (h : Handler) (v : Thrown) (l : Local) → Kept number item limit owed l → Keeps number item limit owed (enter_handler h v l)
  enter_handler-keeps h v l known = catch_in-keeps h.slot v (pushed (Scope [] (h.body ∷ [])) (pushed Handled (record l { handled = v ∷ l.handled }))) (known.0, known.1, let enough = known.2 in omega (arith, enough))

  caught_by-keeps : (v : Thrown) (l : Local) (o : Option Handler) → Kept number item limit owed l → Keeps number item limit owed (caught_by v l o)
  caught_by-keeps v l None known = known
  caught_by-keeps v l (Some h) known = enter_handler-keeps h v l known

  pub try_left-keeps : (handlers : List Handler) (going : Going) (l : Local) → Kept number item limit owed l → Keeps number item limit owed (try_left handlers going l)
  try_left-keeps handlers (Throwing v) l known = caught_by-keeps v l (first_handler v handlers) known
  try_left-keeps handlers going l known = known

  pub handler_left-keeps : (outcome : Outcome) (l : Local) → Kept number item limit owed l → Keeps number item limit owed (handler_left outcome l)
  handler_left-keeps outcome l known = known
