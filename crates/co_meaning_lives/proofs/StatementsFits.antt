-- Statements and handlers keep what is to come.
use Rattle.std.proofs.Common.{ℕ, ◌+◌, ◌≤◌, List, [], ◌∷◌, true, Some, None, arith}
use Rattle.std.specs.Prelude.{if◌then◌else◌, Option}
use Rattle.co_base.specs.declared.ids.SlotId.{SlotId}
use Rattle.co_base.specs.declared.kinds.Thrown.{Thrown}
use Rattle.co_base.specs.declared.kinds.Undef.TheVariants.{U6}
use Rattle.co_types.specs.declared.types.CoType.{CoType}
use Rattle.co_core_tree.specs.Slots.{acts_of, init_acts_of}
use Rattle.co_core_tree.specs.declared.exprs.CoreExpr.{CoreExpr}
use Rattle.co_core_tree.specs.declared.exprs.Init.{Init}
use Rattle.co_core_tree.specs.declared.stmts.CoreStmt.{CoreStmt, end_of-CoreStmt, items-the_row-CoreStmt, items-the_row-Handler, more_of-CoreStmt}
use Rattle.co_core_tree.specs.declared.stmts.Handler.{Handler}
use Rattle.co_meaning_data.specs.Frames.{Alive, InScope, BranchOn, Breaking, Comes, Continuing, Declares, Drops, Evaluate, Execute, Given, Going, Handled, Initialize, Joined, Leaving, LoopBody, LoopStep, LoopTest, Nothing, Outcome, Passes, Returning, Returns, Scalar, Scope, Throwing, Tries, Writes}
use Rattle.co_meaning_data.specs.Store.{next_object, whole, raw_object}
use Rattle.co_meaning_calls.specs.Coroutines.{is_zero}
use Rattle.co_meaning_calls.specs.Objects.{counted_in, endings, type_of_slot, with_raw}
use Rattle.co_meaning_data.specs.Turn.{Local, classes, funcs, nowhere, passes, pushed, store, under}
use Rattle.co_meaning.specs.Statements.{full, declare_in, declares, execute, next_statement, branch, loop_tested, loop_body, loop_step, loop_left, first_handler, thrown_values, catch_into, catch_in, enter_handler, caught_by, try_left, without_newest, handler_left}
use Rattle.co_meaning_lives.specs.Tokens.{Fits, alive_weigh, credits, local_weighs, weighs}
use Rattle.co_meaning_lives.proofs.Weights.{fresh, goes-fits, under-fits, passes-fits, leaves-fits, is_undefined-fits, if-fits, endings-weigh}
use Rattle.co_core_tree.specs.declared.stmts.CoreStmt.TheVariants as stmt
use Rattle.co_meaning_data.specs.declared.values.Value.TheVariants as value
use Rattle.co_meaning_lives.proofs.ObjectsFits.{lives-fits, ends-fits}
use Rattle.co_meaning_lives.proofs.CallsFits.{opens-fits}

module _ (item raw on_birth on_death credit each : ℕ) (small : on_birth + on_death ≤ raw + credit) where
  pub full-fits : (limit : ℕ) (y0 : CoreExpr) (y1 : Local) → local_weighs item raw on_birth on_death credit each y1 + each ≤ limit + credits item raw on_birth on_death credit each y1.seen → Fits item raw on_birth on_death credit each limit (full y0 y1)
  full-fits limit e l known = (opens-fits item raw on_birth on_death credit each small limit (acts_of (funcs l) e) [] (Evaluate e None) l (omega (arith, known)))

  pub declare_in-fits : (limit : ℕ) (y0 : ℕ) (y1 : Init) (y2 : Local) (y3 : Option CoType) → local_weighs item raw on_birth on_death credit each y2 + each ≤ limit + credits item raw on_birth on_death credit each y2.seen → Fits item raw on_birth on_death credit each limit (declare_in y0 y1 y2 y3)
  declare_in-fits limit slot i l None known = tt
  declare_in-fits limit slot i l (Some of) known = (opens-fits item raw on_birth on_death credit each small limit (init_acts_of (funcs l) i) (Declares (record { object = (next_object (store l)); coroutine = counted_in l of }) ∷ []) (Initialize i (Some (whole (next_object (store l))))) (with_raw slot of (counted_in l of) l) (let f0 = fresh item raw on_birth on_death credit each small (raw_object (classes l) of None (counted_in l of)) (store l) in omega (arith, known, f0)))

  pub declares-fits : (limit : ℕ) (y0 : Alive) (y1 : Local) → weighs item raw on_birth on_death credit each y0.object raw + (local_weighs item raw on_birth on_death credit each y1) + each ≤ limit + credits item raw on_birth on_death credit each y1.seen → Fits item raw on_birth on_death credit each limit (declares y0 y1)
  declares-fits limit x l known = (lives-fits item raw on_birth on_death credit each small limit x InScope Passes l (omega (arith, known)))

  pub execute-fits : (limit : ℕ) (y0 : CoreStmt) (y1 : Local) → local_weighs item raw on_birth on_death credit each y1 + each ≤ limit + credits item raw on_birth on_death credit each y1.seen → Fits item raw on_birth on_death credit each limit (execute y0 y1)
  execute-fits limit (stmt.Scope' n list at) l known = (under-fits item raw on_birth on_death credit each small limit (Scope [] (items-the_row-CoreStmt _ list)) (Comes Passes) l (omega (arith, known)))
  execute-fits limit (stmt.Full e at) l known = (full-fits limit e (pushed Drops l) (omega (arith, known)))
  execute-fits limit (stmt.Local slot i at) l known = (declare_in-fits limit slot.0 i l (type_of_slot l slot.0) (omega (arith, known)))
  execute-fits limit (stmt.If' e n (more_of-CoreStmt x end_of-CoreStmt) m (more_of-CoreStmt y end_of-CoreStmt) at) l known = (full-fits limit e (pushed (BranchOn x y) l) (omega (arith, known)))
  execute-fits limit (stmt.Loop' e step n (more_of-CoreStmt body end_of-CoreStmt) at) l known = (full-fits limit e (pushed (LoopTest e step body) l) (omega (arith, known)))
  execute-fits limit (stmt.Break at) l known = (leaves-fits item raw on_birth on_death credit each small limit Breaking l (omega (arith, known)))
  execute-fits limit (stmt.Continue at) l known = (leaves-fits item raw on_birth on_death credit each small limit Continuing l (omega (arith, known)))
  execute-fits limit (stmt.Return None at) l known = (leaves-fits item raw on_birth on_death credit each small limit (Returning Nothing) l (omega (arith, known)))
  execute-fits limit (stmt.Return (Some i) at) l known = (opens-fits item raw on_birth on_death credit each small limit (init_acts_of (funcs l) i) [] (Initialize i l.top.into) (pushed Returns l) (omega (arith, known)))
  execute-fits limit (stmt.Leave at) l known = (leaves-fits item raw on_birth on_death credit each small limit Leaving l (omega (arith, known)))
  execute-fits limit (stmt.Try' n (more_of-CoreStmt body end_of-CoreStmt) m handlers at) l known = (under-fits item raw on_birth on_death credit each small limit (Tries (items-the_row-Handler _ handlers)) (Execute body) l (omega (arith, known)))
  execute-fits limit (stmt.OffEnd at) l known = (is_undefined-fits item raw on_birth on_death credit each small limit U6 at l (omega (arith, known)))

  pub next_statement-fits : (limit : ℕ) (y0 : List Alive) (y1 : List CoreStmt) (y2 : Local) → alive_weigh item raw on_birth on_death credit each y0 + (local_weighs item raw on_birth on_death credit each y2) + each ≤ limit + credits item raw on_birth on_death credit each y2.seen → Fits item raw on_birth on_death credit each limit (next_statement y0 y1 y2)
  next_statement-fits limit alive [] l known = (ends-fits item raw on_birth on_death credit each small limit (endings alive) Passes l (let f0 = endings-weigh item raw on_birth on_death credit each small alive in omega (arith, known, f0)))
  next_statement-fits limit alive (s ∷ rest) l known = (under-fits item raw on_birth on_death credit each small limit (Scope alive rest) (Execute s) l (omega (arith, known)))

  pub branch-fits : (limit : ℕ) (y0 : CoreStmt) (y1 : CoreStmt) (y2 : Given) (y3 : Local) → local_weighs item raw on_birth on_death credit each y3 + each ≤ limit + credits item raw on_birth on_death credit each y3.seen → Fits item raw on_birth on_death credit each limit (branch y0 y1 y2 y3)
  branch-fits limit x y (Scalar (value.Number n z)) l known = (under-fits item raw on_birth on_death credit each small limit Joined (Execute (if is_zero z then y else x)) l (omega (arith, known)))
  branch-fits limit x y g l known = tt

  pub loop_tested-fits : (limit : ℕ) (y0 : CoreExpr) (y1 : CoreExpr) (y2 : CoreStmt) (y3 : Given) (y4 : Local) → local_weighs item raw on_birth on_death credit each y4 + each ≤ limit + credits item raw on_birth on_death credit each y4.seen → Fits item raw on_birth on_death credit each limit (loop_tested y0 y1 y2 y3 y4)
  loop_tested-fits limit e step body (Scalar (value.Number n z)) l known = (if-fits item raw on_birth on_death credit each small limit (is_zero z) (passes l) (under (LoopBody e step body) (Execute body) l) (passes-fits item raw on_birth on_death credit each small limit l (omega (arith, known))) (under-fits item raw on_birth on_death credit each small limit (LoopBody e step body) (Execute body) l (omega (arith, known))))
  loop_tested-fits limit e step body g l known = tt

  pub loop_body-fits : (limit : ℕ) (y0 : CoreExpr) (y1 : CoreExpr) (y2 : CoreStmt) (y3 : Local) → local_weighs item raw on_birth on_death credit each y3 + each ≤ limit + credits item raw on_birth on_death credit each y3.seen → Fits item raw on_birth on_death credit each limit (loop_body y0 y1 y2 y3)
  loop_body-fits limit e step body l known = (full-fits limit step (pushed Drops (pushed (LoopStep e step body) l)) (omega (arith, known)))

  pub loop_step-fits : (limit : ℕ) (y0 : CoreExpr) (y1 : CoreExpr) (y2 : CoreStmt) (y3 : Local) → local_weighs item raw on_birth on_death credit each y3 + each ≤ limit + credits item raw on_birth on_death credit each y3.seen → Fits item raw on_birth on_death credit each limit (loop_step y0 y1 y2 y3)
  loop_step-fits limit e step body l known = (full-fits limit e (pushed (LoopTest e step body) l) (omega (arith, known)))

  pub loop_left-fits : (limit : ℕ) (y0 : CoreExpr) (y1 : CoreExpr) (y2 : CoreStmt) (y3 : Going) (y4 : Local) → local_weighs item raw on_birth on_death credit each y4 + each ≤ limit + credits item raw on_birth on_death credit each y4.seen → Fits item raw on_birth on_death credit each limit (loop_left y0 y1 y2 y3 y4)
  loop_left-fits limit e step body Breaking l known = (passes-fits item raw on_birth on_death credit each small limit l (omega (arith, known)))
  loop_left-fits limit e step body Continuing l known = (loop_body-fits limit e step body l (omega (arith, known)))
  loop_left-fits limit e step body going l known = (leaves-fits item raw on_birth on_death credit each small limit going l (omega (arith, known)))

  pub catch_into-fits : (limit : ℕ) (y0 : ℕ) (y1 : Thrown) (y2 : Local) (y3 : Option CoType) → local_weighs item raw on_birth on_death credit each y2 + each ≤ limit + credits item raw on_birth on_death credit each y2.seen → Fits item raw on_birth on_death credit each limit (catch_into y0 y1 y2 y3)
  catch_into-fits limit slot v l None known = tt
  catch_into-fits limit slot v l (Some of) known = (under-fits item raw on_birth on_death credit each small limit (Declares (record { object = (next_object (store l)); coroutine = counted_in l of })) (Writes true (whole (next_object (store l))) 0 (thrown_values l of v) Passes nowhere) (with_raw slot of (counted_in l of) l) (let f0 = fresh item raw on_birth on_death credit each small (raw_object (classes l) of None (counted_in l of)) (store l) in omega (arith, known, f0)))

  pub catch_in-fits : (limit : ℕ) (y0 : Option SlotId) (y1 : Thrown) (y2 : Local) → local_weighs item raw on_birth on_death credit each y2 + each ≤ limit + credits item raw on_birth on_death credit each y2.seen → Fits item raw on_birth on_death credit each limit (catch_in y0 y1 y2)
  catch_in-fits limit None v l known = (passes-fits item raw on_birth on_death credit each small limit l (omega (arith, known)))
  catch_in-fits limit (Some slot) v l known = (catch_into-fits limit slot.0 v l (type_of_slot l slot.0) (omega (arith, known)))

  pub enter_handler-fits : (limit : ℕ) (y0 : Handler) (y1 : Thrown) (y2 : Local) → local_weighs item raw on_birth on_death credit each y2 + each ≤ limit + credits item raw on_birth on_death credit each y2.seen → Fits item raw on_birth on_death credit each limit (enter_handler y0 y1 y2)
  enter_handler-fits limit h v l known = (catch_in-fits limit h.slot v (pushed (Scope [] (h.body ∷ [])) (pushed Handled (record l { handled = v ∷ l.handled }))) (omega (arith, known)))

  pub caught_by-fits : (limit : ℕ) (y0 : Thrown) (y1 : Local) (y2 : Option Handler) → local_weighs item raw on_birth on_death credit each y1 + each ≤ limit + credits item raw on_birth on_death credit each y1.seen → Fits item raw on_birth on_death credit each limit (caught_by y0 y1 y2)
  caught_by-fits limit v l None known = (leaves-fits item raw on_birth on_death credit each small limit (Throwing v) l (omega (arith, known)))
  caught_by-fits limit v l (Some h) known = (enter_handler-fits limit h v l (omega (arith, known)))

  pub try_left-fits : (limit : ℕ) (y0 : List Handler) (y1 : Going) (y2 : Local) → local_weighs item raw on_birth on_death credit each y2 + each ≤ limit + credits item raw on_birth on_death credit each y2.seen → Fits item raw on_birth on_death credit each limit (try_left y0 y1 y2)
  try_left-fits limit handlers (Throwing v) l known = (caught_by-fits limit v l (first_handler v handlers) (omega (arith, known)))
  try_left-fits limit handlers going l known = (leaves-fits item raw on_birth on_death credit each small limit going l (omega (arith, known)))

  pub handler_left-fits : (limit : ℕ) (y0 : Outcome) (y1 : Local) → local_weighs item raw on_birth on_death credit each y1 + each ≤ limit + credits item raw on_birth on_death credit each y1.seen → Fits item raw on_birth on_death credit each limit (handler_left y0 y1)
  handler_left-fits limit outcome l known = (goes-fits item raw on_birth on_death credit each small limit (Comes outcome) (record l { handled = without_newest l.handled }) (omega (arith, known)))
