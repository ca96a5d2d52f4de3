-- The statements of a function with where each stands, and the full-expressions of a function in the order of the text.
use Rattle.std.specs.Prelude.{Bool, true, false, List, [], ◌∷◌, ◌++◌, Option, None, Some}
use Rattle.co_core_tree.specs.declared.stmts.CoreStmt.{CoreStmt, Row_of-CoreStmt, end_of-CoreStmt, more_of-CoreStmt, Row_of-Handler, end_of-Handler, more_of-Handler}
use Rattle.co_core_tree.specs.declared.stmts.CoreStmt.TheVariants as stmt
use Rattle.co_core_tree.specs.declared.exprs.Init.{Init}
use Rattle.co_core_tree.specs.declared.exprs.AwaitPlan.{AwaitPlan}
use Rattle.co_core_tree.specs.declared.units.CoreFunc.{CoreFunc}
use Rattle.co_core_tree.specs.declared.units.CopyPlan.{CopyPlan}
use Rattle.co_core_tree.specs.declared.units.FuncRole.{FuncRole}
use Rattle.co_core_tree.specs.declared.units.FuncRole.TheVariants as role
use Rattle.co_core_tree.specs.declared.units.PromisePlan.{PromisePlan}
use Rattle.co_core_tree.specs.Acts.{Act}
use Rattle.co_core_tree.specs.Slots.{acts_of, init_acts_of}

-- ---- statements

-- where a statement stands: in the body of a loop, directly in the list of a `Scope`, in a handler
pub record Standing : Type 0 where
  pub in_loop : Bool
  pub in_scope : Bool
  pub in_handler : Bool

abbrev pub in_loop_body : Standing → Standing
in_loop_body s = record { in_loop = true; in_scope = false; in_handler = s.in_handler }

abbrev pub in_scope_list : Standing → Standing
in_scope_list s = record { in_loop = s.in_loop; in_scope = true; in_handler = s.in_handler }

abbrev pub in_branch : Standing → Standing
in_branch s = record { in_loop = s.in_loop; in_scope = false; in_handler = s.in_handler }

abbrev pub in_handler_body : Standing → Standing
in_handler_body s = record { in_loop = s.in_loop; in_scope = false; in_handler = true }

abbrev pub in_body : Standing
in_body = record { in_loop = false; in_scope = false; in_handler = false }

pub record Placed : Type 0 where
  pub stands : Standing
  pub stmt : CoreStmt

abbrev mutual
  -- the statement and those in it, in the order of the text
  pub placed : Standing → CoreStmt → List Placed
  placed s (stmt.Scope' n stmts at) = record { stands = s; stmt = stmt.Scope' n stmts at } ∷ row_placed (in_scope_list s) stmts
  placed s (stmt.If' e n (more_of-CoreStmt x end_of-CoreStmt) m (more_of-CoreStmt y end_of-CoreStmt) at) =
      record { stands = s; stmt = stmt.If' e n (more_of-CoreStmt x end_of-CoreStmt) m (more_of-CoreStmt y end_of-CoreStmt) at } ∷ (placed (in_branch s) x ++ placed (in_branch s) y)
  placed s (stmt.Loop' e step n (more_of-CoreStmt body end_of-CoreStmt) at) =
      record { stands = s; stmt = stmt.Loop' e step n (more_of-CoreStmt body end_of-CoreStmt) at } ∷ placed (in_loop_body s) body
  placed s (stmt.Try' n (more_of-CoreStmt body end_of-CoreStmt) m handlers at) =
      record { stands = s; stmt = stmt.Try' n (more_of-CoreStmt body end_of-CoreStmt) m handlers at } ∷ (placed (in_branch s) body ++ handlers_placed (in_handler_body s) handlers)
  placed s (stmt.Full e at) = record { stands = s; stmt = stmt.Full e at } ∷ []
  placed s (stmt.Local slot i at) = record { stands = s; stmt = stmt.Local slot i at } ∷ []
  placed s (stmt.Break at) = record { stands = s; stmt = stmt.Break at } ∷ []
  placed s (stmt.Continue at) = record { stands = s; stmt = stmt.Continue at } ∷ []
  placed s (stmt.Return i at) = record { stands = s; stmt = stmt.Return i at } ∷ []
  placed s (stmt.Leave at) = record { stands = s; stmt = stmt.Leave at } ∷ []
  placed s (stmt.OffEnd at) = record { stands = s; stmt = stmt.OffEnd at } ∷ []

  pub row_placed : {m : _} → Standing → Row_of-CoreStmt m → List Placed
  row_placed s end_of-CoreStmt = []
  row_placed s (more_of-CoreStmt x rest) = placed s x ++ row_placed s rest

  pub handlers_placed : {m : _} → Standing → Row_of-Handler m → List Placed
  handlers_placed s end_of-Handler = []
  handlers_placed s (more_of-Handler of slot body rest) = placed s body ++ handlers_placed s rest

-- the statements of a function's body
abbrev pub body_of : CoreFunc → List Placed
body_of func = placed in_body func.body

-- ---- full-expressions [intro.execution]

module _ (funcs : List CoreFunc) where
  -- the full-expressions of a statement that are no part of a statement in it
  abbrev pub own_fulls : CoreStmt → List (List Act)
  own_fulls (stmt.Full e at) = acts_of funcs e ∷ []
  own_fulls (stmt.Local slot i at) = init_acts_of funcs i ∷ []
  own_fulls (stmt.If' e n x m y at) = acts_of funcs e ∷ []
  own_fulls (stmt.Loop' e step n body at) = acts_of funcs e ∷ acts_of funcs step ∷ []
  own_fulls (stmt.Return (Some i) at) = init_acts_of funcs i ∷ []
  own_fulls s = []

  abbrev pub placed_fulls : List Placed → List (List Act)
  placed_fulls [] = []
  placed_fulls (p ∷ ps) = own_fulls p.stmt ++ placed_fulls ps

  abbrev pub inits_fulls : List Init → List (List Act)
  inits_fulls [] = []
  inits_fulls (i ∷ is) = init_acts_of funcs i ∷ inits_fulls is

  abbrev pub copies_fulls : List CopyPlan → List (List Act)
  copies_fulls [] = []
  copies_fulls (copy ∷ copies) = init_acts_of funcs copy.init ∷ copies_fulls copies

  -- an initial or a final await, which is a full-expression; the plan itself is its last act
  abbrev pub await_acts : AwaitPlan → List Act
  await_acts plan = acts_of funcs plan.operand ++ (acts_of funcs plan.ready ++ (acts_of funcs plan.suspend ++ acts_of funcs plan.resume))

  abbrev pub plan_fulls : Option PromisePlan → List (List Act)
  plan_fulls None = []
  plan_fulls (Some plan) = inits_fulls plan.take_args ++ (copies_fulls plan.copies ++ (inits_fulls plan.ctor_args ++ (await_acts plan.initial ∷ await_acts plan.last ∷ [])))

  abbrev pub role_fulls : FuncRole → List (List Act)
  role_fulls (role.Ctor class members) = inits_fulls members
  role_fulls r = []

  -- The full-expressions of a function in the order of the text: those around its body first.
  abbrev pub fulls : CoreFunc → List (List Act)
  fulls func = role_fulls func.role ++ (plan_fulls func.plan ++ placed_fulls (body_of func))

  abbrev mutual
    -- the full-expressions of a statement in the order of evaluation: the step of a loop comes after its body [stmt.for]
    pub evaluated : CoreStmt → List (List Act)
    evaluated (stmt.Scope' n stmts at) = row_evaluated stmts
    evaluated (stmt.If' e n (more_of-CoreStmt x end_of-CoreStmt) m (more_of-CoreStmt y end_of-CoreStmt) at) = acts_of funcs e ∷ (evaluated x ++ evaluated y)
    evaluated (stmt.Loop' e step n (more_of-CoreStmt body end_of-CoreStmt) at) = acts_of funcs e ∷ (evaluated body ++ acts_of funcs step ∷ [])
    evaluated (stmt.Try' n (more_of-CoreStmt body end_of-CoreStmt) m handlers at) = evaluated body ++ handlers_evaluated handlers
    evaluated (stmt.Full e at) = acts_of funcs e ∷ []
    evaluated (stmt.Local slot i at) = init_acts_of funcs i ∷ []
    evaluated (stmt.Return (Some i) at) = init_acts_of funcs i ∷ []
    evaluated (stmt.Return None at) = []
    evaluated (stmt.Break at) = []
    evaluated (stmt.Continue at) = []
    evaluated (stmt.Leave at) = []
    evaluated (stmt.OffEnd at) = []

    pub row_evaluated : {m : _} → Row_of-CoreStmt m → List (List Act)
    row_evaluated end_of-CoreStmt = []
    row_evaluated (more_of-CoreStmt x rest) = evaluated x ++ row_evaluated rest

    pub handlers_evaluated : {m : _} → Row_of-Handler m → List (List Act)
    handlers_evaluated end_of-Handler = []
    handlers_evaluated (more_of-Handler of slot body rest) = evaluated body ++ handlers_evaluated rest

  abbrev pub joined_acts : List (List Act) → List Act
  joined_acts [] = []
  joined_acts (acts ∷ more) = acts ++ joined_acts more

  -- all acts of a function
  abbrev pub func_acts : CoreFunc → List Act
  func_acts func = joined_acts (fulls func)
