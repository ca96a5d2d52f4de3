-- The full-expressions of statements in either order.
use Rattle.std.specs.Prelude.{List, [], ◌∷◌, ◌++◌}
use Rattle.co_core_tree.specs.declared.exprs.CoreExpr.{CoreExpr}
use Rattle.co_core_tree.specs.declared.stmts.CoreStmt.{CoreStmt}
use Rattle.co_core_tree.specs.declared.stmts.Handler.{Handler}
use Rattle.co_core_tree.specs.declared.units.CoreFunc.{CoreFunc}
use Rattle.co_core_tree.specs.Acts.{Act}
use Rattle.co_core_tree.specs.Slots.{acts_of}
use Rattle.co_core.specs.Bodies.{evaluated, in_body, joined_acts, placed, placed_fulls, plan_fulls, role_fulls}
use Rattle.co_core_acts.specs.declared.stmts.Order.{Order}
use Rattle.co_core_acts.specs.declared.stmts.Order.TheVariants as order

module _ (funcs : List CoreFunc) where
  abbrev pub stmt_fulls : Order → CoreStmt → List (List Act)
  stmt_fulls order.Text s = placed_fulls funcs (placed in_body s)
  stmt_fulls order.Evaluation s = evaluated funcs s

  abbrev pub stmts_fulls : Order → List CoreStmt → List (List Act)
  stmts_fulls o [] = []
  stmts_fulls o (s ∷ rest) = stmt_fulls o s ++ stmts_fulls o rest

  abbrev pub handlers_fulls : Order → List Handler → List (List Act)
  handlers_fulls o [] = []
  handlers_fulls o (handler ∷ rest) = stmt_fulls o handler.body ++ handlers_fulls o rest

  -- the body and the step of a loop
  abbrev pub turn_fulls : Order → CoreStmt → CoreExpr → List (List Act)
  turn_fulls order.Text body step = acts_of funcs step ∷ stmt_fulls order.Text body
  turn_fulls order.Evaluation body step = stmt_fulls order.Evaluation body ++ acts_of funcs step ∷ []

  -- the acts of a function, with those of its body in this order
  abbrev pub acts_in : Order → CoreFunc → List Act
  acts_in o func = joined_acts funcs (role_fulls funcs func.role ++ (plan_fulls funcs func.plan ++ stmt_fulls o func.body))
