-- The acts of lists, without what is kept between them, and of statements.
use Rattle.std.specs.Prelude.{Bool, true, false, ◌&&◌, List, [], ◌∷◌, ◌++◌}
use Rattle.co_base.specs.declared.ids.FuncId.{FuncId}
use Rattle.co_core_tree.specs.declared.exprs.AwaitPlan.{AwaitPlan}
use Rattle.co_core_tree.specs.declared.exprs.CoreExpr.{CoreExpr}
use Rattle.co_core_tree.specs.declared.exprs.Init.{Init}
use Rattle.co_core_tree.specs.declared.kinds.HandleOp.{HandleOp}
use Rattle.co_core_tree.specs.declared.kinds.HandleOp.TheVariants as handle
use Rattle.co_core_tree.specs.declared.kinds.LibOp.{LibOp}
use Rattle.co_core_tree.specs.declared.kinds.LibOp.TheVariants as lib
use Rattle.co_core_tree.specs.declared.stmts.CoreStmt.{CoreStmt}
use Rattle.co_core_tree.specs.declared.units.CoreFunc.{CoreFunc}
use Rattle.co_core_tree.specs.declared.stmts.Handler.{Handler}
use Rattle.co_core_tree.specs.declared.units.PromisePlan.{PromisePlan}
use Rattle.co_core_tree.specs.declared.units.UnitParts.{UnitParts}
use Rattle.co_core_tree.specs.Acts.{Act, acts, init_acts, first, others}
use Rattle.co_core.specs.Ids.{catch_held, class_held_if, func_held, give_held, is_text, returns_held, slot_held, slot_held_if}
use Rattle.co_core.specs.Bodies.{Standing, joined_acts, placed, placed_fulls}

module _ (objects : FuncId → List Bool) where
  abbrev pub plan_acts : Bool → AwaitPlan → List Act
  plan_acts c plan = acts objects c false plan.operand ++ (acts objects c false plan.ready ++ (acts objects c false plan.suspend ++ acts objects c false plan.resume))

  -- the flags tell of each initializer whether it makes the object of a parameter
  abbrev pub inits_acts : List Bool → Bool → List Init → List Act
  inits_acts flags c [] = []
  inits_acts flags c (i ∷ is) = init_acts objects c (first flags) i ++ inits_acts (others flags) c is

module _ (funcs : List CoreFunc) where
  -- the acts of the full-expressions of a statement and of those in it
  abbrev pub stmt_acts : Standing → CoreStmt → List Act
  stmt_acts stands s = joined_acts funcs (placed_fulls funcs (placed stands s))

-- ---- the numbers that a form names

module _ (unit : UnitParts) (func : CoreFunc) where
  -- whether the operand of a `Lit` names a text
  abbrev pub lit_held : List CoreExpr → Bool
  lit_held [] = false
  lit_held (e ∷ es) = is_text unit func e

  abbrev pub lib_names : LibOp → List CoreExpr → Bool
  lib_names lib.Lit operands = lit_held operands
  lib_names op operands = true

  abbrev pub handler_names : Handler → Bool
  handler_names handler = catch_held unit func handler.of && slot_held_if unit func handler.slot

  -- whether the functions that end a coroutine, and the slots of its initial and its final awaiter, are in their tables
  abbrev pub ends_named : PromisePlan → Bool
  ends_named plan =
      give_held unit plan.give && (func_held unit plan.result && (slot_held unit func plan.initial.holder && (slot_held unit func plan.last.holder &&
      (returns_held unit func plan.returns && func_held unit plan.unhandled))))

abbrev pub handle_names : UnitParts → HandleOp → Bool
handle_names unit (handle.FromAddress promise) = class_held_if unit promise
handle_names unit op = true
