-- Where statements and awaits may stand, and their suspension points.
use Rattle.std.specs.Prelude.{Bool, true, not, ◌||◌, ◌&&◌, ◌==◌, nat_le, List, [], ◌∷◌, ◌++◌, Option, None, Some, is_some}
use Rattle.std.specs.List.{list_all, list_any}
use Rattle.co_base.specs.declared.ids.SuspendId.{SuspendId}
use Rattle.co_core_tree.specs.declared.stmts.CoreStmt.{CoreStmt}
use Rattle.co_core_tree.specs.declared.stmts.CoreStmt.TheVariants as stmt
use Rattle.co_core_tree.specs.declared.units.PromisePlan.{PromisePlan}
use Rattle.co_core_tree.specs.declared.units.CoreFunc.{CoreFunc}
use Rattle.co_core_tree.specs.declared.units.UnitParts.{UnitParts}
use Rattle.co_core_tree.specs.Acts.{suspends}
use Rattle.co_core_tree.specs.Slots.{points}
use Rattle.co_core.specs.Bodies.{Placed, Standing, body_of, func_acts, joined_acts, own_fulls}

-- ---- jumps

abbrev pub jumps_in_loop : Standing → CoreStmt → Bool
jumps_in_loop stands (stmt.Break at) = stands.in_loop
jumps_in_loop stands (stmt.Continue at) = stands.in_loop
jumps_in_loop stands s = true

abbrev pub placed_jumps : Placed → Bool
placed_jumps p = jumps_in_loop p.stands p.stmt

abbrev pub func_jumps : List CoreFunc → CoreFunc → Bool
func_jumps funcs func = list_all placed_jumps (body_of func) && (is_some func.plan || not (suspends (func_acts funcs func)))

-- `Break` and `Continue` stand in a `Loop` [stmt.break] [stmt.cont], an `Await` in a coroutine [expr.await].
abbrev pub jumps_placed : UnitParts → Bool
jumps_placed unit = list_all (func_jumps unit.funcs) unit.funcs

-- ---- ends of functions

module _ (funcs : List CoreFunc) (is_coroutine : Bool) where
  abbrev pub leaves_as : CoreStmt → Bool
  leaves_as (stmt.Return i at) = not is_coroutine
  leaves_as (stmt.Leave at) = is_coroutine
  leaves_as s = true

  -- no await stands in a handler [expr.await]
  abbrev pub suspends_outside : Placed → Bool
  suspends_outside p = not (p.stands.in_handler && suspends (joined_acts funcs (own_fulls funcs p.stmt)))

  abbrev pub placed_ends : Placed → Bool
  placed_ends p = leaves_as p.stmt && suspends_outside p

abbrev pub func_ends : List CoreFunc → CoreFunc → Bool
func_ends funcs func = list_all (placed_ends funcs (is_some func.plan)) (body_of func)

-- A `Return` stands in a function without a plan, a `Leave` in one with a plan, and no `Await` in a handler.
abbrev pub ends_placed : UnitParts → Bool
ends_placed unit = list_all (func_ends unit.funcs) unit.funcs

-- ---- suspension points

abbrev pub same_point : SuspendId → SuspendId → Bool
same_point a b = a.0 == b.0

abbrev pub distinct_points : List SuspendId → Bool
distinct_points [] = true
distinct_points (point ∷ more) = not (list_any (same_point point) more) && distinct_points more

abbrev pub plan_points : Option PromisePlan → List SuspendId
plan_points None = []
plan_points (Some plan) = plan.initial.point ∷ plan.last.point ∷ []

-- the points of a function's awaits, the initial and the final one first
abbrev pub func_points : List CoreFunc → CoreFunc → List SuspendId
func_points funcs func = plan_points func.plan ++ points (func_acts funcs func)

abbrev pub is_free_point : SuspendId → Bool
is_free_point point = not (point.0 == 2) && nat_le point.0 65534

abbrev pub func_points_differ : List CoreFunc → CoreFunc → Bool
func_points_differ funcs func = distinct_points (func_points funcs func) && list_all is_free_point (func_points funcs func)

-- The points of a function's awaits are different and below 65,535, and none is 2, at which a coroutine is suspended that an exception of
-- `unhandled_exception` has left [dcl.fct.def.coroutine].
abbrev pub points_differ : UnitParts → Bool
points_differ unit = list_all (func_points_differ unit.funcs) unit.funcs
