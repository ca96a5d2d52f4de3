-- What the walk over the statements of a function tests.
use Rattle.std.specs.Prelude.{Bool, ◌&&◌}
use Rattle.std.specs.List.{list_all}
use Rattle.co_core_tree.specs.declared.stmts.CoreStmt.{CoreStmt}
use Rattle.co_core_tree.specs.declared.stmts.Handler.{Handler}
use Rattle.co_core_tree.specs.declared.units.CoreFunc.{CoreFunc}
use Rattle.co_core_tree.specs.declared.units.UnitParts.{UnitParts}
use Rattle.co_core.specs.Bodies.{in_body, placed}
use Rattle.co_core.specs.Typed.{catchable, caught_fits, placed_typed}

module _ (unit : UnitParts) (func : CoreFunc) where
  -- the statement and those in it; where it stands makes no difference
  abbrev pub within_typed : CoreStmt → Bool
  within_typed s = list_all (placed_typed unit func) (placed in_body s)

  abbrev pub handler_typed : Handler → Bool
  handler_typed handler = catchable unit func handler.of && caught_fits unit func handler.of handler.slot

  -- the statements in a handler
  abbrev pub handler_within : Handler → Bool
  handler_within handler = within_typed handler.body
