use Rattle.std.proofs.Common.{◌≡◌, ◌+◌, ◌*◌, max, take}
use Rattle.std.specs.List.{sum_by}
use Rattle.co_core_tree.specs.declared.stmts.CoreStmt.{size-CoreStmt}
use Rattle.co_core_sizes.specs.Statements.{statements, handler_statements}
use Rattle.co_core_sizes.proofs.statements.+statements.Given as goal

abbrev pub invariant-beside_stmts-loop-stmt : goal.invariant-beside_stmts-loop-stmt
invariant-beside_stmts-loop-stmt l = l.left + sum_by statements (take l.stmt-index l.stmts) ≡ l.room

abbrev pub invariant-beside_handlers-loop-handler : goal.invariant-beside_handlers-loop-handler
invariant-beside_handlers-loop-handler l = l.left + sum_by handler_statements (take l.handler-index l.handlers) ≡ l.room

abbrev pub decreases-beside_stmt : goal.decreases-beside_stmt
decreases-beside_stmt l = 8 * size-CoreStmt l.stmt.now + 1

abbrev pub decreases-beside_parts : goal.decreases-beside_parts
decreases-beside_parts l = 8 * size-CoreStmt l.stmt.now

abbrev pub decreases-beside_two : goal.decreases-beside_two
decreases-beside_two l = 8 * max (size-CoreStmt l.x.now) (size-CoreStmt l.y.now) + 6

abbrev pub decreases-beside_try : goal.decreases-beside_try
decreases-beside_try l = 8 * max (goal.size-beside_try l) (size-CoreStmt l.body.now) + 6

abbrev pub decreases-beside_stmts : goal.decreases-beside_stmts
decreases-beside_stmts l = 8 * goal.size-beside_stmts l + 5

abbrev pub decreases-beside_handlers : goal.decreases-beside_handlers
decreases-beside_handlers l = 8 * goal.size-beside_handlers l + 5
