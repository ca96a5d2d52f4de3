use Rattle.std.proofs.Common.{◌≡◌, ◌+◌, ◌*◌, max, take}
use Rattle.co_core_tree.specs.declared.stmts.CoreStmt.{size-CoreStmt}
use Rattle.co_core_copy.proofs.stmts.+copying.Given as goal

abbrev pub invariant-copy_stmts-loop-item : goal.invariant-copy_stmts-loop-item
invariant-copy_stmts-loop-item l = l.copied ≡ take l.item-index l.stmts

abbrev pub invariant-copy_handlers-loop-item : goal.invariant-copy_handlers-loop-item
invariant-copy_handlers-loop-item l = l.copied ≡ take l.item-index l.handlers

abbrev pub decreases-copy_stmt : goal.decreases-copy_stmt
decreases-copy_stmt l = 8 * size-CoreStmt l.stmt.now

abbrev pub decreases-copy_scope : goal.decreases-copy_scope
decreases-copy_scope l = 8 * goal.size-copy_scope l + 6

abbrev pub decreases-copy_if : goal.decreases-copy_if
decreases-copy_if l = 8 * max (size-CoreStmt l.x.now) (size-CoreStmt l.y.now) + 6

abbrev pub decreases-copy_loop : goal.decreases-copy_loop
decreases-copy_loop l = 8 * size-CoreStmt l.body.now + 6

abbrev pub decreases-copy_try : goal.decreases-copy_try
decreases-copy_try l = 8 * max (goal.size-copy_try l) (size-CoreStmt l.body.now) + 6

abbrev pub decreases-boxed : goal.decreases-boxed
decreases-boxed l = 8 * size-CoreStmt l.stmt.now + 1

abbrev pub decreases-copy_stmts : goal.decreases-copy_stmts
decreases-copy_stmts l = 8 * goal.size-copy_stmts l + 5

abbrev pub decreases-copy_handler : goal.decreases-copy_handler
decreases-copy_handler l = 8 * goal.size-copy_handler l + 4

abbrev pub decreases-copy_handlers : goal.decreases-copy_handlers
decreases-copy_handlers l = 8 * goal.size-copy_handlers l + 5
