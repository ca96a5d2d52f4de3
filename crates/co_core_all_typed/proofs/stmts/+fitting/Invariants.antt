use Rattle.std.proofs.Common.{◌≡◌, ◌+◌, ◌*◌, true, max, take}
use Rattle.std.specs.List.{list_all}
use Rattle.co_core_tree.specs.declared.stmts.CoreStmt.{size-CoreStmt}
use Rattle.co_core_all_typed.specs.Walks.{within_typed, handler_within}
use Rattle.co_core_all_typed.proofs.stmts.+fitting.Given as goal

abbrev pub invariant-stmts_fit-loop-stmt : goal.invariant-stmts_fit-loop-stmt
invariant-stmts_fit-loop-stmt l = list_all (within_typed l.scene.unit.now l.scene.func.now) (take l.stmt-index l.stmts) ≡ true

abbrev pub invariant-bodies_fit-loop-handler : goal.invariant-bodies_fit-loop-handler
invariant-bodies_fit-loop-handler l = list_all (handler_within l.scene.unit.now l.scene.func.now) (take l.handler-index l.handlers) ≡ true

abbrev pub decreases-stmt_fits : goal.decreases-stmt_fits
decreases-stmt_fits l = 8 * size-CoreStmt l.stmt.now

abbrev pub decreases-branches_fit : goal.decreases-branches_fit
decreases-branches_fit l = 8 * max (size-CoreStmt l.x.now) (size-CoreStmt l.y.now) + 6

abbrev pub decreases-loop_fits : goal.decreases-loop_fits
decreases-loop_fits l = 8 * size-CoreStmt l.body.now + 6

abbrev pub decreases-try_fits : goal.decreases-try_fits
decreases-try_fits l = 8 * max (goal.size-try_fits l) (size-CoreStmt l.body.now) + 6

abbrev pub decreases-stmts_fit : goal.decreases-stmts_fit
decreases-stmts_fit l = 8 * goal.size-stmts_fit l + 5

abbrev pub decreases-bodies_fit : goal.decreases-bodies_fit
decreases-bodies_fit l = 8 * goal.size-bodies_fit l + 5
