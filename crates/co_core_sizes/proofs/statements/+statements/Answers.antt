use Rattle.std.specs.Prelude.{◌+◌}
use Rattle.std.specs.List.{sum_by}
use Rattle.co_core_sizes.specs.Statements.{statements, handler_statements}
use Rattle.co_core_sizes.proofs.Counting.{if_is, left_beside, loop_is, scope_is, too_few, try_is}
use Rattle.co_core_sizes.proofs.statements.+statements.Goals as goal

pub beside_parts-returns-in-Scope-clause-some : goal.beside_parts-returns-in-Scope-clause-some
beside_parts-returns-in-Scope-clause-some t c =
    left_beside c.beside_stmts.result (sum_by statements c.as_slice.result.now) (statements c.args.stmt.now) c.args.room (scope_is _ _ _ _ c.in-Scope.is c.as_slice.ensures) c.beside_stmts.ensures.some

pub beside_parts-returns-in-Scope-clause-none : goal.beside_parts-returns-in-Scope-clause-none
beside_parts-returns-in-Scope-clause-none t c =
    too_few c.beside_stmts.result (sum_by statements c.as_slice.result.now) (statements c.args.stmt.now) c.args.room (scope_is _ _ _ _ c.in-Scope.is c.as_slice.ensures) c.beside_stmts.ensures.none

pub beside_parts-returns-in-If-clause-some : goal.beside_parts-returns-in-If-clause-some
beside_parts-returns-in-If-clause-some t c =
    left_beside c.beside_two.result (statements c.get.result.now + statements c.get-in-If.result.now) (statements c.args.stmt.now) c.args.room (if_is _ _ _ _ _ _ _ c.in-If.is c.get.ensures c.get-in-If.ensures) c.beside_two.ensures.some

pub beside_parts-returns-in-If-clause-none : goal.beside_parts-returns-in-If-clause-none
beside_parts-returns-in-If-clause-none t c =
    too_few c.beside_two.result (statements c.get.result.now + statements c.get-in-If.result.now) (statements c.args.stmt.now) c.args.room (if_is _ _ _ _ _ _ _ c.in-If.is c.get.ensures c.get-in-If.ensures) c.beside_two.ensures.none

pub beside_parts-returns-in-Loop-clause-some : goal.beside_parts-returns-in-Loop-clause-some
beside_parts-returns-in-Loop-clause-some t c =
    left_beside c.beside_stmt.result (statements c.get-in-Loop.result.now) (statements c.args.stmt.now) c.args.room (loop_is _ _ _ _ _ _ c.in-Loop.is c.get-in-Loop.ensures) c.beside_stmt.ensures.some

pub beside_parts-returns-in-Loop-clause-none : goal.beside_parts-returns-in-Loop-clause-none
beside_parts-returns-in-Loop-clause-none t c =
    too_few c.beside_stmt.result (statements c.get-in-Loop.result.now) (statements c.args.stmt.now) c.args.room (loop_is _ _ _ _ _ _ c.in-Loop.is c.get-in-Loop.ensures) c.beside_stmt.ensures.none

pub beside_parts-returns-in-Try-clause-some : goal.beside_parts-returns-in-Try-clause-some
beside_parts-returns-in-Try-clause-some t c =
    left_beside c.beside_try.result (statements c.get-in-Try.result.now + sum_by handler_statements c.as_slice-in-Try.result.now) (statements c.args.stmt.now) c.args.room (try_is _ _ _ _ _ _ c.in-Try.is c.get-in-Try.ensures c.as_slice-in-Try.ensures) c.beside_try.ensures.some

pub beside_parts-returns-in-Try-clause-none : goal.beside_parts-returns-in-Try-clause-none
beside_parts-returns-in-Try-clause-none t c =
    too_few c.beside_try.result (statements c.get-in-Try.result.now + sum_by handler_statements c.as_slice-in-Try.result.now) (statements c.args.stmt.now) c.args.room (try_is _ _ _ _ _ _ c.in-Try.is c.get-in-Try.ensures c.as_slice-in-Try.ensures) c.beside_try.ensures.none
