use Rattle.std.proofs.Common.{refl}
use Rattle.co_core.specs.Bodies.{placed}
use Rattle.co_core_walks.specs.Seen.{stands_of}
use Rattle.co_core_walks.proofs.Forms.{flat_end, flat_step}
use Rattle.co_core_walks.proofs.Statements.{walked_if, walked_loop, walked_scope, walked_try}
use Rattle.co_core_walks.proofs.bodies.+stmts.Goals as goal

pub walk_handlers-loop-handler-init : goal.walk_handlers-loop-handler-init
walk_handlers-loop-handler-init g t c =
    refl

pub walk_handlers-loop-handler-preserved : goal.walk_handlers-loop-handler-preserved
walk_handlers-loop-handler-preserved g t c =
    flat_step g.V.StmtVisitor.after_stmt (λ handler. placed (stands_of c.args.stands) handler.body) _ _ _ _ _ _ c.loop-handler-test.true c.handler-item.is c.walk_stmt.ensures c.loop-handler.invariant

pub walk_handlers-returns : goal.walk_handlers-returns
walk_handlers-returns g t c =
    flat_end g.V.StmtVisitor.after_stmt (λ handler. placed (stands_of c.args.stands) handler.body) _ _ _ _ c.loop-handler-test.false c.loop-handler.invariant

pub walk_list-loop-s-init : goal.walk_list-loop-s-init
walk_list-loop-s-init g t c =
    refl

pub walk_list-loop-s-preserved : goal.walk_list-loop-s-preserved
walk_list-loop-s-preserved g t c =
    flat_step g.V.StmtVisitor.after_stmt (placed (stands_of c.args.stands)) _ _ _ _ _ _ c.loop-s-test.true c.s-item.is c.walk_stmt.ensures c.loop-s.invariant

pub walk_list-returns : goal.walk_list-returns
walk_list-returns g t c =
    flat_end g.V.StmtVisitor.after_stmt (placed (stands_of c.args.stands)) _ _ _ _ c.loop-s-test.false c.loop-s.invariant

pub walk_stmt-returns-in-Scope : goal.walk_stmt-returns-in-Scope
walk_stmt-returns-in-Scope g t c =
    walked_scope g.V.StmtVisitor.after_stmt (stands_of c.args.stands) _ _ _ _ _ (stands_of c.in_scope_list.result) c.visit_stmt.ensures _ _ _ c.in-Scope.is c.as_slice.ensures c.in_scope_list.ensures c.walk_list.ensures

pub walk_stmt-returns-in-If : goal.walk_stmt-returns-in-If
walk_stmt-returns-in-If g t c =
    walked_if g.V.StmtVisitor.after_stmt (stands_of c.args.stands) _ _ _ _ _ _ c.visit_stmt.ensures _ _ _ _ _ _ _ c.in-If.is c.get.ensures c.get-in-If.ensures c.in_branch.ensures c.in_branch-in-If.ensures c.walk_stmt.ensures c.walk_stmt-in-If.ensures

pub walk_stmt-returns-in-Loop : goal.walk_stmt-returns-in-Loop
walk_stmt-returns-in-Loop g t c =
    walked_loop g.V.StmtVisitor.after_stmt (stands_of c.args.stands) _ _ _ _ _ (stands_of c.in_loop_body.result) c.visit_stmt.ensures _ _ _ _ _ c.in-Loop.is c.get-in-Loop.ensures c.in_loop_body.ensures c.walk_stmt-in-Loop.ensures

pub walk_stmt-returns-in-Try : goal.walk_stmt-returns-in-Try
walk_stmt-returns-in-Try g t c =
    walked_try g.V.StmtVisitor.after_stmt (stands_of c.args.stands) _ _ _ _ _ _ c.visit_stmt.ensures _ _ _ _ _ _ c.in-Try.is c.get-in-Try.ensures c.as_slice-in-Try.ensures c.in_branch-in-Try.ensures c.in_handler_body.ensures c.walk_stmt-in-Try.ensures c.walk_handlers.ensures
