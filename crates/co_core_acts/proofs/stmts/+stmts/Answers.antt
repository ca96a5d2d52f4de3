use Rattle.std.proofs.Common.{◌∙◌, ap, arith, false, sym}
use Rattle.co_core_acts.specs.Visits.{awaits_of, back}
use Rattle.co_core_acts.proofs.Orders.{awaits_evaluation, awaits_full, awaits_if, awaits_local, awaits_loop, awaits_scope, awaits_text, awaits_try, handler_own, handlers_lists, handlers_more, list_awaits, list_step, stmt_acts, stmts_lists, stmts_more, visited_evaluation, visited_full, visited_if, visited_local, visited_loop, visited_scope, visited_text, visited_try}
use Rattle.co_core_acts.proofs.stmts.+stmts.Goals as goal

pub visit_stmt-returns-in-Scope-clause-visited : goal.visit_stmt-returns-in-Scope-clause-visited
visit_stmt-returns-in-Scope-clause-visited g t c =
    visited_scope g.V.Visitor.after c.args.funcs.now c.args.order _ _ _ _ _ _ c.in-Scope.is c.as_slice.ensures c.visit_stmts.ensures.visited

pub visit_stmt-returns-in-Scope-clause-awaits : goal.visit_stmt-returns-in-Scope-clause-awaits
visit_stmt-returns-in-Scope-clause-awaits g t c =
    awaits_scope c.args.funcs.now c.args.order _ _ _ _ _ c.in-Scope.is c.as_slice.ensures c.visit_stmts.ensures.awaits

pub visit_stmt-returns-in-Full-clause-visited : goal.visit_stmt-returns-in-Full-clause-visited
visit_stmt-returns-in-Full-clause-visited g t c =
    visited_full g.V.Visitor.after c.args.funcs.now c.args.order _ _ _ _ _ c.in-Full.is c.visit_expr.ensures.visited

pub visit_stmt-returns-in-Full-clause-awaits : goal.visit_stmt-returns-in-Full-clause-awaits
visit_stmt-returns-in-Full-clause-awaits g t c =
    awaits_full c.args.funcs.now c.args.order _ _ _ _ c.in-Full.is (c.visit_expr.ensures.awaits false false)

pub visit_stmt-returns-in-Local-clause-visited : goal.visit_stmt-returns-in-Local-clause-visited
visit_stmt-returns-in-Local-clause-visited g t c =
    visited_local g.V.Visitor.after c.args.funcs.now c.args.order _ _ _ _ _ _ c.in-Local.is c.visit_init.ensures.visited

pub visit_stmt-returns-in-Local-clause-awaits : goal.visit_stmt-returns-in-Local-clause-awaits
visit_stmt-returns-in-Local-clause-awaits g t c =
    awaits_local c.args.funcs.now c.args.order _ _ _ _ _ c.in-Local.is (c.visit_init.ensures.awaits false false)

pub visit_stmt-returns-in-If-clause-visited : goal.visit_stmt-returns-in-If-clause-visited
visit_stmt-returns-in-If-clause-visited g t c =
    visited_if g.V.Visitor.after c.args.funcs.now c.args.order _ _ _ _ _ _ _ _ _ _ _ c.in-If.is c.get-in-If.ensures c.get.ensures c.visit_stmt-last.ensures.visited c.visit_stmt.ensures.visited c.visit_expr-in-If.ensures.visited

pub visit_stmt-returns-in-If-clause-awaits : goal.visit_stmt-returns-in-If-clause-awaits
visit_stmt-returns-in-If-clause-awaits g t c =
    awaits_if c.args.funcs.now c.args.order _ _ _ _ _ _ _ _ _ _ _ _ c.in-If.is c.get-in-If.ensures c.get.ensures c.visit_stmt-last.ensures.awaits c.visit_stmt.ensures.awaits c.and-later.ensures (c.visit_expr-in-If.ensures.awaits false false) c.and.ensures

pub visit_stmt-returns-in-Loop-clause-visited : goal.visit_stmt-returns-in-Loop-clause-visited
visit_stmt-returns-in-Loop-clause-visited g t c =
    visited_loop g.V.Visitor.after c.args.funcs.now c.args.order _ _ _ _ _ _ _ _ _ c.in-Loop.is c.get-in-Loop.ensures c.visit_turn-later.ensures.visited c.visit_expr-in-Loop.ensures.visited

pub visit_stmt-returns-in-Loop-clause-awaits : goal.visit_stmt-returns-in-Loop-clause-awaits
visit_stmt-returns-in-Loop-clause-awaits g t c =
    awaits_loop c.args.funcs.now c.args.order _ _ _ _ _ _ _ _ _ c.in-Loop.is c.get-in-Loop.ensures c.visit_turn-later.ensures.awaits (c.visit_expr-in-Loop.ensures.awaits false false) c.and-in-Loop.ensures

pub visit_stmt-returns-in-Try-clause-visited : goal.visit_stmt-returns-in-Try-clause-visited
visit_stmt-returns-in-Try-clause-visited g t c =
    visited_try g.V.Visitor.after c.args.funcs.now c.args.order _ _ _ _ _ _ _ _ _ c.in-Try.is c.get-in-Try.ensures c.as_slice-in-Try.ensures c.visit_handlers-later.ensures.visited c.visit_stmt-in-Try.ensures.visited

pub visit_stmt-returns-in-Try-clause-awaits : goal.visit_stmt-returns-in-Try-clause-awaits
visit_stmt-returns-in-Try-clause-awaits g t c =
    awaits_try c.args.funcs.now c.args.order _ _ _ _ _ _ _ _ _ c.in-Try.is c.get-in-Try.ensures c.as_slice-in-Try.ensures c.visit_handlers-later.ensures.awaits c.visit_stmt-in-Try.ensures.awaits c.and-in-Try.ensures

pub visit_turn-returns-in-Text-clause-visited : goal.visit_turn-returns-in-Text-clause-visited
visit_turn-returns-in-Text-clause-visited g t c =
    visited_text g.V.Visitor.after c.args.funcs.now c.args.order _ _ _ _ _ c.in-Text.is c.visit_stmt-later.ensures.visited c.visit_expr.ensures.visited

pub visit_turn-returns-in-Text-clause-awaits : goal.visit_turn-returns-in-Text-clause-awaits
visit_turn-returns-in-Text-clause-awaits g t c =
    awaits_text c.args.funcs.now c.args.order _ _ _ _ _ c.in-Text.is c.visit_stmt-later.ensures.awaits (c.visit_expr.ensures.awaits false false) c.and.ensures

pub visit_turn-returns-in-Evaluation-clause-visited : goal.visit_turn-returns-in-Evaluation-clause-visited
visit_turn-returns-in-Evaluation-clause-visited g t c =
    visited_evaluation g.V.Visitor.after c.args.funcs.now c.args.order _ _ _ _ _ c.in-Evaluation.is c.visit_expr-later.ensures.visited c.visit_stmt.ensures.visited

pub visit_turn-returns-in-Evaluation-clause-awaits : goal.visit_turn-returns-in-Evaluation-clause-awaits
visit_turn-returns-in-Evaluation-clause-awaits g t c =
    awaits_evaluation c.args.funcs.now c.args.order _ _ _ _ _ c.in-Evaluation.is (c.visit_expr-later.ensures.awaits false false) c.visit_stmt.ensures.awaits c.and-in-Evaluation.ensures

pub visit_stmts-loop-at-preserved : goal.visit_stmts-loop-at-preserved
visit_stmts-loop-at-preserved g t c = record {
  within = omega (arith, c.loop-at.invariant.within);
  visited = list_step g.V.Visitor.after (stmts_lists c.args.funcs.now c.args.order) (stmt_acts c.args.funcs.now c.args.order) (stmts_more c.args.funcs.now c.args.order) _ _ _ _ _ _ c.loop-at-test.true c.loop-at.invariant.within c.index-stmts-at.is c.loop-at.invariant.visited c.visit_stmt.ensures.visited;
  awaits = list_awaits c.args.funcs.now (stmts_lists c.args.funcs.now c.args.order) (stmt_acts c.args.funcs.now c.args.order) (stmts_more c.args.funcs.now c.args.order) _ _ _ _ _ _ c.loop-at-test.true c.loop-at.invariant.within c.index-stmts-at.is c.loop-at.invariant.awaits c.visit_stmt.ensures.awaits c.and-later.ensures;
}

pub visit_handlers-loop-at-preserved : goal.visit_handlers-loop-at-preserved
visit_handlers-loop-at-preserved g t c = record {
  within = omega (arith, c.loop-at.invariant.within);
  visited = list_step g.V.Visitor.after (handlers_lists c.args.funcs.now c.args.order) (handler_own c.args.funcs.now c.args.order) (handlers_more c.args.funcs.now c.args.order) _ _ _ _ _ _ c.loop-at-test.true c.loop-at.invariant.within c.index-handlers-at.is c.loop-at.invariant.visited (c.visit_stmt.ensures.visited ∙ sym (ap (λ h. back g.V.Visitor.after c.loop-at.visitor (handler_own c.args.funcs.now c.args.order h)) c.index-handlers-at.is));
  awaits = list_awaits c.args.funcs.now (handlers_lists c.args.funcs.now c.args.order) (handler_own c.args.funcs.now c.args.order) (handlers_more c.args.funcs.now c.args.order) _ _ _ _ _ _ c.loop-at-test.true c.loop-at.invariant.within c.index-handlers-at.is c.loop-at.invariant.awaits (c.visit_stmt.ensures.awaits ∙ sym (ap (λ h. awaits_of c.args.funcs.now (handler_own c.args.funcs.now c.args.order h)) c.index-handlers-at.is)) c.and-later.ensures;
}
