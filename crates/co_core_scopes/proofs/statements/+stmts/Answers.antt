use Rattle.std.proofs.Common.{refl}
use Rattle.co_core_scopes.specs.Scoped.{handled, listed}
use Rattle.co_core_scopes.proofs.Loops.{each_end, each_step}
use Rattle.co_core_scopes.proofs.Openings.{handled_is, listed_is, seen_break, seen_continue, seen_full, seen_if, seen_leave, seen_local, seen_loop, seen_off_end, seen_return, seen_scope, seen_try}
use Rattle.co_core_scopes.proofs.statements.+stmts.Goals as goal

pub visit_stmt-returns-in-Scope : goal.visit_stmt-returns-in-Scope
visit_stmt-returns-in-Scope t c = λ funcs. seen_scope funcs c.args.v.now _ _ _ _ _ _ c.in-Scope.is c.as_slice-stmts.ensures (c.visit_list.ensures funcs) c.leave_list.ensures

pub visit_stmt-returns-in-Full : goal.visit_stmt-returns-in-Full
visit_stmt-returns-in-Full t c = λ funcs. seen_full funcs c.args.v.now _ _ _ _ c.in-Full.is (c.visit_full.ensures funcs)

pub visit_stmt-returns-in-Local : goal.visit_stmt-returns-in-Local
visit_stmt-returns-in-Local t c = λ funcs. seen_local funcs c.args.v.now _ _ _ _ _ c.in-Local.is (c.visit_full-in-Local.ensures funcs)

pub visit_stmt-returns-in-If : goal.visit_stmt-returns-in-If
visit_stmt-returns-in-If t c = λ funcs. seen_if funcs c.args.v.now _ _ _ _ _ _ _ _ _ _ c.in-If.is c.get.ensures c.get-in-If.ensures (c.visit_full-in-If.ensures funcs) (c.visit_stmt.ensures funcs) (c.visit_stmt-in-If.ensures funcs)

pub visit_stmt-returns-in-Loop : goal.visit_stmt-returns-in-Loop
visit_stmt-returns-in-Loop t c = λ funcs. seen_loop funcs c.args.v.now _ _ _ _ _ _ _ _ _ c.in-Loop.is c.get-in-Loop.ensures (c.visit_full-in-Loop.ensures funcs) (c.visit_full-in-Loop-2.ensures funcs) (c.visit_stmt-in-Loop.ensures funcs)

pub visit_stmt-returns-in-Return : goal.visit_stmt-returns-in-Return
visit_stmt-returns-in-Return t c = λ funcs. seen_return funcs c.args.v.now _ _ _ _ c.in-Return.is (c.visit_given.ensures funcs _)

pub visit_stmt-returns-in-Try : goal.visit_stmt-returns-in-Try
visit_stmt-returns-in-Try t c = λ funcs. seen_try funcs c.args.v.now _ _ _ _ _ _ _ _ c.in-Try.is c.get-in-Try.ensures c.as_slice.ensures (c.visit_stmt-in-Try.ensures funcs) (c.visit_handlers.ensures funcs)

pub visit_stmt-returns-in-Break : goal.visit_stmt-returns-in-Break
visit_stmt-returns-in-Break t c = λ funcs. seen_break funcs c.args.v.now _ _ c.in-Break.is

pub visit_stmt-returns-in-Continue : goal.visit_stmt-returns-in-Continue
visit_stmt-returns-in-Continue t c = λ funcs. seen_continue funcs c.args.v.now _ _ c.in-Continue.is

pub visit_stmt-returns-in-Leave : goal.visit_stmt-returns-in-Leave
visit_stmt-returns-in-Leave t c = λ funcs. seen_leave funcs c.args.v.now _ _ c.in-Leave.is

pub visit_stmt-returns-in-OffEnd : goal.visit_stmt-returns-in-OffEnd
visit_stmt-returns-in-OffEnd t c = λ funcs. seen_off_end funcs c.args.v.now _ _ c.in-OffEnd.is

pub visit_list-loop-s-init : goal.visit_list-loop-s-init
visit_list-loop-s-init t c = λ funcs. refl

pub visit_list-loop-s-preserved : goal.visit_list-loop-s-preserved
visit_list-loop-s-preserved t c = λ funcs.
    each_step (listed funcs) _ _ _ _ _ _ c.loop-s-test.true c.s-item.is (listed_is funcs _ _ _ _ _ (c.visit_stmt.ensures funcs) c.local_of.ensures c.enter.ensures) (c.loop-s.invariant funcs)

pub visit_list-returns : goal.visit_list-returns
visit_list-returns t c = λ funcs. each_end (listed funcs) _ _ _ _ c.loop-s-test.false (c.loop-s.invariant funcs)

pub visit_handlers-loop-handler-init : goal.visit_handlers-loop-handler-init
visit_handlers-loop-handler-init t c = λ funcs. refl

pub visit_handlers-loop-handler-preserved : goal.visit_handlers-loop-handler-preserved
visit_handlers-loop-handler-preserved t c = λ funcs.
    each_step (handled funcs) _ _ _ _ _ _ c.loop-handler-test.true c.handler-item.is (handled_is funcs c.loop-handler.v _ _ _ c.handler-item.result c.enter.ensures (c.visit_stmt.ensures funcs) c.leave.ensures) (c.loop-handler.invariant funcs)

pub visit_handlers-returns : goal.visit_handlers-returns
visit_handlers-returns t c = λ funcs. each_end (handled funcs) _ _ _ _ c.loop-handler-test.false (c.loop-handler.invariant funcs)
