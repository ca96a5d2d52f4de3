use Rattle.co_core_acts.proofs.Orders.{awaits_func, visited_func}
use Rattle.co_core_acts.proofs.stmts.visit_func.Goals as goal

pub returns-clause-visited : goal.returns-clause-visited
returns-clause-visited g c = visited_func g.V.Visitor.after c.args.funcs.now c.args.order c.args.func.now _ _ _ _ c.visit_stmt-body.ensures.visited c.visit_coroutine-plan.ensures.visited c.visit_role.ensures.visited

pub returns-clause-awaits : goal.returns-clause-awaits
returns-clause-awaits g c = awaits_func c.args.funcs.now c.args.order c.args.func.now _ _ _ _ _ c.visit_stmt-body.ensures.awaits c.visit_coroutine-plan.ensures.awaits c.visit_role.ensures.awaits c.and.ensures c.and-2.ensures
