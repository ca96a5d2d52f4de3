use Rattle.std.proofs.Common.{◌∙◌, ap}
use Rattle.co_core_acts.specs.Visits.{back, awaits_of}
use Rattle.co_core_acts.proofs.Orders.{awaits_promise, copies_lists, inits_lists, visited_promise}
use Rattle.co_core_acts.proofs.stmts.visit_promise.Goals as goal

pub returns-clause-visited : goal.returns-clause-visited
returns-clause-visited g c =
    visited_promise g.V.Visitor.after c.args.funcs.now c.args.plan.now _ _ _ _ _ _ c.visit_await-last.ensures.visited c.visit_await-initial.ensures.visited
    (c.visit_inits-args.ensures.visited ∙ ap (λ l. back g.V.Visitor.after c.visit_await-initial.new.visitor (inits_lists c.args.funcs.now l)) c.as_slice.ensures)
    (c.visit_copies-copies.ensures.visited ∙ ap (λ l. back g.V.Visitor.after c.visit_inits-args.new.visitor (copies_lists c.args.funcs.now l)) c.as_slice-2.ensures)
    (c.visit_inits-taken.ensures.visited ∙ ap (λ l. back g.V.Visitor.after c.visit_copies-copies.new.visitor (inits_lists c.args.funcs.now l)) c.as_slice-3.ensures)

pub returns-clause-awaits : goal.returns-clause-awaits
returns-clause-awaits g c =
    awaits_promise c.args.funcs.now c.args.plan.now _ _ _ _ _ _ _ _ _ c.visit_await-last.ensures.awaits c.visit_await-initial.ensures.awaits
    (c.visit_inits-args.ensures.awaits ∙ ap (λ l. awaits_of c.args.funcs.now (inits_lists c.args.funcs.now l)) c.as_slice.ensures)
    (c.visit_copies-copies.ensures.awaits ∙ ap (λ l. awaits_of c.args.funcs.now (copies_lists c.args.funcs.now l)) c.as_slice-2.ensures)
    (c.visit_inits-taken.ensures.awaits ∙ ap (λ l. awaits_of c.args.funcs.now (inits_lists c.args.funcs.now l)) c.as_slice-3.ensures)
    c.and.ensures c.and-2.ensures c.and-3.ensures c.and-4.ensures
