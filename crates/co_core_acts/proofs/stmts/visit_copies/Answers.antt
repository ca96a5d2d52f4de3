use Rattle.std.proofs.Common.{◌∙◌, ap, arith, false, refl, sym}
use Rattle.co_core_acts.specs.Visits.{awaits_of, back}
use Rattle.co_core_acts.proofs.Orders.{copies_lists, copy_own, list_awaits, list_step}
use Rattle.co_core_acts.proofs.stmts.visit_copies.Goals as goal

pub loop-at-preserved : goal.loop-at-preserved
loop-at-preserved g c = record {
  within = omega (arith, c.loop-at.invariant.within);
  visited = list_step g.V.Visitor.after (copies_lists c.args.funcs.now) (copy_own c.args.funcs.now) (λ x xs. refl) _ _ _ _ _ _ c.loop-at-test.true c.loop-at.invariant.within c.index-copies-at.is c.loop-at.invariant.visited (c.visit_init.ensures.visited ∙ sym (ap (λ h. back g.V.Visitor.after c.loop-at.visitor (copy_own c.args.funcs.now h)) c.index-copies-at.is));
  awaits = list_awaits c.args.funcs.now (copies_lists c.args.funcs.now) (copy_own c.args.funcs.now) (λ x xs. refl) _ _ _ _ _ _ c.loop-at-test.true c.loop-at.invariant.within c.index-copies-at.is c.loop-at.invariant.awaits (c.visit_init.ensures.awaits false false ∙ sym (ap (λ h. awaits_of c.args.funcs.now (copy_own c.args.funcs.now h)) c.index-copies-at.is)) c.and-later.ensures;
}
