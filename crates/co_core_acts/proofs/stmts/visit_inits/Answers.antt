use Rattle.std.proofs.Common.{arith, false, refl}
use Rattle.co_core_acts.proofs.Orders.{inits_lists, list_awaits, list_step}
use Rattle.co_core_acts.proofs.stmts.visit_inits.Goals as goal
use Rattle.co_core_tree.specs.Slots.{init_acts_of}

pub loop-at-preserved : goal.loop-at-preserved
loop-at-preserved g c = record {
  within = omega (arith, c.loop-at.invariant.within);
  visited = list_step g.V.Visitor.after (inits_lists c.args.funcs.now) (init_acts_of c.args.funcs.now) (λ x xs. refl) _ _ _ _ _ _ c.loop-at-test.true c.loop-at.invariant.within c.index-inits-at.is c.loop-at.invariant.visited c.visit_init.ensures.visited;
  awaits = list_awaits c.args.funcs.now (inits_lists c.args.funcs.now) (init_acts_of c.args.funcs.now) (λ x xs. refl) _ _ _ _ _ _ c.loop-at-test.true c.loop-at.invariant.within c.index-inits-at.is c.loop-at.invariant.awaits (c.visit_init.ensures.awaits false false) c.and-later.ensures;
}
