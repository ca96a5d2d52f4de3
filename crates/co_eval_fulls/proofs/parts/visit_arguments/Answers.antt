use Rattle.std.proofs.Common.{arith}
use Rattle.co_eval_fulls.proofs.Arguments.{arguments_step}
use Rattle.co_eval_fulls.proofs.parts.visit_arguments.Goals as goal

pub loop-at-preserved : goal.loop-at-preserved
loop-at-preserved g c = record {
  within = omega (arith, c.loop-at.invariant.within);
  visited = arguments_step g.V.Visitor.after c.args.funcs.now _ _ _ _ _ _ _ _ c.loop-at-test.true c.loop-at.invariant.within c.index-args-at.is c.takes_class-object.ensures c.loop-at.invariant.visited c.visit_init.ensures.visited;
}
