use Rattle.std.proofs.Common.{◌≡◌, ◌≤◌, drop, length}
use Rattle.co_core.specs.Bodies.{inits_fulls, joined_acts}
use Rattle.co_core_acts.specs.Visits.{awaits_of, back}
use Rattle.co_core_acts.proofs.stmts.visit_inits.Given as goal

abbrev pub invariant-loop-at : goal.invariant-loop-at
invariant-loop-at g l = record {
  within : l.at ≤ length l.inits;
  visited : l.visitor ≡ back g.V.Visitor.after l.fn.visitor (joined_acts l.funcs (inits_fulls l.funcs (drop l.at l.inits)));
  awaits : l.later ≡ awaits_of l.funcs (joined_acts l.funcs (inits_fulls l.funcs (drop l.at l.inits)));
}

abbrev pub decreases-loop-at : goal.decreases-loop-at
decreases-loop-at g l = l.at
