use Rattle.std.proofs.Common.{◌≡◌, ◌≤◌, drop, length}
use Rattle.co_core.specs.Bodies.{joined_acts}
use Rattle.co_core_acts.specs.Fulls.{handlers_fulls, stmts_fulls}
use Rattle.co_core_acts.specs.Visits.{awaits_of, back}
use Rattle.co_core_acts.proofs.stmts.+stmts.Given as goal

abbrev pub invariant-visit_stmts-loop-at : goal.invariant-visit_stmts-loop-at
invariant-visit_stmts-loop-at g l = record {
  within : l.at ≤ length l.stmts;
  visited : l.visitor ≡ back g.V.Visitor.after l.fn.visitor (joined_acts l.funcs (stmts_fulls l.funcs l.order (drop l.at l.stmts)));
  awaits : l.later ≡ awaits_of l.funcs (joined_acts l.funcs (stmts_fulls l.funcs l.order (drop l.at l.stmts)));
}

abbrev pub decreases-visit_stmts-loop-at : goal.decreases-visit_stmts-loop-at
decreases-visit_stmts-loop-at g l = l.at

abbrev pub invariant-visit_handlers-loop-at : goal.invariant-visit_handlers-loop-at
invariant-visit_handlers-loop-at g l = record {
  within : l.at ≤ length l.handlers;
  visited : l.visitor ≡ back g.V.Visitor.after l.fn.visitor (joined_acts l.funcs (handlers_fulls l.funcs l.order (drop l.at l.handlers)));
  awaits : l.later ≡ awaits_of l.funcs (joined_acts l.funcs (handlers_fulls l.funcs l.order (drop l.at l.handlers)));
}

abbrev pub decreases-visit_handlers-loop-at : goal.decreases-visit_handlers-loop-at
decreases-visit_handlers-loop-at g l = l.at
