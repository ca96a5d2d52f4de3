use Rattle.std.proofs.Common.{◌≡◌, Bool, ◌≤◌, ◌+◌, drop, length}
use Rattle.co_core_tree.specs.Slots.{class_params}
use Rattle.co_core_acts.specs.Visits.{arguments_acts, awaits_of, back, inits_acts, operands_acts}
use Rattle.co_core_acts.proofs.exprs.+acting.Given as goal

abbrev pub invariant-visit_args-loop-at : goal.invariant-visit_args-loop-at
invariant-visit_args-loop-at g l = record {
  within : l.at ≤ length l.args;
  visited : l.visitor ≡ back g.V.Visitor.after l.fn.visitor (arguments_acts l.funcs (drop (l.start + l.at) (class_params l.funcs l.func)) l.conditional (drop l.at l.args));
  awaits : (c : Bool) → l.later ≡ awaits_of l.funcs (arguments_acts l.funcs (drop (l.start + l.at) (class_params l.funcs l.func)) c (drop l.at l.args));
}

abbrev pub decreases-visit_args-loop-at : goal.decreases-visit_args-loop-at
decreases-visit_args-loop-at g l = l.at

abbrev pub invariant-visit_members-loop-at : goal.invariant-visit_members-loop-at
invariant-visit_members-loop-at g l = record {
  within : l.at ≤ length l.members;
  visited : l.visitor ≡ back g.V.Visitor.after l.fn.visitor (inits_acts l.funcs l.conditional (drop l.at l.members));
  awaits : (c : Bool) → l.later ≡ awaits_of l.funcs (inits_acts l.funcs c (drop l.at l.members));
}

abbrev pub decreases-visit_members-loop-at : goal.decreases-visit_members-loop-at
decreases-visit_members-loop-at g l = l.at

abbrev pub invariant-visit_operands-loop-at : goal.invariant-visit_operands-loop-at
invariant-visit_operands-loop-at g l = record {
  within : l.at ≤ length l.operands;
  visited : l.visitor ≡ back g.V.Visitor.after l.fn.visitor (operands_acts l.funcs l.conditional (drop l.at l.operands));
  awaits : (c : Bool) → l.later ≡ awaits_of l.funcs (operands_acts l.funcs c (drop l.at l.operands));
}

abbrev pub decreases-visit_operands-loop-at : goal.decreases-visit_operands-loop-at
decreases-visit_operands-loop-at g l = l.at
