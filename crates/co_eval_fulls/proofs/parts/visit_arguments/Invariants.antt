use Rattle.std.proofs.Common.{◌≡◌, ◌≤◌, drop, length}
use Rattle.co_core_acts.specs.Visits.{back}
use Rattle.co_core_tree.specs.Slots.{class_params}
use Rattle.co_meaning_calls.specs.Calls.{arguments_acts, without}
use Rattle.co_eval_fulls.proofs.parts.visit_arguments.Given as goal

abbrev pub invariant-loop-at : goal.invariant-loop-at
invariant-loop-at g l = record {
  within : l.at ≤ length l.args;
  visited : l.visitor ≡ back g.V.Visitor.after l.fn.visitor (arguments_acts l.funcs (drop l.at (without l.given (class_params l.funcs l.func))) (drop l.at l.args));
}

abbrev pub decreases-loop-at : goal.decreases-loop-at
decreases-loop-at g l = l.at
