use Rattle.std.specs.Prelude.{◌≡◌, drop, length, ◌-◌}
use Rattle.co_meaning.specs.Statements.{first_handler}
use Rattle.co_eval_statements.proofs.handlers.first_handler.Given as goal

abbrev pub invariant-loop-at : goal.invariant-loop-at
invariant-loop-at l = first_handler l.value (drop l.at l.handlers) ≡ first_handler l.value l.handlers

abbrev pub decreases-loop-at : goal.decreases-loop-at
decreases-loop-at l = length l.handlers - l.at
