use Rattle.co_types.specs.Choosing.{IsHeld}
use Rattle.co_types.proofs.overloads.last_better.Given as goal

abbrev pub invariant-loop-at : goal.invariant-loop-at
invariant-loop-at l = IsHeld l.candidates l.args l.at l.best
