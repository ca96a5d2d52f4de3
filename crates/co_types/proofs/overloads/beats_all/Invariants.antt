use Rattle.co_types.specs.Choosing.{BeatsAll}
use Rattle.co_types.proofs.overloads.beats_all.Given as goal

abbrev pub invariant-loop-at : goal.invariant-loop-at
invariant-loop-at l = BeatsAll l.candidates l.args l.best l.at
