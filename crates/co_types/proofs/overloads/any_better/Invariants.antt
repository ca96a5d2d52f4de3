use Rattle.std.proofs.Common.{◌≡◌, length}
use Rattle.co_types.specs.Choosing as spec
use Rattle.co_types.proofs.overloads.any_better.Given as goal

abbrev pub invariant-loop-args : goal.invariant-loop-args
invariant-loop-args l = spec.any_better l.args l.own l.other ≡ spec.any_better l.initial.args l.initial.own l.initial.other

abbrev pub decreases-loop-args : goal.decreases-loop-args
decreases-loop-args l = length l.args
