use Rattle.std.proofs.Common.{◌≡◌, length}
use Rattle.co_types.specs.Choosing as spec
use Rattle.co_types.proofs.overloads.is_viable.Given as goal

abbrev pub invariant-loop-params : goal.invariant-loop-params
invariant-loop-params l = spec.is_viable l.params l.args ≡ spec.is_viable l.initial.params l.initial.args

abbrev pub decreases-loop-params : goal.decreases-loop-params
decreases-loop-params l = length l.params
