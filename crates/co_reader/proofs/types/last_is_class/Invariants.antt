use Rattle.std.proofs.Common.{◌≡◌, false, length}
use Rattle.co_rules.specs.Names.{holds}
use Rattle.co_reader.specs.Types.{last_is_class}
use Rattle.co_reader.proofs.types.last_is_class.Given as goal

abbrev pub invariant-loop-names : goal.invariant-loop-names
invariant-loop-names l = last_is_class (holds l.fn.classes) false l.fn.names ≡ last_is_class (holds l.classes) l.is_class l.names

abbrev pub decreases-loop-names : goal.decreases-loop-names
decreases-loop-names l = length l.names
