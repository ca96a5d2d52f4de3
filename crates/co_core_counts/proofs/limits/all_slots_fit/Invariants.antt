use Rattle.std.proofs.Common.{◌≡◌, length}
use Rattle.std.specs.List.{list_all}
use Rattle.co_core.specs.Counts.{slots_fit}
use Rattle.co_core_counts.proofs.limits.all_slots_fit.Given as goal

abbrev pub invariant-loop-rest : goal.invariant-loop-rest
invariant-loop-rest l = list_all slots_fit l.rest ≡ list_all slots_fit l.funcs

abbrev pub decreases-loop-rest : goal.decreases-loop-rest
decreases-loop-rest l = length l.rest
