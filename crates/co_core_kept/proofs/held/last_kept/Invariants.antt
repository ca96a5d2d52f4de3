use Rattle.std.proofs.Common.{◌≡◌}
use Rattle.co_core_kept.specs.Kept.{last_keeping}
use Rattle.co_core_kept.proofs.held.last_kept.Given as goal

abbrev pub invariant-loop-end : goal.invariant-loop-end
invariant-loop-end l = last_keeping l.func l.holders l.end ≡ last_keeping l.func l.holders l.left

abbrev pub decreases-loop-end : goal.decreases-loop-end
decreases-loop-end l = l.end
