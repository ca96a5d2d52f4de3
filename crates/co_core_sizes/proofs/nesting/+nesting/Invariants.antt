use Rattle.std.proofs.Common.{◌≡◌, ◌≤◌, ◌+◌, ◌*◌, length}
use Rattle.std.specs.Prelude.{ℕ, nat_le, ◌&&◌}
use Rattle.std.specs.List.{list_all}
use Rattle.co_core.specs.Counts.{field_nests, nests_within}
use Rattle.co_core_sizes.specs.Depths.{AreNoted}
use Rattle.co_core_sizes.proofs.nesting.+nesting.Given as goal

abbrev pub invariant-fields_depth-loop-rest : goal.invariant-fields_depth-loop-rest
invariant-fields_depth-loop-rest l =
    (l.deepest ≤ l.left) × AreNoted l.classes l.depths ×
    ((d : ℕ) → (nat_le l.deepest d && list_all (field_nests (λ c. nests_within d l.classes c)) l.rest) ≡ list_all (field_nests (λ c. nests_within d l.classes c)) l.fields)

abbrev pub decreases-fields_depth-loop-rest : goal.decreases-fields_depth-loop-rest
decreases-fields_depth-loop-rest l = length l.rest

abbrev pub decreases-class_depth : goal.decreases-class_depth
decreases-class_depth l = 4 * l.left

abbrev pub decreases-info_depth : goal.decreases-info_depth
decreases-info_depth l = 4 * l.left + 3

abbrev pub decreases-fields_depth : goal.decreases-fields_depth
decreases-fields_depth l = 4 * l.left + 2

abbrev pub decreases-head_depth : goal.decreases-head_depth
decreases-head_depth l = 4 * l.left + 1
