use Rattle.std.proofs.Common.{◌≡◌, ◌+◌, ◌*◌, length}
use Rattle.co_types.specs.Special.{all_allow, both, special_within}
use Rattle.co_types.proofs.specials.+specials.Given as goal

abbrev pub invariant-fields_allow-loop-rest : goal.invariant-fields_allow-loop-rest
invariant-fields_allow-loop-rest l = both l.allowed (all_allow (λ c. special_within l.depth l.table c) l.rest) ≡ all_allow (λ c. special_within l.depth l.table c) l.fields

abbrev pub decreases-fields_allow-loop-rest : goal.decreases-fields_allow-loop-rest
decreases-fields_allow-loop-rest l = length l.rest

abbrev pub decreases-special_within : goal.decreases-special_within
decreases-special_within l = 3 * l.depth

abbrev pub decreases-fields_allow : goal.decreases-fields_allow
decreases-fields_allow l = 3 * l.depth + 2

abbrev pub decreases-field_allows : goal.decreases-field_allows
decreases-field_allows l = 3 * l.depth + 1
