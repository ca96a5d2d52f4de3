use Rattle.std.proofs.Common.{◌≡◌, ◌+◌, ◌*◌, length}
use Rattle.std.specs.Prelude.{true}
use Rattle.std.specs.List.{list_all}
use Rattle.co_core_tree.specs.Sizes.{class_words_within, fields_words}
use Rattle.co_core.specs.Counts.{field_nests, nests_within}
use Rattle.co_core_sizes.specs.Counted.{AreCounted}
use Rattle.co_core_sizes.proofs.words.+words.Given as goal

abbrev pub invariant-beside_fields-loop-rest : goal.invariant-beside_fields-loop-rest
invariant-beside_fields-loop-rest l =
    (list_all (field_nests (λ c. nests_within l.depth l.classes c)) l.rest ≡ true) × AreCounted l.classes l.counted ×
    (l.left + fields_words (λ c. class_words_within l.depth l.classes c) l.fields ≡ l.room + fields_words (λ c. class_words_within l.depth l.classes c) l.rest)

abbrev pub decreases-beside_fields-loop-rest : goal.decreases-beside_fields-loop-rest
decreases-beside_fields-loop-rest l = length l.rest

abbrev pub decreases-beside_class : goal.decreases-beside_class
decreases-beside_class l = 5 * l.depth

abbrev pub decreases-beside_new : goal.decreases-beside_new
decreases-beside_new l = 5 * l.depth + 4

abbrev pub decreases-beside_info : goal.decreases-beside_info
decreases-beside_info l = 5 * l.depth + 3

abbrev pub decreases-beside_fields : goal.decreases-beside_fields
decreases-beside_fields l = 5 * l.depth + 2

abbrev pub decreases-beside_head : goal.decreases-beside_head
decreases-beside_head l = 5 * l.depth + 1
