use Rattle.std.proofs.Common.{◌≡◌, length, drop}
use Rattle.std.specs.Prelude.{true, nat_le}
use Rattle.co_core_tree.specs.Sizes.{class_words}
use Rattle.co_core.specs.Counts.{each_class, nests_within, words_fit}
use Rattle.co_core_sizes.specs.Counted.{AreCounted}
use Rattle.co_core_sizes.proofs.words.all_words_fit.Given as goal

abbrev pub invariant-loop-number : goal.invariant-loop-number
invariant-loop-number l =
    AreCounted l.classes l.counted × (each_class (λ c. nests_within (length l.classes) l.classes c) l.number (drop l.number l.classes) ≡ true) ×
    (each_class (λ c. nat_le (class_words l.classes c) 1024) l.number (drop l.number l.classes) ≡ words_fit l.classes)
