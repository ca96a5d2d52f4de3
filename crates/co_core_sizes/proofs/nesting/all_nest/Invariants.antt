use Rattle.std.proofs.Common.{◌≡◌, length, drop}
use Rattle.co_core.specs.Counts.{classes_nest, each_class, nests_within}
use Rattle.co_core_sizes.specs.Depths.{AreNoted}
use Rattle.co_core_sizes.proofs.nesting.all_nest.Given as goal

abbrev pub invariant-loop-number : goal.invariant-loop-number
invariant-loop-number l =
    AreNoted l.classes l.depths × (each_class (λ c. nests_within (length l.classes) l.classes c) l.number (drop l.number l.classes) ≡ classes_nest l.classes)
