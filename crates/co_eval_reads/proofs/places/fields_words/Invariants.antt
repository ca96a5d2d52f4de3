use Rattle.std.specs.Prelude.{◌≡◌, ◌+◌, length}
use Rattle.co_core_tree.specs.Sizes.{class_words, fields_words}
use Rattle.co_eval_reads.proofs.places.fields_words.Given as goal

abbrev pub invariant-loop-rest : goal.invariant-loop-rest
invariant-loop-rest l =
    l.sum + fields_words (λ c. class_words l.program.unit.now.classes c) l.rest ≡ fields_words (λ c. class_words l.program.unit.now.classes c) l.fields

abbrev pub decreases-loop-rest : goal.decreases-loop-rest
decreases-loop-rest l = length l.rest
