use Rattle.co_core_sizes.specs.Counted.{AreCounted}
use Rattle.co_core_sizes.proofs.Tabled.{AreWords}
use Rattle.co_core_sizes.proofs.tables.all_words.Given as goal

abbrev pub invariant-loop-number : goal.invariant-loop-number
invariant-loop-number l = AreCounted l.classes l.counted × AreWords l.classes l.number l.words
