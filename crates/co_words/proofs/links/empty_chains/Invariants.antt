use Rattle.std.proofs.Common.{◌≡◌, length}
use Rattle.co_words.specs.Chains.{AllEmpty}
use Rattle.co_words.proofs.links.empty_chains.Given as goal

abbrev pub invariant-loop-n : goal.invariant-loop-n
invariant-loop-n l = (length l.list.items ≡ l.n) × AllEmpty l.list.items
