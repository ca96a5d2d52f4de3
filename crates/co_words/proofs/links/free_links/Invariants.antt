use Rattle.std.proofs.Common.{◌≡◌, ◌-◌, length}
use Rattle.co_words.specs.Chains.{Chained}
use Rattle.co_words.proofs.links.free_links.Given as goal

abbrev pub invariant-loop-n : goal.invariant-loop-n
invariant-loop-n l = (length l.links.items ≡ l.n) × Chained l.links.items 1025 l.n (l.n - 1)
