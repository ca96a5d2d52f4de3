use Rattle.std.proofs.Common.{◌≡◌, ◌≤◌, length}
use Rattle.co_first_parse.specs.Parse.{terms_of}
use Rattle.co_first_parse.proofs.Terms.{behind}
use Rattle.co_first_parse.proofs.sums.terms.Given as goal

abbrev pub invariant-loop-op : goal.invariant-loop-op
invariant-loop-op l = (terms_of l.names l.fn.tokens ≡ behind l.terms (terms_of l.names l.tokens)) × (length l.tokens ≤ length l.fn.tokens)

abbrev pub decreases-loop-op : goal.decreases-loop-op
decreases-loop-op l = length l.tokens
