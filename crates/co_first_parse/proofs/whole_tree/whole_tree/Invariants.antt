use Rattle.std.proofs.Common.{length}
use Rattle.co_first_parse.proofs.Whole.{Parsing}
use Rattle.co_first_parse.proofs.whole_tree.whole_tree.Given as goal

abbrev pub invariant-turns : goal.invariant-turns
invariant-turns l = Parsing l.fn.tokens l.parser

abbrev pub decreases-turns : goal.decreases-turns
decreases-turns l = length l.parser.tokens
