use Rattle.co_grammar.proofs.Exact.{depth_is_first}
use Rattle.co_grammar.proofs.laws.depth_is_first.Goals as goal

pub returns : goal.returns
returns c = depth_is_first
