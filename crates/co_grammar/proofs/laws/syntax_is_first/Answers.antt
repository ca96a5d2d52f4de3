use Rattle.co_grammar.proofs.Exact.{syntax_is_first}
use Rattle.co_grammar.proofs.laws.syntax_is_first.Goals as goal

pub returns : goal.returns
returns c = syntax_is_first
