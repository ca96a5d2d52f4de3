use Rattle.co_grammar.proofs.Nearest.{nearest_if_refuses_none}
use Rattle.co_grammar.proofs.laws.nearest_if_refuses_none.Goals as goal

pub returns : goal.returns
returns c = nearest_if_refuses_none
