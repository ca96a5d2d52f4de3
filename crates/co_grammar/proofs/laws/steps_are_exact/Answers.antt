use Rattle.co_grammar.proofs.Exact.{steps_are_exact}
use Rattle.co_grammar.proofs.laws.steps_are_exact.Goals as goal

pub returns : goal.returns
returns c = steps_are_exact
