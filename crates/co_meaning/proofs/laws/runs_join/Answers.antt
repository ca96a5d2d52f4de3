use Rattle.co_meaning.proofs.Moves.{joins}
use Rattle.co_meaning.proofs.laws.runs_join.Goals as goal

pub returns : goal.returns
returns c = joins
