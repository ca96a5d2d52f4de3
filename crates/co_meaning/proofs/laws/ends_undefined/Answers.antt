use Rattle.co_meaning.proofs.Moves.{ends}
use Rattle.co_meaning.proofs.laws.ends_undefined.Goals as goal

pub returns : goal.returns
returns c = ends
