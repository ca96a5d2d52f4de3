use Rattle.co_meaning.proofs.Moves.{leaves_alone}
use Rattle.co_meaning.proofs.laws.leaves_others.Goals as goal

pub returns : goal.returns
returns c = leaves_alone
