use Rattle.co_meaning.proofs.Moves.{grow}
use Rattle.co_meaning.proofs.laws.events_grow.Goals as goal

pub returns : goal.returns
returns c = grow
