use Rattle.co_first_meaning.proofs.Runs.{grows}
use Rattle.co_first_meaning.proofs.laws.prints_grow.Goals as goal

pub returns : goal.returns
returns c = grows
