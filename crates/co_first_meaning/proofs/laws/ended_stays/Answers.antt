use Rattle.co_first_meaning.proofs.Runs.{stays}
use Rattle.co_first_meaning.proofs.laws.ended_stays.Goals as goal

pub returns : goal.returns
returns c = stays
