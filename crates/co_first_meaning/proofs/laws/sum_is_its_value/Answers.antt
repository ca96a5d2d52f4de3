use Rattle.co_first_meaning.proofs.Runs.{from_the_left}
use Rattle.co_first_meaning.proofs.laws.sum_is_its_value.Goals as goal

pub returns : goal.returns
returns c = from_the_left
