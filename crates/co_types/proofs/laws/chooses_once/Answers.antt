use Rattle.co_types.proofs.Once.{once}
use Rattle.co_types.proofs.laws.chooses_once.Goals as goal

pub returns : goal.returns
returns c = once
