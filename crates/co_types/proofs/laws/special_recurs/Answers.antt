use Rattle.co_types.proofs.Depths.{recurs}
use Rattle.co_types.proofs.laws.special_recurs.Goals as goal

pub returns : goal.returns
returns c = recurs
