use Rattle.co_core.proofs.Holding.{holds_valid}
use Rattle.co_core.proofs.laws.holds_is_valid.Goals as goal

pub returns : goal.returns
returns c = holds_valid
