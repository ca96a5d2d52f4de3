use Rattle.co_base.proofs.Ranges.{is_held}
use Rattle.co_base.proofs.laws.is_held.Goals as goal

pub returns : goal.returns
returns c = is_held
