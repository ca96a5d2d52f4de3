use Rattle.co_base.proofs.Ranges.{holds_its_value}
use Rattle.co_base.proofs.laws.holds_its_value.Goals as goal

pub returns : goal.returns
returns c = holds_its_value
