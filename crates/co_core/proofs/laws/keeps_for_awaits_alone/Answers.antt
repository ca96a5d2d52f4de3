use Rattle.co_core.proofs.Keeping.{keeps_for_awaits}
use Rattle.co_core.proofs.laws.keeps_for_awaits_alone.Goals as goal

pub returns : goal.returns
returns c = keeps_for_awaits
