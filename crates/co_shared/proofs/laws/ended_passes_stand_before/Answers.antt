use Rattle.co_shared.proofs.Logs.{nothing_after}
use Rattle.co_shared.proofs.laws.ended_passes_stand_before.Goals as goal

pub returns : goal.returns
returns c = nothing_after
