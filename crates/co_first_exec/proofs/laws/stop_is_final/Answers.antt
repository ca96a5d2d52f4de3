use Rattle.co_first_exec.proofs.Limits.{final}
use Rattle.co_first_exec.proofs.laws.stop_is_final.Goals as goal

pub returns : goal.returns
returns c = final
