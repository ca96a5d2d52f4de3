use Rattle.co_first_exec.proofs.Limits.{limits}
use Rattle.co_first_exec.proofs.laws.limits_hold.Goals as goal

pub returns : goal.returns
returns c = limits
