use Rattle.co_machine.proofs.Within.{within}
use Rattle.co_machine.proofs.laws.stays_within.Goals as goal

pub returns : goal.returns
returns c = within
