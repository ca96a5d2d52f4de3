use Rattle.co_machine.proofs.Rest.{stopped}
use Rattle.co_machine.proofs.laws.stays_stopped.Goals as goal

pub returns : goal.returns
returns c = stopped
