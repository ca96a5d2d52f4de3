use Rattle.co_machine.proofs.Rest.{seen_stop}
use Rattle.co_machine.proofs.laws.stays_seen.Goals as goal

pub returns : goal.returns
returns c = seen_stop
