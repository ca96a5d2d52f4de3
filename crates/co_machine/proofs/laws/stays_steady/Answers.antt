use Rattle.co_machine.proofs.Steady.{steady}
use Rattle.co_machine.proofs.laws.stays_steady.Goals as goal

pub returns : goal.returns
returns c = steady
