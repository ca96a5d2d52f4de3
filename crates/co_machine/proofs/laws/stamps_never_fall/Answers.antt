use Rattle.co_machine.proofs.Printing.{never_fall}
use Rattle.co_machine.proofs.laws.stamps_never_fall.Goals as goal

pub returns : goal.returns
returns c = never_fall
