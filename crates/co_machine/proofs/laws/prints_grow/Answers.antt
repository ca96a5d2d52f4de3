use Rattle.co_machine.proofs.Printing.{prints_grow}
use Rattle.co_machine.proofs.laws.prints_grow.Goals as goal

pub returns : goal.returns
returns c = prints_grow
