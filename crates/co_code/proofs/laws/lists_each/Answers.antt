use Rattle.co_code.proofs.Lines.{lists_each}
use Rattle.co_code.proofs.laws.lists_each.Goals as goal

pub returns : goal.returns
returns c = lists_each
