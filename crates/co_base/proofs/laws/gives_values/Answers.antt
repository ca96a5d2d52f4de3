use Rattle.co_base.proofs.Closed.{gives_values}
use Rattle.co_base.proofs.laws.gives_values.Goals as goal

pub returns : goal.returns
returns c = gives_values
