use Rattle.co_first_faithful.proofs.Theorem.{faithful}
use Rattle.co_first_faithful.proofs.faithful.code_is_faithful.Goals as goal

pub returns : goal.returns
returns c = faithful
