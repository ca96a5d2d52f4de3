use Rattle.co_types.proofs.Equal.{equal, same}
use Rattle.co_types.proofs.laws.same_is_equal.Goals as goal

pub returns : goal.returns
returns c a b = (equal a b, same a b)
