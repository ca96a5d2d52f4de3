use Rattle.std.proofs.Common.{◌≡◌}
use Rattle.co_eval_data.proofs.Opening.{either_right}
use Rattle.co_eval_nodes.proofs.expressions.right_of_either.Goals as goal

pub returns-in-Either-clause-some : goal.returns-in-Either-clause-some
returns-in-Either-clause-some c = search (either_right, c.in-Either.is, c.get.ensures, c.in-Expr.is, c.in-Expr.e-is)
