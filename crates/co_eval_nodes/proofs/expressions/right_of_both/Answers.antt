use Rattle.std.proofs.Common.{◌≡◌}
use Rattle.co_eval_data.proofs.Opening.{both_right}
use Rattle.co_eval_nodes.proofs.expressions.right_of_both.Goals as goal

pub returns-in-Both-clause-some : goal.returns-in-Both-clause-some
returns-in-Both-clause-some c = search (both_right, c.in-Both.is, c.get.ensures, c.in-Expr.is, c.in-Expr.e-is)
