use Rattle.std.proofs.Common.{◌≡◌}
use Rattle.co_eval_data.proofs.Opening.{same_right}
use Rattle.co_eval_nodes.proofs.expressions.compared_to.Goals as goal

pub returns-in-Same-clause-some : goal.returns-in-Same-clause-some
returns-in-Same-clause-some c = search (same_right, c.in-Same.is, c.get.ensures, c.in-Expr.is, c.in-Expr.e-is)
