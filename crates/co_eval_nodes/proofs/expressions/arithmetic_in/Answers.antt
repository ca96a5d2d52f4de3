use Rattle.std.proofs.Common.{◌≡◌}
use Rattle.co_eval_data.proofs.Opening.{arith_right}
use Rattle.co_eval_nodes.proofs.expressions.arithmetic_in.Goals as goal

pub returns-in-Arith-clause-right : goal.returns-in-Arith-clause-right
returns-in-Arith-clause-right c = search (arith_right, c.in-Arith.is, c.get.ensures, c.in-Expr.is, c.in-Expr.e-is)
