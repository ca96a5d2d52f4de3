use Rattle.std.proofs.Common.{◌≡◌}
use Rattle.co_eval_data.proofs.Opening.{update_value}
use Rattle.co_eval_nodes.proofs.expressions.update_in.Goals as goal

pub returns-in-Update-clause-value : goal.returns-in-Update-clause-value
returns-in-Update-clause-value c = search (update_value, c.in-Update.is, c.get.ensures, c.in-Expr.is, c.in-Expr.e-is)
