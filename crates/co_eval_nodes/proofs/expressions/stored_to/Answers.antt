use Rattle.std.proofs.Common.{◌≡◌}
use Rattle.co_eval_data.proofs.Opening.{store_value}
use Rattle.co_eval_nodes.proofs.expressions.stored_to.Goals as goal

pub returns-in-Store-clause-some : goal.returns-in-Store-clause-some
returns-in-Store-clause-some c = search (store_value, c.in-Store.is, c.get.ensures, c.in-Expr.is, c.in-Expr.e-is)
