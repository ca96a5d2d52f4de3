use Rattle.std.proofs.Common.{◌≡◌}
use Rattle.co_eval_data.proofs.Opening.{exchange_place}
use Rattle.co_eval_nodes.proofs.expressions.exchanged_for.Goals as goal

pub returns-in-Exchange-clause-some : goal.returns-in-Exchange-clause-some
returns-in-Exchange-clause-some c = search (exchange_place, c.in-Exchange.is, c.get.ensures, c.in-Expr.is, c.in-Expr.e-is)
