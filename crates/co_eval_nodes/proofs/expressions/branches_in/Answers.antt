use Rattle.std.proofs.Common.{◌≡◌}
use Rattle.co_eval_data.proofs.Opening.{pick_one}
use Rattle.co_eval_nodes.proofs.expressions.branches_in.Goals as goal

pub returns-in-Pick-clause-some : goal.returns-in-Pick-clause-some
returns-in-Pick-clause-some c = search (pick_one, c.in-Pick.is, c.get.ensures, c.get-in-Pick.ensures, c.in-Expr.is, c.in-Expr.e-is)
