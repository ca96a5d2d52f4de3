use Rattle.std.proofs.Common.{◌≡◌}
use Rattle.co_eval_data.proofs.Opening.{branch_on}
use Rattle.co_eval_nodes.proofs.statements.if_in.Goals as goal

pub returns-in-If-clause-some : goal.returns-in-If-clause-some
returns-in-If-clause-some c = search (branch_on, c.in-If.is, c.get.ensures, c.get-in-If.ensures, c.in-Stmt.is, c.in-Stmt.whole-is)
