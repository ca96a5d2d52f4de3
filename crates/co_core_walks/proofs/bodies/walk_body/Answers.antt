use Rattle.co_core_walks.proofs.Statements.{walked_body}
use Rattle.co_core_walks.proofs.bodies.walk_body.Goals as goal

pub returns : goal.returns
returns g c = walked_body g.V.StmtVisitor.after_stmt c.args.v.now _ _ c.args.func.now.body c.in_body.ensures c.walk_stmt.ensures
