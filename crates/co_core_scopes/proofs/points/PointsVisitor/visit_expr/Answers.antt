use Rattle.co_core_scopes.proofs.Noted.{noted_await}
use Rattle.co_core_scopes.proofs.points.PointsVisitor.visit_expr.Goals as goal

pub returns-in-Await : goal.returns-in-Await
returns-in-Await c = λ conditional. noted_await c.args.self.now _ _ _ _ conditional c.in-Await.is c.get.ensures c.note.ensures
