use Rattle.co_core_scopes.proofs.Forms.{makes_await}
use Rattle.co_core_scopes.proofs.makes.MakesVisitor.visit_expr.Goals as goal

pub returns-in-Await : goal.returns-in-Await
returns-in-Await c = λ conditional. makes_await c.args.self.now _ _ _ _ conditional c.in-Await.is c.get.ensures c.make_holder.ensures
