use Rattle.co_core_scopes.proofs.Forms.{makes_try}
use Rattle.co_core_scopes.proofs.makes.MakesStmtVisitor.visit_stmt.Goals as goal

pub returns-in-Try : goal.returns-in-Try
returns-in-Try c = makes_try c.args.self.now _ _ _ _ _ _ c.in-Try.is c.as_slice.ensures c.make_variables.ensures
