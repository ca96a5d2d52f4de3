use Rattle.co_core_walks.specs.Seen.{stands_of}
use Rattle.co_core_scopes.proofs.Forms.{local_try}
use Rattle.co_core_scopes.proofs.kinds.LocalsStmtRule.stmt_holds.Goals as goal

pub returns-in-Try : goal.returns-in-Try
returns-in-Try c = local_try c.args.self.now.func.now (stands_of c.args.stands) _ _ _ _ _ _ c.in-Try.is c.as_slice.ensures c.variables_are_local.ensures
