use Rattle.co_core_walks.proofs.Opening.{names_try}
use Rattle.co_core_walks.proofs.ids.HeldStmtRule.stmt_holds.Goals as goal

pub returns-in-Try : goal.returns-in-Try
returns-in-Try c = names_try c.args.self.now.scene.unit.now c.args.self.now.scene.func.now _ _ _ _ _ _ c.in-Try.is c.as_slice.ensures c.handlers_held.ensures
