use Rattle.co_core_kept.proofs.Marking.{await_marked}
use Rattle.co_core_kept.proofs.holders.HoldersVisitor.does.Goals as goal

pub returns-in-Await : goal.returns-in-Await
returns-in-Await c = await_marked c.args.self.now _ _ _ _ c.in-Await.is c.get.ensures c.mark.ensures
