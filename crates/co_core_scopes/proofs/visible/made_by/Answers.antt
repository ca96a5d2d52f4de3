use Rattle.co_core_scopes.proofs.Forms.{made_held}
use Rattle.co_core_scopes.proofs.visible.made_by.Goals as goal

pub returns-in-Await : goal.returns-in-Await
returns-in-Await c = made_held c.args.func.now _ _ _ _ c.in-Await.is c.get.ensures c.held_slot.ensures
