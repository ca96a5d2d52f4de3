use Rattle.co_core_walks.proofs.Opening.{names_await, names_delete, names_handle, names_lib, names_new}
use Rattle.co_core_walks.proofs.ids.HeldRule.expr_holds.Goals as goal

pub returns-in-Await : goal.returns-in-Await
returns-in-Await c = λ conditional. names_await c.args.self.now.scene.unit.now c.args.self.now.scene.func.now _ _ _ _ c.in-Await.is c.get.ensures c.slot_held-in-Await.ensures

pub returns-in-Handle : goal.returns-in-Handle
returns-in-Handle c = λ conditional. names_handle c.args.self.now.scene.unit.now c.args.self.now.scene.func.now _ _ _ _ _ c.in-Handle.is c.handle_held.ensures

pub returns-in-Lib : goal.returns-in-Lib
returns-in-Lib c = λ conditional. names_lib c.args.self.now.scene.unit.now c.args.self.now.scene.func.now _ _ _ _ _ _ c.in-Lib.is c.as_slice.ensures c.lib_held.ensures

pub returns-in-New : goal.returns-in-New
returns-in-New c = λ conditional. names_new c.args.self.now.scene.unit.now c.args.self.now.scene.func.now _ _ _ _ c.in-New.is c.get-in-New.ensures c.new_held.ensures

pub returns-in-Delete : goal.returns-in-Delete
returns-in-Delete c = λ conditional. names_delete c.args.self.now.scene.unit.now c.args.self.now.scene.func.now _ _ _ _ c.in-Delete.is c.get-in-Delete.ensures c.delete_held.ensures
