use Rattle.co_core_scopes.proofs.Around.{visible_is}
use Rattle.co_core_scopes.proofs.functions.func_visible.Goals as goal

pub returns : goal.returns
returns c = λ slots ids made. visible_is c.args.scene.unit.now c.args.scene.func.now _ _ c.nothing_visible-v.ensures (c.visit_func.ensures c.args.scene.unit.now.funcs) slots ids made
