use Rattle.co_core_scopes.proofs.Around.{func_steps}
use Rattle.co_core_scopes.proofs.functions.visit_func.Goals as goal

pub returns : goal.returns
returns c = λ funcs. func_steps funcs c.args.v.now _ _ _ c.args.func.now (c.visit_role.ensures funcs) (c.visit_plan.ensures funcs) (c.visit_stmt.ensures funcs)
