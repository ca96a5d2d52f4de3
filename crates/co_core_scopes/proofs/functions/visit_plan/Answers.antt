use Rattle.co_core_scopes.proofs.Around.{plan_steps}
use Rattle.co_core_scopes.proofs.functions.visit_plan.Goals as goal

pub returns-in-Some : goal.returns-in-Some
returns-in-Some c = λ funcs.
    plan_steps funcs c.args.v.now _ _ _ _ _ _ _ _ _ _ c.in-Some.is c.as_slice.ensures c.as_slice-in-Some.ensures c.as_slice-in-Some-2.ensures (c.visit_inits.ensures funcs) (c.visit_copies.ensures funcs) (c.visit_inits-in-Some.ensures funcs) (c.visit_await.ensures funcs) (c.visit_await-in-Some.ensures funcs)
