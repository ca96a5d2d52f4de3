use Rattle.std.proofs.Common.{◌∙◌, ap, sym}
use Rattle.co_core.specs.Plans.{plan_calls}
use Rattle.co_core_plans.proofs.Named.{both_hold, plan_split}
use Rattle.co_core_plans.proofs.calls.func_plan_calls.Goals as goal

pub returns-then-makes_promise : goal.returns-then-makes_promise
returns-then-makes_promise c =
    let u = c.args.scene.unit.now in
    let func = c.args.scene.func.now in
    both_hold _ _ _ _ c.makes_promise.ensures c.calls_promise.ensures c.if-makes_promise.true ∙ plan_split u func c.in-Some.plan ∙ ap (plan_calls u func) (sym c.in-Some.is)
