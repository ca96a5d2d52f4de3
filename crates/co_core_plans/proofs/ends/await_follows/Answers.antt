use Rattle.std.proofs.Common.{◌∙◌, ap, refl, true}
use Rattle.co_core.specs.Bodies.{await_acts}
use Rattle.co_core_acts.specs.Visits.{back}
use Rattle.co_core_plans.specs.declared.rules.Every.{Every}
use Rattle.co_core_plans.specs.Every.{every_after}
use Rattle.co_core_plans.proofs.Acts.{every_holds}
use Rattle.co_core_plans.proofs.ends.await_follows.Goals as goal

pub returns : goal.returns
returns c =
    let v : Every = record { unit = c.args.unit; rule = c.args.rule; holds = true } in
    every_holds v _ (await_acts c.args.unit.now.funcs c.args.plan.now) (c.visit_await.ensures.visited ∙ ap (λ fs. back every_after v (await_acts fs c.args.plan.now)) c.as_slice.ensures) refl
