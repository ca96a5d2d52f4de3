use Rattle.std.proofs.Common.{◌∙◌, ap, refl, true}
use Rattle.co_core.specs.Bodies.{func_acts}
use Rattle.co_core_acts.specs.Visits.{back}
use Rattle.co_core_acts.specs.declared.stmts.Order.TheVariants as order
use Rattle.co_core_acts.specs.Fulls.{acts_in}
use Rattle.co_core_plans.specs.declared.rules.Every.{Every}
use Rattle.co_core_plans.specs.Every.{every_after}
use Rattle.co_core_plans.proofs.Acts.{every_holds}
use Rattle.co_core_plans.proofs.ends.all_follow.Goals as goal

pub returns : goal.returns
returns c =
    let v : Every = record { unit = c.args.unit; rule = c.args.rule; holds = true } in
    every_holds v _ (func_acts c.args.unit.now.funcs c.args.func.now) (c.visit_func.ensures.visited ∙ ap (λ fs. back every_after v (acts_in fs order.Text c.args.func.now)) c.as_slice.ensures) refl
