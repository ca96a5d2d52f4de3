use Rattle.std.proofs.Common.{◌∙◌, ap, refl, true}
use Rattle.co_core.specs.Bodies.{func_acts}
use Rattle.co_core_acts.specs.declared.stmts.Order.TheVariants as order
use Rattle.co_core_acts.specs.Fulls.{acts_in}
use Rattle.co_core_acts.specs.Visits.{awaits_of, back}
use Rattle.co_core_plans.specs.declared.rules.Every.{Every}
use Rattle.co_core_plans.specs.declared.rules.Rule.TheVariants as rule
use Rattle.co_core_plans.specs.Every.{every_after}
use Rattle.co_core_plans.proofs.Acts.{storage_holds}
use Rattle.co_core_plans.proofs.ends.func_storage.Goals as goal

pub returns : goal.returns
returns c =
    let v : Every = record { unit = c.args.unit; rule = rule.Storage; holds = true } in
    c.and_not.ensures
    ∙ storage_holds c.args.unit.now v _ (func_acts c.args.unit.now.funcs c.args.func.now) _
    (c.visit_func-awaits.ensures.visited ∙ ap (λ fs. back every_after v (acts_in fs order.Text c.args.func.now)) c.as_slice.ensures) refl refl refl
    (c.visit_func-awaits.ensures.awaits ∙ ap (λ fs. awaits_of fs (acts_in fs order.Text c.args.func.now)) c.as_slice.ensures)
