use Rattle.std.proofs.Common.{◌∙◌, ◌&&◌, ap, sym}
use Rattle.std.specs.List.{list_all}
use Rattle.co_core.specs.Bodies.{func_acts}
use Rattle.co_core.specs.Plans.{act_gives_noexcept, plan_gives_noexcept}
use Rattle.co_core_plans.proofs.ends.func_noexcept.Goals as goal

pub returns-then-not-role_noexcept : goal.returns-then-not-role_noexcept
returns-then-not-role_noexcept c =
    let u = c.args.unit.now in
    ap (λ b. b && (plan_gives_noexcept u c.args.func.now.plan && list_all (act_gives_noexcept u) (func_acts u.funcs c.args.func.now))) (sym c.if-not-role_noexcept.true ∙ c.role_noexcept.ensures u)

pub returns : goal.returns
returns c =
    let u = c.args.unit.now in
    c.releases_noexcept.ensures ∙ ap (λ b. b && (plan_gives_noexcept u c.args.func.now.plan && list_all (act_gives_noexcept u) (func_acts u.funcs c.args.func.now))) (sym c.if-not-role_noexcept.false ∙ c.role_noexcept.ensures u)
