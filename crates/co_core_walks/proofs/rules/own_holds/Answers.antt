use Rattle.std.specs.Prelude.{true}
use Rattle.std.specs.List.{list_all}
use Rattle.std.proofs.Common.{refl, ap, ◌∙◌}
use Rattle.co_core.specs.Bodies.{joined_acts, own_fulls}
use Rattle.co_core_walks.proofs.Loops.{and_true, fold_tested}
use Rattle.co_core_walks.proofs.rules.own_holds.Goals as goal

pub returns : goal.returns
returns g c =
    let funcs = c.args.scene.unit.now.funcs in
    let rule = c.args.rule in
    let test = g.T.Rule.test rule.now in
    ap (λ s. s.holds) (c.walk_own.ensures funcs ∙ fold_tested _ (λ b. record { rule = rule; holds = b }) test (λ b x. refl) true (joined_acts funcs (own_fulls funcs c.args.s.now))) ∙ and_true (list_all test (joined_acts funcs (own_fulls funcs c.args.s.now)))
