use Rattle.std.specs.Prelude.{true}
use Rattle.std.specs.List.{list_all}
use Rattle.std.proofs.Common.{refl, ap, ◌∙◌}
use Rattle.co_core.specs.Bodies.{body_of}
use Rattle.co_core_walks.proofs.Loops.{and_true, fold_tested}
use Rattle.co_core_walks.proofs.rules.body_holds.Goals as goal

pub returns : goal.returns
returns g c =
    let rule = c.args.rule in
    let test = g.T.StmtRule.stmt_test rule.now in
    let acts = body_of c.args.func.now in
    ap (λ s. s.holds) (c.walk_body.ensures ∙ fold_tested _ (λ b. record { rule = rule; holds = b }) test (λ b x. refl) true acts) ∙ and_true (list_all test acts)
