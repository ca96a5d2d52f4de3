use Rattle.std.proofs.Common.{ap, ◌∙◌}
use Rattle.co_core.specs.Bodies.{await_acts}
use Rattle.co_core_scopes.specs.Scoped.{full_seen}
use Rattle.co_core_scopes.proofs.visible.Visible.visit_await.Goals as goal

pub returns : goal.returns
returns c = λ funcs. c.visit_full.ensures funcs ∙ ap (λ o. full_seen c.args.self.now o (await_acts funcs c.args.plan.now)) c.held_slot-own.ensures
