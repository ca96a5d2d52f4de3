use Rattle.std.proofs.Common.{◌≡◌, ap, sym, ◌∙◌}
use Rattle.std.specs.Prelude.{Some}
use Rattle.co_eval_data.proofs.Opening as opening
use Rattle.co_eval_data.specs.Seen.{with_loop}
use Rattle.co_eval_nodes.proofs.statements.loop_in.Goals as goal

pub returns-in-Loop-clause-parts : goal.returns-in-Loop-clause-parts
returns-in-Loop-clause-parts c f =
    ap (λ s. with_loop f (Some s)) c.in-Loop.is ∙ opening.with_loop f c.in-Loop.condition c.in-Loop.step c.in-Loop.body c.in-Loop.field-3 ∙ ap (λ b. f c.in-Loop.condition c.in-Loop.step b) (sym c.get.ensures)
