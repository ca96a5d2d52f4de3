use Rattle.std.proofs.Common.{ap, ◌∙◌}
use Rattle.co_first_exec.specs.Opening.{opening}
use Rattle.co_first_faithful.proofs.Theorem.{ran}
use Rattle.co_first_faithful.proofs.program.run_program.Goals as goal

pub returns : goal.returns
returns c =
    ran _ _ c.in_ok-image.image.code _ _ c.run.ensures.turns.0 c.requires c.in_ok-image.ensures (c.in_ok-local.ensures ∙ ap (λ slots. opening slots c.args.budget) c.len.ensures) c.run.ensures.turns.1 c.run.ensures.stopped
