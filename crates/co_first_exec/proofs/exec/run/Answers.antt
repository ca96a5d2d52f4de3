use Rattle.std.proofs.Common.{suc, ap, ◌∙◌}
use Rattle.co_first_exec.specs.Machine.{turn}
use Rattle.co_first_exec.proofs.exec.run.Goals as goal

pub loop-local-preserved : goal.loop-local-preserved
loop-local-preserved c =
    (suc c.loop-local.invariant.0, c.exec_one.ensures ∙ ap (turn c.args.image.now.code) c.loop-local.invariant.1)
