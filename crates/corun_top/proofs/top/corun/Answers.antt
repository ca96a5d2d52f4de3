use Rattle.corun_top.specs.declared.answer.Answer.TheVariants.{Ran}
use Rattle.corun_top.proofs.Answering.{run_written}
use Rattle.corun_top.proofs.top.corun.Goals as goal

pub returns-in-Ran-clause-answer : goal.returns-in-Ran-clause-answer
returns-in-Ran-clause-answer g c =
    (Ran c.in-Ran.local, c.in-Ran.ensures.answer, run_written c.in-Ran.local _ _ _ _ _ _ _ _ _ c.prints.ensures c.stop.ensures c.run_end-end.ensures c.run_counts.ensures c.report_run.ensures)
