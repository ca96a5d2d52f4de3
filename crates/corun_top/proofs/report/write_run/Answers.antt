use Rattle.std.proofs.lemmas.Result.{on_err_weaker}
use Rattle.std.specs.Prelude.{flat_map}
use Rattle.corun_top.specs.Texts.{print_text}
use Rattle.corun_top.specs.Written.{Broke}
use Rattle.corun_top.proofs.Writing.{broke_second}
use Rattle.corun_top.proofs.report.write_run.Goals as goal

pub returns-clause-failed : goal.returns-clause-failed
returns-clause-failed g c =
    on_err_weaker c.offer.result
    (λ (broke : Broke c.end_line.result (record { taken = g.O.Sink.taken c.write_prints.new.out; faults = g.O.Sink.faults c.write_prints.new.out }) (record { taken = g.O.Sink.taken c.offer.new.sink; faults = g.O.Sink.faults c.offer.new.sink })).
    broke_second (flat_map print_text c.args.prints.now) _ _ _ _ c.in_ok-write_prints.ensures.ok (rw (← c.end_line.ensures) broke))
    c.offer.ensures.failed
