use Rattle.std.proofs.Common.{take}
use Rattle.std.specs.Prelude.{flat_map}
use Rattle.corun_top.specs.Texts.{print_text}
use Rattle.corun_top.specs.Written.{Gained}
use Rattle.corun_top.proofs.report.write_prints.Given as goal

abbrev pub invariant-loop-value : goal.invariant-loop-value
invariant-loop-value g l =
    Gained (flat_map print_text (take l.value-index l.prints))
    (record { taken = g.O.Sink.taken l.initial.out; faults = g.O.Sink.faults l.initial.out }) (record { taken = g.O.Sink.taken l.out; faults = g.O.Sink.faults l.out })
