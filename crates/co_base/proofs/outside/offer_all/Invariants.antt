use Rattle.std.proofs.Common.{length, ◌-◌, ◌≡◌, ◌≤◌, take}
use Rattle.co_base.specs.Outside.{Takes}
use Rattle.co_base.proofs.outside.offer_all.Given as goal

abbrev pub invariant-loop-at : goal.invariant-loop-at
invariant-loop-at g l = record {
  within : l.at ≤ length l.piece;
  bytes : Takes (g.S.Sink.taken l.initial.sink) (take l.at l.piece) (g.S.Sink.taken l.sink);
  faults : g.S.Sink.faults l.sink ≡ g.S.Sink.faults l.initial.sink;
}

abbrev pub decreases-loop-at : goal.decreases-loop-at
decreases-loop-at g l = length l.piece - l.at
