use Rattle.std.proofs.Common.{◌≡◌, ◌≤◌, ◌-◌, vec_len}
use Rattle.co_base.specs.Outside.{HoldsFirst}
use Rattle.co_base.proofs.outside.read_all.Given as goal

abbrev pub invariant-loop-part : goal.invariant-loop-part
invariant-loop-part g l = record {
  bytes : HoldsFirst (g.F.Files.told l.initial.files l.name) (vec_len l.bytes) l.bytes.items;
  within : vec_len l.bytes ≤ l.most;
  same : g.F.Files.told l.files ≡ g.F.Files.told l.initial.files;
  faults : g.F.Files.faults l.files ≡ g.F.Files.faults l.initial.files;
}

abbrev pub decreases-loop-part : goal.decreases-loop-part
decreases-loop-part g l = l.most - vec_len l.bytes
