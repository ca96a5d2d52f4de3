use Rattle.std.proofs.Common.{◌≡◌, ◌+◌, ◌-◌, ◌≤◌, length, drop}
use Rattle.std.specs.List.{prefix_len}
use Rattle.co_lex.specs.Scan.{is_in}
use Rattle.co_lex.proofs.scan.run.Given as goal

abbrev pub invariant-loop-n : goal.invariant-loop-n
invariant-loop-n l = (l.n + prefix_len (is_in l.class) (drop l.n l.z) ≡ prefix_len (is_in l.class) l.z) × (l.n ≤ length l.z)

abbrev pub decreases-loop-n : goal.decreases-loop-n
decreases-loop-n l = length l.z - l.n
