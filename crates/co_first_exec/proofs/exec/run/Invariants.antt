use Rattle.std.proofs.Common.{◌≡◌, ℕ}
use Rattle.co_first_exec.specs.Machine.{turns}
use Rattle.co_first_exec.proofs.Counts.{weight}
use Rattle.co_first_exec.proofs.exec.run.Given as goal

abbrev pub invariant-loop-local : goal.invariant-loop-local
invariant-loop-local l = (n : ℕ) × (l.local ≡ turns l.image.code n l.initial.local)

abbrev pub decreases-loop-local : goal.decreases-loop-local
decreases-loop-local l = weight l.local
