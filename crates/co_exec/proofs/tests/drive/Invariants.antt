use Rattle.std.proofs.Common.{◌≡◌, length}
use Rattle.co_exec.proofs.tests.drive.Given as goal

abbrev pub invariant-loop-turn : goal.invariant-loop-turn
invariant-loop-turn l = (length l.words ≡ l.local.limits.words) × (l.local.tally.idles ≡ 0)
