use Rattle.std.proofs.Common.{◌≡◌, length}
use Rattle.co_exec.proofs.tests.board.post_all.Given as goal

abbrev pub invariant-loop-passed : goal.invariant-loop-passed
invariant-loop-passed l = length l.words ≡ length l.fn.words
