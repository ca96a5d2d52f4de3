use Rattle.std.proofs.Common.{length}
use Rattle.co_eval_reads.proofs.pointers.+without_first.Given as goal

abbrev pub decreases-without_first : goal.decreases-without_first
decreases-without_first l = length l.path.now
