use Rattle.std.specs.Prelude.{◌≡◌, length}
use Rattle.co_meaning_data.specs.Undefined.{null_among}
use Rattle.co_eval_reads.specs.Faults.{faults_of}
use Rattle.co_eval_reads.proofs.faults.null_among.Given as goal

abbrev pub invariant-loop-rest : goal.invariant-loop-rest
invariant-loop-rest l = null_among (faults_of l.rest) ≡ null_among (faults_of l.faults)

abbrev pub decreases-loop-rest : goal.decreases-loop-rest
decreases-loop-rest l = length l.rest
