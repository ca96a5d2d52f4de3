use Rattle.co_reads.proofs.Machine.{scanned_runs}
use Rattle.co_reads.proofs.laws.scanned_runs.Goals as goal

pub returns : goal.returns
returns c = scanned_runs
