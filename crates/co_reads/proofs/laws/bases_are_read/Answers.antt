use Rattle.co_reads.proofs.Bases.{base_taken}
use Rattle.co_reads.proofs.laws.bases_are_read.Goals as goal

pub returns : goal.returns
returns c = λ C R ts h. base_taken h
