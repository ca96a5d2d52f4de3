use Rattle.co_reads.proofs.Paths.{class_taken}
use Rattle.co_reads.proofs.laws.class_paths_are_read.Goals as goal

pub returns : goal.returns
returns c = λ C R ts h. class_taken h
