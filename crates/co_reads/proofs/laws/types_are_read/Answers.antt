use Rattle.co_reads.proofs.TypeIds.{type_taken}
use Rattle.co_reads.proofs.laws.types_are_read.Goals as goal

pub returns : goal.returns
returns c = λ C R ts h. type_taken h
