use Rattle.co_reads.proofs.Expressions.{nested}
use Rattle.co_reads.proofs.laws.operands_are_read.Goals as goal

pub returns : goal.returns
returns c = λ C depth least R ts o u b h. (nested C depth).operand least R ts o u b h
