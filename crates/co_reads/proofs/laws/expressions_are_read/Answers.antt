use Rattle.co_reads.proofs.Expressions.{nested}
use Rattle.co_reads.proofs.laws.expressions_are_read.Goals as goal

pub returns : goal.returns
returns c = λ C depth R ts b h. (nested C depth).whole R ts b h
