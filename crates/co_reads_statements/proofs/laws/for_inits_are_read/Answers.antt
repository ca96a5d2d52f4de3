use Rattle.co_reads.proofs.Expressions.{nested}
use Rattle.co_reads_statements.proofs.Shorts.{short_taken}
use Rattle.co_reads_statements.proofs.laws.for_inits_are_read.Goals as goal

pub returns : goal.returns
returns c = λ C depth R ts b h. short_taken (nested C depth) b h
