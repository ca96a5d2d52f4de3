use Rattle.co_reads_statements.proofs.Statements.{nested_statements}
use Rattle.co_reads_statements.proofs.laws.statements_are_read.Goals as goal

pub returns : goal.returns
returns c = nested_statements
