use Rattle.co_reads_statements.proofs.Statements.{block_within_taken}
use Rattle.co_reads_statements.proofs.laws.blocks_are_read.Goals as goal

pub returns : goal.returns
returns c = block_within_taken
