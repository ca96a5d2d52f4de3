use Rattle.co_reads_declarations.proofs.Trees.{parses}
use Rattle.co_reads_declarations.proofs.laws.parses.Goals as goal

pub returns : goal.returns
returns c = parses
