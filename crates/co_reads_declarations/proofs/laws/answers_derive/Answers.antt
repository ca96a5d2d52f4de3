use Rattle.co_reads_declarations.proofs.Trees.{answers_derive}
use Rattle.co_reads_declarations.proofs.laws.answers_derive.Goals as goal

pub returns : goal.returns
returns c = answers_derive
