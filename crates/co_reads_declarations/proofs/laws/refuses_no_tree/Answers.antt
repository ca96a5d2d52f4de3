use Rattle.co_reads_declarations.proofs.Trees.{refuses_no_tree}
use Rattle.co_reads_declarations.proofs.laws.refuses_no_tree.Goals as goal

pub returns : goal.returns
returns c = refuses_no_tree
