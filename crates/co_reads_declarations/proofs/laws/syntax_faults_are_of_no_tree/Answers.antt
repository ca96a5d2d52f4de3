use Rattle.co_reads_declarations.proofs.Trees.{syntax_faults_are_of_no_tree}
use Rattle.co_reads_declarations.proofs.laws.syntax_faults_are_of_no_tree.Goals as goal

pub returns : goal.returns
returns c = syntax_faults_are_of_no_tree
