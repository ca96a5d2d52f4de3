use Rattle.co_print_laws.proofs.Printed as lemma
use Rattle.co_print_laws.proofs.laws.tree_of_tokens.Goals as goal

pub returns : goal.returns
returns c = lemma.tree_of_tokens
