use Rattle.co_print_laws.proofs.Printed as lemma
use Rattle.co_print_laws.proofs.laws.printed_derives.Goals as goal

pub returns : goal.returns
returns c = lemma.printed_derives
