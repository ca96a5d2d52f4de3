use Rattle.co_print.proofs.Respelled as lemma
use Rattle.co_print.proofs.laws.printed_spells.Goals as goal

pub returns : goal.returns
returns c = lemma.printed_spells
