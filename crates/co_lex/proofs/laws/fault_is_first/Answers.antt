use Rattle.co_lex.proofs.Spelling.{fault_is_first}
use Rattle.co_lex.proofs.laws.fault_is_first.Goals as goal

pub returns : goal.returns
returns c = fault_is_first
