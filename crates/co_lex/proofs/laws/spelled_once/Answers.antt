use Rattle.co_lex.proofs.Spelling.{spelled_once}
use Rattle.co_lex.proofs.laws.spelled_once.Goals as goal

pub returns : goal.returns
returns c = spelled_once
