use Rattle.co_lex.proofs.Spelling.{tokens_spell}
use Rattle.co_lex.proofs.laws.tokens_spell.Goals as goal

pub returns : goal.returns
returns c = tokens_spell
