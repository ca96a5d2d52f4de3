use Rattle.std.proofs.Common.{rules}
use Rattle.co_lex.specs.Table.{word_of}
use Rattle.co_lex.proofs.table.word_of.Goals as goal

pub returns : goal.returns
unfolding word_of
returns c = search rules
