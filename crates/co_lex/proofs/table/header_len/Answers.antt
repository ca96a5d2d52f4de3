use Rattle.std.proofs.Common.{rules}
use Rattle.co_lex.specs.Table.{header_len}
use Rattle.co_lex.proofs.table.header_len.Goals as goal

pub returns-clause-value : goal.returns-clause-value
unfolding header_len
returns-clause-value c = search rules
