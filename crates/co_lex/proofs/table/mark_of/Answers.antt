use Rattle.std.proofs.Common.{rules}
use Rattle.co_lex.specs.Table.{mark_of}
use Rattle.co_lex.proofs.Marks.{mark_of-some}
use Rattle.co_lex.proofs.table.mark_of.Goals as goal

pub returns-clause-value : goal.returns-clause-value
unfolding mark_of
returns-clause-value c = search rules

pub returns-clause-some : goal.returns-clause-some
unfolding mark_of
returns-clause-some c = rw c.front.ensures.value (mark_of-some c.args.bytes.now)
