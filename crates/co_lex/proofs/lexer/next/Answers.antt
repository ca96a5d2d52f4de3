use Rattle.std.proofs.Common.{rules}
use Rattle.co_lex.specs.Lexer.{next}
use Rattle.co_lex.proofs.Pieces.{piece-solid}
use Rattle.co_lex.proofs.lexer.next.Goals as goal

pub returns-in-Blank-clause-value : goal.returns-in-Blank-clause-value
unfolding next
returns-in-Blank-clause-value c = rw (← c.begins-start.ensures, c.in-Blank.is) (search rules)

pub returns-in-Feed-clause-value : goal.returns-in-Feed-clause-value
unfolding next
returns-in-Feed-clause-value c = rw (← c.begins-start.ensures, c.in-Feed.is) (search rules)

pub returns-in-Slash-clause-value : goal.returns-in-Slash-clause-value
unfolding next
returns-in-Slash-clause-value c = rw (← c.begins-start.ensures, c.in-Slash.is) (search rules)

pub returns-in_default-clause-value : goal.returns-in_default-clause-value
unfolding next
returns-in_default-clause-value c =
    rw (← c.begins-start.ensures, piece-solid c.begins-start.result c.args.line c.args.at c.args.z.now c.in_default.not-Blank c.in_default.not-Feed c.in_default.not-Slash) c.solid.ensures.value
