use Rattle.std.proofs.Common.{length}
use Rattle.co_first_parse.proofs.Tokens.{Reading}
use Rattle.co_first_parse.proofs.lex.lex.Given as goal

abbrev pub invariant-loop-byte : goal.invariant-loop-byte
invariant-loop-byte l = Reading l.bytes l.tokens l.at l.rest

abbrev pub decreases-loop-byte : goal.decreases-loop-byte
decreases-loop-byte l = length l.rest
