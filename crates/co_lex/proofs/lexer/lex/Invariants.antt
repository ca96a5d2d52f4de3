use Rattle.std.proofs.Common.{◌≡◌, ◌+◌, ◌≤◌, length}
use Rattle.co_lex.specs.Lexer.{with_front, lexed_from, lexed}
use Rattle.co_lex.proofs.lexer.lex.Given as goal

abbrev pub invariant-loop-rest : goal.invariant-loop-rest
invariant-loop-rest l =
    (with_front l.tokens (lexed_from 0 l.line l.at l.rest) ≡ lexed l.fn.bytes) × (1 ≤ l.at.col) × (l.at.line + l.at.col + length l.rest ≤ length l.fn.bytes + 2)

abbrev pub decreases-loop-rest : goal.decreases-loop-rest
decreases-loop-rest l = length l.rest
