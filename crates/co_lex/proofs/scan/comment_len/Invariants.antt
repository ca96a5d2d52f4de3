use Rattle.std.proofs.Common.{◌≡◌, ◌+◌, drop}
use Rattle.co_lex.specs.Scan.{comment_len}
use Rattle.co_lex.proofs.scan.comment_len.Given as goal

abbrev pub invariant-loop-at : goal.invariant-loop-at
invariant-loop-at l = l.at + comment_len (drop l.at l.z) ≡ comment_len l.z
