use Rattle.std.proofs.Common.{◌≡◌, ◌<◌, ◌^◌, length}
use Rattle.co_first_parse.specs.Lex.{value_from}
use Rattle.co_first_parse.proofs.lex.value.Given as goal

abbrev pub invariant-loop-rest : goal.invariant-loop-rest
invariant-loop-rest l = (value_from l.value l.rest ≡ value_from 0 l.digits) × (l.value < 2 ^ 31)

abbrev pub decreases-loop-rest : goal.decreases-loop-rest
decreases-loop-rest l = length l.rest
