use Rattle.std.proofs.Common.{◌≡◌, ◌+◌, length}
use Rattle.co_first_parse.specs.Parse.{index_from}
use Rattle.co_first_parse.proofs.names.index_of.Given as goal

abbrev pub invariant-loop-rest : goal.invariant-loop-rest
invariant-loop-rest l = (index_from l.index l.rest l.name ≡ index_from 0 l.names l.name) × (l.index + length l.rest ≡ length l.names)

abbrev pub decreases-loop-rest : goal.decreases-loop-rest
decreases-loop-rest l = length l.rest
