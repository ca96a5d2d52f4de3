use Rattle.std.specs.Prelude.{◌≡◌, ◌++◌, length, map}
use Rattle.co_eval_data.specs.Seen.{alive_of, ending_of}
use Rattle.co_meaning_calls.specs.Objects as objects
use Rattle.co_eval_parts.proofs.end_lists.endings.Given as goal

abbrev pub invariant-loop-rest : goal.invariant-loop-rest
invariant-loop-rest l = map ending_of l.list ++ objects.endings (map alive_of l.rest) ≡ objects.endings (map alive_of l.alive)

abbrev pub decreases-loop-rest : goal.decreases-loop-rest
decreases-loop-rest l = length l.rest
