use Rattle.std.specs.Prelude.{◌≡◌, ◌++◌, length, map}
use Rattle.co_eval_data.specs.Seen.{ending_of, temporal_of}
use Rattle.co_meaning_calls.specs.Objects as objects
use Rattle.co_eval_parts.proofs.end_lists.temporaries_end.Given as goal

abbrev pub invariant-loop-rest : goal.invariant-loop-rest
invariant-loop-rest l = map ending_of l.list ++ objects.temporaries_end (map temporal_of l.rest) ≡ objects.temporaries_end (map temporal_of l.temporaries)

abbrev pub decreases-loop-rest : goal.decreases-loop-rest
decreases-loop-rest l = length l.rest
