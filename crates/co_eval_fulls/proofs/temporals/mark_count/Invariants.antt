use Rattle.std.specs.Prelude.{◌≡◌, ◌+◌, length, map}
use Rattle.co_eval_data.specs.Seen.{temporal_of}
use Rattle.co_meaning_calls.specs.Calls as calls
use Rattle.co_eval_fulls.proofs.temporals.mark_count.Given as goal

abbrev pub invariant-loop-rest : goal.invariant-loop-rest
invariant-loop-rest l = l.count + calls.mark_count (map temporal_of l.rest) ≡ calls.mark_count (map temporal_of l.temporaries)

abbrev pub decreases-loop-rest : goal.decreases-loop-rest
decreases-loop-rest l = length l.rest
