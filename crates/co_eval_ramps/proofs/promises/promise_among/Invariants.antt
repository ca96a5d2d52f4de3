use Rattle.std.specs.Prelude.{◌≡◌, ◌+◌, ◌≤◌, length}
use Rattle.co_meaning_calls.specs.Coroutines.{promise_among}
use Rattle.co_eval_ramps.proofs.promises.promise_among.Given as goal

abbrev pub invariant-loop-rest : goal.invariant-loop-rest
invariant-loop-rest l = (l.at + length l.rest ≤ length l.slots) × (promise_among l.at l.rest ≡ promise_among 0 l.slots)

abbrev pub decreases-loop-rest : goal.decreases-loop-rest
decreases-loop-rest l = length l.rest
