use Rattle.std.specs.Prelude.{◌≡◌, ◌+◌, ◌≤◌, length}
use Rattle.co_meaning_data.specs.Turn.{coroutines_before}
use Rattle.co_eval_reads.proofs.funcs.coroutines_before.Given as goal

abbrev pub invariant-loop-rest : goal.invariant-loop-rest
invariant-loop-rest l =
    (l.before + length l.rest ≤ length l.funcs) × (l.before + coroutines_before l.left l.rest ≡ coroutines_before l.count l.funcs)

abbrev pub decreases-loop-rest : goal.decreases-loop-rest
decreases-loop-rest l = length l.rest
