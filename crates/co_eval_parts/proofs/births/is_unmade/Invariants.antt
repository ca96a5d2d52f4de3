use Rattle.std.specs.Prelude.{◌≡◌, length, map}
use Rattle.co_eval_data.specs.Seen.{temporal_of}
use Rattle.co_eval_parts.specs.Rooms.{is_unmade}
use Rattle.co_eval_parts.proofs.births.is_unmade.Given as goal

abbrev pub invariant-loop-rest : goal.invariant-loop-rest
invariant-loop-rest l = is_unmade l.slot (map temporal_of l.rest) ≡ is_unmade l.slot (map temporal_of l.temporaries)

abbrev pub decreases-loop-rest : goal.decreases-loop-rest
decreases-loop-rest l = length l.rest
