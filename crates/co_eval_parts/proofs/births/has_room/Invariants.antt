use Rattle.std.specs.Prelude.{◌≡◌, length, take}
use Rattle.std.proofs.Common.{◌≤◌}
use Rattle.co_eval_data.specs.Seen.{alive_of, frames_of, spot_of}
use Rattle.co_eval_parts.specs.Rooms.{has_room}
use Rattle.co_eval_parts.proofs.births.has_room.Given as goal

abbrev pub invariant-loop-at : goal.invariant-loop-at
invariant-loop-at l = record {
  within : l.at ≤ length l.frames;
  same : has_room (spot_of l.spot) (alive_of l.x) (frames_of (take l.at l.frames)) ≡ has_room (spot_of l.spot) (alive_of l.x) (frames_of l.frames);
}

abbrev pub decreases-loop-at : goal.decreases-loop-at
decreases-loop-at l = l.at
