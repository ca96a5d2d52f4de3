use Rattle.std.proofs.Common.{◌≡◌, ◌++◌, ◌+◌, ◌≤◌, length}
use Rattle.std.specs.Vec.{vec_len, vec_capacity}
use Rattle.co_eval_commit.proofs.frames.leave_on_top.Given as goal

abbrev pub invariant-loop-frames : goal.invariant-loop-frames
invariant-loop-frames l = record {
  items : l.frames.items ++ l.more ≡ l.fn.frames.items ++ l.fn.more;
  room : vec_len l.frames + length l.more ≤ vec_capacity l.frames;
}

abbrev pub decreases-loop-frames : goal.decreases-loop-frames
decreases-loop-frames l = length l.more
