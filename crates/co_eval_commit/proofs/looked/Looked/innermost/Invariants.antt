use Rattle.std.proofs.Common.{◌≤◌, length, drop}
use Rattle.co_eval_commit.specs.Looked.{AreOthers}
use Rattle.co_eval_commit.proofs.looked.Looked.innermost.Given as goal

abbrev pub invariant-loop-at : goal.invariant-loop-at
invariant-loop-at l = record {
  within : l.at ≤ length l.frames;
  others : AreOthers l.self (drop l.at l.frames);
}

abbrev pub decreases-loop-at : goal.decreases-loop-at
decreases-loop-at l = l.at
