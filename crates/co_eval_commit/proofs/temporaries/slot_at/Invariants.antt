use Rattle.std.proofs.Common.{take}
use Rattle.co_eval_commit.specs.Temporaries.{AreOthers}
use Rattle.co_eval_commit.proofs.temporaries.slot_at.Given as goal

abbrev pub invariant-loop-at : goal.invariant-loop-at
invariant-loop-at l = AreOthers l.slot (take l.at l.temporaries)
