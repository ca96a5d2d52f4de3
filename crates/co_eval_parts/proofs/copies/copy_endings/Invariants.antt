use Rattle.std.proofs.Common.{◌≡◌, take}
use Rattle.co_eval_parts.proofs.copies.copy_endings.Given as goal

abbrev pub invariant-loop-ending : goal.invariant-loop-ending
invariant-loop-ending l = l.copied ≡ take l.ending-index l.list
