use Rattle.std.proofs.Common.{◌≡◌, take}
use Rattle.co_eval_parts.proofs.copies.copy_given_list.Given as goal

abbrev pub invariant-loop-given : goal.invariant-loop-given
invariant-loop-given l = l.copied ≡ take l.given-index l.list
