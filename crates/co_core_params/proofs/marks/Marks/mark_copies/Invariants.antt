use Rattle.std.proofs.Common.{◌≡◌, fold, drop}
use Rattle.co_core_params.specs.Marked.{marked_copy}
use Rattle.co_core_params.proofs.marks.Marks.mark_copies.Given as goal

abbrev pub invariant-loop-copy : goal.invariant-loop-copy
invariant-loop-copy l = fold marked_copy l.self (drop l.copy-index l.copies) ≡ fold marked_copy l.initial.self l.copies
