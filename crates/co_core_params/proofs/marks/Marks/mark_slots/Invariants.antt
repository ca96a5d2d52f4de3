use Rattle.std.proofs.Common.{◌≡◌, fold, drop}
use Rattle.co_core_params.specs.Marked.{marked}
use Rattle.co_core_params.proofs.marks.Marks.mark_slots.Given as goal

abbrev pub invariant-loop-slot : goal.invariant-loop-slot
invariant-loop-slot l = fold marked l.self (drop l.slot-index l.slots) ≡ fold marked l.initial.self l.slots
