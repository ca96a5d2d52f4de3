use Rattle.std.proofs.Common.{◌≡◌, drop}
use Rattle.co_core_params.specs.Limited.{each_copies}
use Rattle.co_core_params.proofs.slots.copies_params.Given as goal

abbrev pub invariant-loop-copy : goal.invariant-loop-copy
invariant-loop-copy l = each_copies l.func l.rest (drop l.copy-index l.copies) ≡ each_copies l.func l.params l.copies
