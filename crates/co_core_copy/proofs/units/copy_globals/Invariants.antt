use Rattle.std.proofs.Common.{◌≡◌, take}
use Rattle.co_core_copy.proofs.units.copy_globals.Given as goal

abbrev pub invariant-loop-item : goal.invariant-loop-item
invariant-loop-item l = l.copied ≡ take l.item-index l.globals
