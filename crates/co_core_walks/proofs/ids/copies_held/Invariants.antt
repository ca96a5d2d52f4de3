use Rattle.std.proofs.Common.{◌≡◌, drop}
use Rattle.std.specs.List.{list_all}
use Rattle.co_core.specs.Ids as spec
use Rattle.co_core_walks.proofs.ids.copies_held.Given as goal

abbrev pub invariant-loop-copy : goal.invariant-loop-copy
invariant-loop-copy l =
    list_all (spec.copy_held l.scene.unit.now l.scene.func.now) (drop l.copy-index l.copies) ≡ list_all (spec.copy_held l.scene.unit.now l.scene.func.now) l.copies
