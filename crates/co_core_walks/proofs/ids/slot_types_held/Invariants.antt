use Rattle.std.proofs.Common.{◌≡◌, drop}
use Rattle.std.specs.List.{list_all}
use Rattle.co_core.specs.Ids as spec
use Rattle.co_core_walks.proofs.ids.slot_types_held.Given as goal

abbrev pub invariant-loop-slot : goal.invariant-loop-slot
invariant-loop-slot l =
    list_all (spec.slot_type_held l.scene.unit.now l.scene.func.now) (drop l.slot-index l.slots) ≡ list_all (spec.slot_type_held l.scene.unit.now l.scene.func.now) l.slots
