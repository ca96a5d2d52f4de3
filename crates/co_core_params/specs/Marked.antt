-- What is marked, one slot after the other.
use Rattle.std.specs.Prelude.{Bool, true, false, not, ◌&&◌, nat_lt, if◌then◌else◌, List, slice_index_or, slice_set}
use Rattle.std.specs.List.{list_all}
use Rattle.co_base.specs.declared.ids.SlotId.{SlotId}
use Rattle.co_core_tree.specs.declared.units.CopyPlan.{CopyPlan}
use Rattle.co_core.specs.Scopes.{distinct}
use Rattle.co_core_params.specs.declared.marks.Marks.{Marks}

-- whether a set of 4,096 slots has room for it
abbrev pub is_small : SlotId → Bool
is_small slot = nat_lt slot.0 4096

abbrev pub is_fresh : List Bool → SlotId → Bool
is_fresh made slot = not (slice_index_or made slot.0 false)

abbrev pub marked : Marks → SlotId → Marks
marked s slot =
    if is_small slot
    then record { marked = slice_set s.marked slot.0 true; once = s.once && is_fresh s.marked slot }
    else record { marked = s.marked; once = false }

abbrev pub marked_copy : Marks → CopyPlan → Marks
marked_copy s copy = marked s copy.to

-- all are below 4,096, and none is another
abbrev pub differ : List SlotId → Bool
differ slots = list_all is_small slots && distinct slots
