-- What is marked as made, one slot after the other.
use Rattle.std.specs.Prelude.{Bool, true, false, not, ◌&&◌, nat_lt, if◌then◌else◌, List, [], ◌∷◌, Option, None, Some, slice_index_or, slice_set}
use Rattle.co_base.specs.declared.ids.SlotId.{SlotId}
use Rattle.co_core_tree.specs.declared.stmts.Handler.{Handler}
use Rattle.co_core_tree.specs.declared.units.CoreFunc.{CoreFunc}
use Rattle.co_core_tree.specs.Slots.{is_held, slot_at}
use Rattle.co_core.specs.Scopes.{is_local, slot_is}
use Rattle.co_core_scopes.specs.declared.makes.Makes.{Makes}

-- whether a set of 4,096 slots has room for it
abbrev pub is_small : SlotId → Bool
is_small slot = nat_lt slot.0 4096

abbrev pub is_fresh : List Bool → SlotId → Bool
is_fresh made slot = not (slice_index_or made slot.0 false)

abbrev pub marked : Makes → SlotId → Makes
marked s slot =
    if is_small slot
    then record { func = s.func; made = slice_set s.made slot.0 true; once = s.once && is_fresh s.made slot }
    else record { func = s.func; made = s.made; once = false }

abbrev pub held_holder : CoreFunc → SlotId → List SlotId
held_holder func holder = if is_held (slot_at func holder) then holder ∷ [] else []

abbrev pub slot_list : Option SlotId → List SlotId
slot_list None = []
slot_list (Some slot) = slot ∷ []

abbrev pub slot_local : CoreFunc → Option SlotId → Bool
slot_local func None = true
slot_local func (Some slot) = slot_is is_local (slot_at func slot)

-- a handler's variable has a slot of kind Local
abbrev pub handler_local : CoreFunc → Handler → Bool
handler_local func handler = slot_local func handler.slot
