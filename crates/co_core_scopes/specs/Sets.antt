-- Sets of slots below 4,096.
use Rattle.std.specs.Prelude.{Bool, true, false, ◌&&◌, if◌then◌else◌, Option, None, Some, slice_index_or, slice_set}
use Rattle.co_base.specs.declared.ids.SlotId.{SlotId}
use Rattle.co_core_tree.specs.declared.stmts.CoreStmt.{CoreStmt}
use Rattle.co_core_tree.specs.declared.stmts.CoreStmt.TheVariants as stmt
use Rattle.co_core_scopes.specs.declared.sets.SlotSet.{SlotSet}
use Rattle.co_core_scopes.specs.Makes.{is_small}

abbrev pub is_marked : SlotSet → SlotId → Bool
is_marked set slot = slice_index_or set.marks slot.0 false

abbrev pub has : SlotSet → SlotId → Bool
has set slot = is_small slot && is_marked set slot

abbrev pub inserted : SlotSet → SlotId → SlotSet
inserted set slot = if is_small slot then record { marks = slice_set set.marks slot.0 true } else set

abbrev pub removed : SlotSet → SlotId → SlotSet
removed set slot = if is_small slot then record { marks = slice_set set.marks slot.0 false } else set

-- the slot that a declaration makes
abbrev pub local_of : CoreStmt → Option SlotId
local_of (stmt.Local slot i at) = Some slot
local_of s = None
