-- What the acts of an evaluation make and keep in the slots of their function.
use Rattle.std.specs.Prelude.{Bool, true, false, if◌then◌else◌, List, [], ◌∷◌, ◌++◌, Option, None, Some, slice_get}
use Rattle.co_base.specs.declared.ids.FuncId.{FuncId}
use Rattle.co_base.specs.declared.ids.SlotId.{SlotId}
use Rattle.co_base.specs.declared.ids.SuspendId.{SuspendId}
use Rattle.co_types.specs.declared.types.CoType.{CoType}
use Rattle.co_types.specs.declared.types.Head.{Head}
use Rattle.co_types.specs.declared.types.Head.TheVariants as head
use Rattle.co_types.specs.Types.{head_of}
use Rattle.co_core_tree.specs.declared.kinds.SlotKind.{SlotKind}
use Rattle.co_core_tree.specs.declared.kinds.SlotKind.TheVariants as kind
use Rattle.co_core_tree.specs.declared.units.SlotInfo.{SlotInfo}
use Rattle.co_core_tree.specs.declared.units.CoreFunc.{CoreFunc}
use Rattle.co_core_tree.specs.declared.exprs.CoreExpr.{CoreExpr, more_of-AwaitPlan, end_of-AwaitPlan}
use Rattle.co_core_tree.specs.declared.exprs.CoreExpr.TheVariants as expr
use Rattle.co_core_tree.specs.declared.exprs.Init.{Init}
use Rattle.co_core_tree.specs.Acts.{Part, Act, Does, Passes, Starts, Keeps, acts, init_acts}

-- ---- slots and parameters

abbrev pub slot_at : CoreFunc → SlotId → Option SlotInfo
slot_at func slot = slice_get func.slots slot.0

abbrev pub is_class_head : Head → Bool
is_class_head (head.Class class) = true
is_class_head h = false

-- whether objects of this type have members: it is a class of the file
abbrev pub is_class : CoType → Bool
is_class of = is_class_head (head_of of)

abbrev pub holds_class : Option SlotInfo → Bool
holds_class None = false
holds_class (Some slot) = is_class slot.of

abbrev pub class_slots : CoreFunc → List SlotId → List Bool
class_slots func [] = []
class_slots func (slot ∷ slots) = holds_class (slot_at func slot) ∷ class_slots func slots

abbrev pub class_params_of : Option CoreFunc → List Bool
class_params_of None = []
class_params_of (Some func) = class_slots func func.params

-- of each parameter of a function whether it is an object of a class
abbrev pub class_params : List CoreFunc → FuncId → List Bool
class_params funcs f = class_params_of (slice_get funcs f.0)

-- The acts of an expression that stands for itself, as a full-expression does.
abbrev pub acts_of : List CoreFunc → CoreExpr → List Act
acts_of funcs e = acts (class_params funcs) false false e

-- The acts of an initializer that stands for itself.
abbrev pub init_acts_of : List CoreFunc → Init → List Act
init_acts_of funcs i = init_acts (class_params funcs) false false i

-- ---- what is made

-- a temporary of a full-expression, and whether it is made in a conditional operand
pub record Temporary : Type 0 where
  pub slot : SlotId
  pub conditional : Bool

abbrev pub temporary : Bool → CoreExpr → List Temporary
temporary conditional (expr.Temp' slot n i at) = record { slot = slot; conditional = conditional } ∷ []
temporary conditional e = []

-- The temporaries of a full-expression with these acts, in the order in which they are made [class.temporary].
abbrev pub temporaries : List Act → List Temporary
temporaries [] = []
temporaries (Does conditional e ∷ acts) = temporary conditional e ++ temporaries acts
temporaries (Passes e ∷ acts) = temporaries acts
temporaries (Starts i ∷ acts) = temporaries acts
temporaries (Keeps part ∷ acts) = temporaries acts

abbrev pub is_held_kind : SlotKind → Bool
is_held_kind kind.Held = true
is_held_kind k = false

abbrev pub is_held : Option SlotInfo → Bool
is_held None = false
is_held (Some slot) = is_held_kind slot.kind

-- the slot that an expression's own act makes: that of a temporary, or the one that refers to an awaiter which is no temporary
abbrev pub made : CoreFunc → CoreExpr → List SlotId
made func (expr.Temp' slot n i at) = slot ∷ []
made func (expr.Await' n (more_of-AwaitPlan operand holder ready suspend answer resume point span end_of-AwaitPlan)) = if is_held (slot_at func holder) then holder ∷ [] else []
made func e = []

-- The slots that these acts make, in their order, those of values that are kept aside.
abbrev pub makes : CoreFunc → List Act → List SlotId
makes func [] = []
makes func (Does conditional e ∷ acts) = made func e ++ makes func acts
makes func (Passes e ∷ acts) = made func e ++ makes func acts
makes func (Starts i ∷ acts) = makes func acts
makes func (Keeps part ∷ acts) = makes func acts

-- ---- what is kept

-- The parts whose values are kept over an await, in the order in which they are evaluated [expr.await].
abbrev pub held_of : List Act → List Part
held_of [] = []
held_of (Does conditional e ∷ acts) = held_of acts
held_of (Passes e ∷ acts) = held_of acts
held_of (Starts i ∷ acts) = held_of acts
held_of (Keeps part ∷ acts) = part ∷ held_of acts

-- ---- awaits

abbrev pub point_of : CoreExpr → List SuspendId
point_of (expr.Await' n (more_of-AwaitPlan operand holder ready suspend answer resume point span end_of-AwaitPlan)) = point ∷ []
point_of e = []

-- The suspension points of the awaits among these acts, in their order.
abbrev pub points : List Act → List SuspendId
points [] = []
points (Does conditional e ∷ acts) = point_of e ++ points acts
points (Passes e ∷ acts) = points acts
points (Starts i ∷ acts) = points acts
points (Keeps part ∷ acts) = points acts
