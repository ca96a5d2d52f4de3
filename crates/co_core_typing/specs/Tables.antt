-- What the tables of a unit say of slots, functions and thrown types.
use Rattle.std.specs.Prelude.{ℕ, Bool, true, false, not, ◌||◌, ◌&&◌, nat_le, List, [], ◌∷◌, length, Option, None, Some, slice_get, bytes_eq}
use Rattle.std.specs.List.{list_all, list_any}
use Rattle.co_base.specs.declared.kinds.Num.TheVariants as num
use Rattle.co_base.specs.declared.ids.ClassId.{ClassId}
use Rattle.co_base.specs.declared.ids.SlotId.{SlotId}
use Rattle.co_types.specs.declared.types.CoType.{CoType}
use Rattle.co_types.specs.declared.types.CoType.TheVariants as type
use Rattle.co_types.specs.declared.types.Head.{Head}
use Rattle.co_types.specs.declared.types.Head.TheVariants as head
use Rattle.co_types.specs.declared.classes.ClassInfo.{ClassInfo}
use Rattle.co_types.specs.declared.classes.FieldInfo.{FieldInfo}
use Rattle.co_types.specs.declared.classes.FuncInfo.{FuncInfo}
use Rattle.co_types.specs.Types.{head_of, target_of, same_head}
use Rattle.co_types.specs.Classes.{is_destructor_name}
use Rattle.co_core_tree.specs.declared.units.SlotInfo.{SlotInfo}
use Rattle.co_core_tree.specs.declared.units.GlobalInfo.{GlobalInfo}
use Rattle.co_core_tree.specs.declared.units.FuncRole.{FuncRole}
use Rattle.co_core_tree.specs.declared.units.FuncRole.TheVariants as role
use Rattle.co_core_tree.specs.declared.units.CoreFunc.{CoreFunc}
use Rattle.co_core_tree.specs.Slots.{slot_at}
use Rattle.co_core_typing.specs.Gives.{Gives, Place, Wrong, is_reference, is_number, is_place_of, result_gives}
use Rattle.co_core_typing.specs.Forms.{is_some_number_type}

-- ---- slots and globals

abbrev pub slot_place : Option SlotInfo → Gives
slot_place None = Wrong
slot_place (Some slot) = Place slot.of

abbrev pub global_place : Option GlobalInfo → Gives
global_place None = Wrong
global_place (Some global) = Place global.of

abbrev pub type_of_slot : Option SlotInfo → CoType
type_of_slot None = type.Void
type_of_slot (Some slot) = slot.of

-- the type of a slot, and `void`, of which there is no object, where the function has no such slot
abbrev pub slot_type : CoreFunc → SlotId → CoType
slot_type func slot = type_of_slot (slot_at func slot)

-- ---- functions

abbrev pub types_of : CoreFunc → List SlotId → List CoType
types_of func [] = []
types_of func (slot ∷ slots) = slot_type func slot ∷ types_of func slots

abbrev pub param_types : CoreFunc → List CoType
param_types func = types_of func func.params

abbrev pub param_types_of : Option CoreFunc → List CoType
param_types_of None = []
param_types_of (Some func) = param_types func

abbrev pub after_first : List CoType → List CoType
after_first [] = []
after_first (first ∷ rest) = rest

abbrev pub is_plain_role : FuncRole → Bool
is_plain_role role.Plain = true
is_plain_role r = false

-- a function that is called by its name
abbrev pub is_plain : Option CoreFunc → Bool
is_plain None = false
is_plain (Some func) = is_plain_role func.role

abbrev pub constructs_head : FuncRole → Head → Bool
constructs_head (role.Ctor class members) h = same_head h (head.Class class)
constructs_head r h = false

-- a constructor of this class
abbrev pub constructs : Option CoreFunc → Head → Bool
constructs None h = false
constructs (Some func) h = constructs_head func.role h

abbrev pub call_gives : Option CoreFunc → Gives
call_gives None = Wrong
call_gives (Some func) = result_gives func.result

-- ---- thrown types [except.throw]

abbrev pub is_number_field : FieldInfo → Bool
is_number_field field = is_some_number_type (head_of field.of)

abbrev pub is_class_target : ClassId → Option CoType → Bool
is_class_target class None = false
is_class_target class (Some to) = same_head (head_of to) (head.Class class)

abbrev pub takes_itself : ClassId → List CoType → Bool
takes_itself class [] = true
takes_itself class (param ∷ []) = is_reference (head_of param) && is_class_target class (target_of param)
takes_itself class (param ∷ next ∷ params) = false

abbrev pub is_self_constructor : ClassId → List ℕ → FuncInfo → Bool
is_self_constructor class name func = bytes_eq func.name name && takes_itself class func.params

-- a default, copy or move constructor or a destructor that is declared [special]
abbrev pub is_declared_special : ClassId → List ℕ → FuncInfo → Bool
is_declared_special class name func = not func.is_implicit && (is_destructor_name name func.name || is_self_constructor class name func)

abbrev pub is_thrown_info : ClassId → Option ClassInfo → Bool
is_thrown_info class None = false
is_thrown_info class (Some info) = nat_le 1 (length info.fields) && (nat_le (length info.fields) 3 && (list_all is_number_field info.fields && not (list_any (is_declared_special class info.name) info.funcs)))

-- a class of one to three integer members without declared special members
abbrev pub is_thrown_class : List ClassInfo → ClassId → Bool
is_thrown_class classes class = is_thrown_info class (slice_get classes class.0)

abbrev pub throw_fits_head : List ClassInfo → CoType → Head → Gives → Bool
throw_fits_head classes of (head.Num num.Bool) g = is_number num.Bool g
throw_fits_head classes of (head.Num num.Int) g = is_number num.Int g
throw_fits_head classes of (head.Num num.Long) g = is_number num.Long g
throw_fits_head classes of (head.Class class) g = is_thrown_class classes class && is_place_of of g
throw_fits_head classes of h g = false

-- `int`, `long` and `bool` are thrown by value, an object of such a class is copied from its place
abbrev pub throw_fits : List ClassInfo → CoType → Gives → Bool
throw_fits classes of g = throw_fits_head classes of (head_of of) g
