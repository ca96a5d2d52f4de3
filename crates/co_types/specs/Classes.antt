-- Classes, and the members that are found in them by name.
use Rattle.std.specs.Prelude.{ℕ, ◌+◌, ◌^◌, ◌<◌, Bool, false, ◌||◌, ◌==◌, ◌&&◌, if◌then◌else◌, List, [], ◌∷◌, length, slice_get, Option, None, Some, bytes_eq}
use Rattle.co_base.specs.declared.ids.ClassId.{ClassId}
use Rattle.co_types.specs.declared.classes.ClassInfo.{ClassInfo}
use Rattle.co_types.specs.declared.classes.FieldInfo.{FieldInfo}
use Rattle.co_types.specs.declared.classes.FuncInfo.{FuncInfo}
use Rattle.co_types.specs.declared.members.Found.{Found}
use Rattle.co_types.specs.declared.members.Found.TheVariants as found

-- the members have numbers of 32 bits
abbrev pub IsCounted : ClassInfo → Type 0
IsCounted info = (length info.fields < 2 ^ 32) × (length info.funcs < 2 ^ 32)

-- the first of two members, where there is one
abbrev pub first_of : Option Found → Option Found → Option Found
first_of None next = next
first_of (Some member) next = Some member

-- the first field of this name, where the fields are numbered from `index` on
abbrev pub field_named : ℕ → List FieldInfo → List ℕ → Option ℕ
field_named index [] name = None
field_named index (field ∷ fields) name = if bytes_eq field.name name then Some index else field_named (index + 1) fields name

-- the first function of this name
abbrev pub func_named : ℕ → List FuncInfo → List ℕ → Option ℕ
func_named index [] name = None
func_named index (func ∷ funcs) name = if bytes_eq func.name name then Some index else func_named (index + 1) funcs name

-- whether a name is that of the class's destructor, `~` before the class's name
abbrev pub is_destructor_name : List ℕ → List ℕ → Bool
is_destructor_name class [] = false
is_destructor_name class (first ∷ rest) = (first == 126) && bytes_eq rest class

abbrev pub as_field : Option ℕ → Option Found
as_field None = None
as_field (Some field) = Some (found.Field field)

abbrev pub as_funcs : Option ℕ → Option Found
as_funcs None = None
as_funcs (Some func) = Some (found.Funcs func)

-- the member of this name; a field comes before the functions
abbrev pub named_in : ClassInfo → List ℕ → Option Found
named_in info name = first_of (as_field (field_named 0 info.fields name)) (as_funcs (func_named 0 info.funcs name))

abbrev pub or_none : Option Found → Found
or_none None = found.None
or_none (Some member) = member

-- the member that is found; constructors and destructors have no name to be found by
abbrev pub found_in : ClassInfo → List ℕ → Found
found_in info name = if bytes_eq name info.name || is_destructor_name info.name name then found.None else or_none (named_in info name)

abbrev pub found_among : Option ClassInfo → List ℕ → Found
found_among None name = found.None
found_among (Some info) name = found_in info name

-- the member of this name in a class of the table
abbrev pub find_member : List ClassInfo → ClassId → List ℕ → Found
find_member classes class name = found_among (slice_get classes class.0) name
