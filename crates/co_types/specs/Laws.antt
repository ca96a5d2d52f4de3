-- What the definitions of this crate come to.
use Rattle.std.specs.Prelude.{◌≡◌, List, length, slice_get, Some, IsTrue}
use Rattle.co_base.specs.declared.ids.ClassId.{ClassId}
use Rattle.co_types.specs.declared.classes.ClassInfo.{ClassInfo}
use Rattle.co_types.specs.declared.classes.FuncInfo.{FuncInfo}
use Rattle.co_types.specs.declared.overloads.Arg.{Arg}
use Rattle.co_types.specs.declared.overloads.Choice.{Choice}
use Rattle.co_types.specs.declared.types.CoType.{CoType}
use Rattle.co_types.specs.Choosing.{IsChoice}
use Rattle.co_types.specs.Special.{all_allow, special, with_fields, IsNested}
use Rattle.co_types.specs.Types.{same_type}

-- A call has one choice.
abbrev pub ChoosesOnce : Type 0
ChoosesOnce = (candidates : List FuncInfo) (args : List Arg) (x y : Choice) → IsChoice candidates args x → IsChoice candidates args y → x ≡ y

-- The specials of a class follow from its own members and from the specials of its fields' classes, where no class
-- of which it contains an object contains itself, so that objects lie in one another no deeper than there are classes.
abbrev pub SpecialRecurs : Type 0
SpecialRecurs = (classes : List ClassInfo) (class : ClassId) (info : ClassInfo) → IsNested (length classes) classes class →
    slice_get classes class.0 ≡ Some info → special classes class ≡ with_fields class info (all_allow (λ c. special classes c) info.fields)

-- Two types are one exactly where they are equal.
abbrev pub SameIsEqual : Type 0
SameIsEqual = (a b : CoType) → (IsTrue (same_type a b) → a ≡ b) × (a ≡ b → IsTrue (same_type a b))
