-- What the special members of a class allow, by those that it declares and by its fields.
use Rattle.std.specs.Prelude.{ℕ, zero, suc, Bool, true, false, not, ◌||◌, ◌&&◌, if◌then◌else◌, List, [], ◌∷◌, length, slice_get, Option, None, Some, bytes_eq}
use Rattle.co_base.specs.declared.ids.ClassId.{ClassId}
use Rattle.co_types.specs.declared.types.CoType.{CoType}
use Rattle.co_types.specs.declared.types.Head.{Head}
use Rattle.co_types.specs.declared.types.Head.TheVariants as head
use Rattle.co_types.specs.declared.classes.ClassInfo.{ClassInfo}
use Rattle.co_types.specs.declared.classes.FieldInfo.{FieldInfo}
use Rattle.co_types.specs.declared.classes.FuncInfo.{FuncInfo}
use Rattle.co_types.specs.declared.specials.Specials.{Specials}
use Rattle.co_types.specs.declared.specials.Allowed.{Allowed}
use Rattle.co_types.specs.declared.specials.Member.{Member}
use Rattle.co_types.specs.declared.specials.Member.TheVariants as member
use Rattle.co_types.specs.Types.{head_of, same_head, target_of}
use Rattle.co_types.specs.Classes.{is_destructor_name}

-- ---- declared members

abbrev pub is_class : ClassId → Option CoType → Bool
is_class class None = false
is_class class (Some to) = same_head (head_of to) (head.Class class)

-- whether the only parameter is a reference of this kind to the class
abbrev pub takes_one : ClassId → Head → List CoType → Bool
takes_one class kind [] = false
takes_one class kind (param ∷ []) = same_head (head_of param) kind && is_class class (target_of param)
takes_one class kind (param ∷ next ∷ params) = false

abbrev pub takes_none : List CoType → Bool
takes_none [] = true
takes_none (param ∷ params) = false

-- whether a constructor or destructor is one of this kind [class.default.ctor] [class.copy.ctor] [class.dtor]
abbrev pub fits : ClassId → Member → FuncInfo → Bool
fits class member.Constructor func = true
fits class member.Default func = takes_none func.params
fits class member.Copy func = takes_one class head.Ref func.params || takes_one class head.ConstRef func.params
fits class member.ConstCopy func = takes_one class head.ConstRef func.params
fits class member.Move func = takes_one class head.RefRef func.params
fits class member.Destructor func = true
fits class member.WrittenDestructor func = not func.is_defaulted

-- whether a name is that of a constructor, which is the class's, or of its destructor
abbrev pub names : List ℕ → Member → List ℕ → Bool
names class member.Constructor name = bytes_eq name class
names class member.Default name = bytes_eq name class
names class member.Copy name = bytes_eq name class
names class member.ConstCopy name = bytes_eq name class
names class member.Move name = bytes_eq name class
names class member.Destructor name = is_destructor_name class name
names class member.WrittenDestructor name = is_destructor_name class name

-- a user-declared member of this kind
abbrev pub is_member : ClassId → List ℕ → Member → FuncInfo → Bool
is_member class name kind func = not func.is_implicit && (names name kind func.name && fits class kind func)

abbrev pub declares_in : ClassId → List ℕ → Member → List FuncInfo → Bool
declares_in class name kind [] = false
declares_in class name kind (func ∷ funcs) = is_member class name kind func || declares_in class name kind funcs

-- whether the class declares a member of this kind
abbrev pub declares : ClassId → ClassInfo → Member → Bool
declares class info kind = declares_in class info.name kind info.funcs

-- a function that isn't deleted; one that is defaulted does what the fields allow [dcl.fct.def.default]
abbrev pub is_usable : Bool → FuncInfo → Bool
is_usable allowed func = not func.is_deleted && (not func.is_defaulted || allowed)

abbrev pub is_offered : ClassId → List ℕ → Member → Bool → FuncInfo → Bool
is_offered class name kind allowed func = is_member class name kind func && is_usable allowed func

abbrev pub offers_in : ClassId → List ℕ → Member → Bool → List FuncInfo → Bool
offers_in class name kind allowed [] = false
offers_in class name kind allowed (func ∷ funcs) = is_offered class name kind allowed func || offers_in class name kind allowed funcs

-- whether the class declares a member of this kind that can be used
abbrev pub offers : ClassId → ClassInfo → Member → Bool → Bool
offers class info kind allowed = offers_in class info.name kind allowed info.funcs

-- ---- fields

abbrev pub all_allowed : Allowed
all_allowed = record { can_default = true; can_copy = true; can_move = true; trivial_end = true }

abbrev pub both : Allowed → Allowed → Allowed
both a b = record { can_default = a.can_default && b.can_default; can_copy = a.can_copy && b.can_copy; can_move = a.can_move && b.can_move; trivial_end = a.trivial_end && b.trivial_end }

-- what a field allows, by its type without what that refers to: an object of a class what the class allows; a
-- reference has to be initialized, and one to an rvalue isn't copied; an atomic is neither copied nor moved
abbrev pub head_allows : (ClassId → Specials) → Bool → Head → Allowed
head_allows inner initialized (head.Class c) = record { can_default = initialized || (inner c).can_default; can_copy = (inner c).can_copy; can_move = (inner c).can_move; trivial_end = (inner c).trivial_end }
head_allows inner initialized head.Ref = record { can_default = initialized; can_copy = true; can_move = true; trivial_end = true }
head_allows inner initialized head.ConstRef = record { can_default = initialized; can_copy = true; can_move = true; trivial_end = true }
head_allows inner initialized head.RefRef = record { can_default = initialized; can_copy = false; can_move = true; trivial_end = true }
head_allows inner initialized (head.Atomic k) = record { can_default = true; can_copy = false; can_move = false; trivial_end = true }
head_allows inner initialized h = all_allowed

abbrev pub field_allows : (ClassId → Specials) → FieldInfo → Allowed
field_allows inner field = head_allows inner field.initialized (head_of field.of)

-- what all fields allow
abbrev pub all_allow : (ClassId → Specials) → List FieldInfo → Allowed
all_allow inner [] = all_allowed
all_allow inner (field ∷ fields) = both (field_allows inner field) (all_allow inner fields)

-- ---- a class

-- a declared copy constructor that can be used, or the implicit one where no move constructor is declared
abbrev pub copies : ClassId → ClassInfo → Member → Bool → Bool
copies class info kind allowed = if declares class info member.Copy then offers class info kind allowed else (not (declares class info member.Move) && allowed)

-- the implicit move constructor, which a declared copy constructor or destructor takes away
abbrev pub moves_by_fields : ClassId → ClassInfo → Bool → Bool
moves_by_fields class info allowed = not (declares class info member.Copy || declares class info member.Destructor) && allowed

-- the move constructor, or else the copy constructor that takes rvalues
abbrev pub moves : ClassId → ClassInfo → Allowed → Bool
moves class info allowed = if declares class info member.Move then offers class info member.Move allowed.can_move else (moves_by_fields class info allowed.can_move || copies class info member.ConstCopy allowed.can_copy)

-- the default constructor, which is implicit where no constructor is declared
abbrev pub defaults : ClassId → ClassInfo → Bool → Bool
defaults class info allowed = if declares class info member.Constructor then offers class info member.Default allowed else allowed

abbrev pub ends : ClassId → ClassInfo → Bool → Bool
ends class info allowed = not (declares class info member.WrittenDestructor) && allowed

abbrev pub with_fields : ClassId → ClassInfo → Allowed → Specials
with_fields class info allowed = record {
  can_default = defaults class info allowed.can_default;
  can_copy = copies class info member.Copy allowed.can_copy;
  can_move = moves class info allowed;
  trivial_end = ends class info allowed.trivial_end;
  aggregate = not (declares class info member.Constructor);
}

-- ---- the classes of a table

abbrev pub nothing : Specials
nothing = record { can_default = false; can_copy = false; can_move = false; trivial_end = false; aggregate = false }

abbrev pub in_class : (ClassId → Specials) → ClassId → Option ClassInfo → Specials
in_class inner class None = nothing
in_class inner class (Some info) = with_fields class info (all_allow inner info.fields)

-- the specials of a class whose objects contain objects of classes at most so deep
abbrev pub special_within : ℕ → List ClassInfo → ClassId → Specials
special_within zero classes class = nothing
special_within (suc depth) classes class = in_class (λ c. special_within depth classes c) class (slice_get classes class.0)

-- no deeper than there are classes, where none contains itself
abbrev pub special : List ClassInfo → ClassId → Specials
special classes class = special_within (length classes) classes class

-- whether a fact holds of the class of which a type of this kind is an object
abbrev pub OfClass : (ClassId → Type 0) → Head → Type 0
OfClass P (head.Class c) = P c
OfClass P h = Unit {0}

abbrev pub OfFields : (ClassId → Type 0) → List FieldInfo → Type 0
OfFields P [] = Unit {0}
OfFields P (field ∷ fields) = OfClass P (head_of field.of) × OfFields P fields

abbrev pub InFields : (ClassId → Type 0) → Option ClassInfo → Type 0
InFields P None = ⊥
InFields P (Some info) = OfFields P info.fields

-- each class of which the class contains an object is in the table, and they lie in one another at most so deep
abbrev pub IsNested : ℕ → List ClassInfo → ClassId → Type 0
IsNested zero classes class = ⊥
IsNested (suc depth) classes class = InFields (λ c. IsNested depth classes c) (slice_get classes class.0)
