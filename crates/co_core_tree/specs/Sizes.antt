-- How many words the objects of a type take, and how they end.
use Rattle.std.specs.Prelude.{ℕ, zero, suc, ◌+◌, if◌then◌else◌, List, [], ◌∷◌, length, slice_get, Option, None, Some}
use Rattle.co_base.specs.declared.ids.ClassId.{ClassId}
use Rattle.co_types.specs.declared.types.CoType.{CoType}
use Rattle.co_types.specs.declared.types.Head.{Head}
use Rattle.co_types.specs.declared.types.Head.TheVariants as head
use Rattle.co_types.specs.declared.classes.ClassInfo.{ClassInfo}
use Rattle.co_types.specs.declared.classes.FieldInfo.{FieldInfo}
use Rattle.co_types.specs.declared.classes.FuncInfo.{FuncInfo}
use Rattle.co_types.specs.Types.{head_of}
use Rattle.co_types.specs.Classes.{is_destructor_name}

-- ---- words

abbrev pub head_words : (ClassId → ℕ) → Head → ℕ
head_words inner (head.Class class) = inner class
head_words inner head.ExceptionPtr = 4
head_words inner h = 1

abbrev pub fields_words : (ClassId → ℕ) → List FieldInfo → ℕ
fields_words inner [] = 0
fields_words inner (field ∷ fields) = head_words inner (head_of field.of) + fields_words inner fields

abbrev pub at_least_one : ℕ → ℕ
at_least_one zero = 1
at_least_one (suc n) = suc n

abbrev pub info_words : (ClassId → ℕ) → Option ClassInfo → ℕ
info_words inner None = 1
info_words inner (Some info) = at_least_one (fields_words inner info.fields)

-- the words of a class whose objects contain objects of classes at most so deep
abbrev pub class_words_within : ℕ → List ClassInfo → ClassId → ℕ
class_words_within zero classes class = 1
class_words_within (suc depth) classes class = info_words (λ c. class_words_within depth classes c) (slice_get classes class.0)

-- no deeper than there are classes, where none contains an object of its own class
abbrev pub class_words : List ClassInfo → ClassId → ℕ
class_words classes class = class_words_within (length classes) classes class

-- The words of an object: one for a scalar and for a reference, four for a `std::exception_ptr`, and for a class as many as
-- for its fields, at least one.
abbrev pub words : List ClassInfo → CoType → ℕ
words classes of = head_words (λ c. class_words classes c) (head_of of)

-- ---- destructors

abbrev pub destructor_among : List ℕ → List FuncInfo → Option FuncInfo
destructor_among class [] = None
destructor_among class (func ∷ funcs) = if is_destructor_name class func.name then Some func else destructor_among class funcs

abbrev pub destructor_in : Option ClassInfo → Option FuncInfo
destructor_in None = None
destructor_in (Some info) = destructor_among info.name info.funcs

-- The destructor of a class, which has the class's name after `~`; a class without one has objects whose end does nothing
-- [class.dtor].
abbrev pub dtor_of : List ClassInfo → ClassId → Option FuncInfo
dtor_of classes class = destructor_in (slice_get classes class.0)
