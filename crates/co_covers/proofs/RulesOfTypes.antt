-- The rules of types and parameters.
use Rattle.std.proofs.Common.{◌≡◌, true, List, [], ◌∷◌, refl, inl, inr}
use Rattle.co_lex.specs.declared.token.Mark.TheVariants as mark
use Rattle.co_lex.specs.declared.token.Word.TheVariants as word
use Rattle.co_rules.specs.declared.symbol.Known.TheVariants as known
use Rattle.co_rules.specs.declared.symbol.Nonterminal.TheVariants as n
use Rattle.co_rules.specs.declared.symbol.Pattern.TheVariants as pattern
use Rattle.co_rules.specs.declared.symbol.Symbol.TheVariants.{Token, One, Maybe, Many, Close}
use Rattle.co_rules.specs.declared.symbol.Terminal.{Terminal}
use Rattle.co_rules.specs.Derives.{Begins}
use Rattle.co_rules.specs.Pattern.{admits}
use Rattle.co_rules.specs.Rule.{Rule, rule, rules, in_file, in_class, in_type, in_statement, in_head, in_local, in_value, in_argument, in_unary, in_operand, from_file, from_class, from_type, from_statement, from_head, from_local, from_value, from_argument, from_unary}
use Rattle.co_covers.proofs.Those.{those, begins}

-- ---- TypeId

abbrev pub of_type_id : List Rule
of_type_id =
    rule n.TypeId (pattern.Keyword word.Const) (One n.Base ∷ Maybe n.TypeRest ∷ []) ∷
    rule n.TypeId pattern.BuiltinType (Maybe n.TypeRest ∷ []) ∷
    rule n.TypeId (pattern.Spelled known.Std) (Token (pattern.Punctuator mark.Scope) ∷ One n.LibraryType ∷ Maybe n.TypeRest ∷ []) ∷
    rule n.TypeId pattern.ClassName (Maybe n.InnerClass ∷ Maybe n.TypeRest ∷ []) ∷
    rule n.TypeId pattern.OtherName (Token (pattern.Punctuator mark.Scope) ∷ One n.ClassPath ∷ Maybe n.TypeRest ∷ []) ∷ []

pub those_type_id : those n.TypeId rules ≡ of_type_id
unfolding in_file in_class in_type in_statement in_head in_local in_value in_argument in_unary in_operand from_file from_class from_type from_statement from_head from_local from_value from_argument from_unary
those_type_id = refl

pub type_id-const : (t : Terminal) → admits (pattern.Keyword word.Const) t ≡ true → Begins n.TypeId t (One n.Base ∷ Maybe n.TypeRest ∷ [])
type_id-const t h = begins n.TypeId of_type_id those_type_id t (pattern.Keyword word.Const) (One n.Base ∷ Maybe n.TypeRest ∷ []) (inl refl) h

pub type_id-built_in_type : (t : Terminal) → admits pattern.BuiltinType t ≡ true → Begins n.TypeId t (Maybe n.TypeRest ∷ [])
type_id-built_in_type t h = begins n.TypeId of_type_id those_type_id t pattern.BuiltinType (Maybe n.TypeRest ∷ []) (inr (inl refl)) h

pub type_id-std : (t : Terminal) → admits (pattern.Spelled known.Std) t ≡ true → Begins n.TypeId t (Token (pattern.Punctuator mark.Scope) ∷ One n.LibraryType ∷ Maybe n.TypeRest ∷ [])
type_id-std t h = begins n.TypeId of_type_id those_type_id t (pattern.Spelled known.Std) (Token (pattern.Punctuator mark.Scope) ∷ One n.LibraryType ∷ Maybe n.TypeRest ∷ []) (inr (inr (inl refl))) h

pub type_id-class_name : (t : Terminal) → admits pattern.ClassName t ≡ true → Begins n.TypeId t (Maybe n.InnerClass ∷ Maybe n.TypeRest ∷ [])
type_id-class_name t h = begins n.TypeId of_type_id those_type_id t pattern.ClassName (Maybe n.InnerClass ∷ Maybe n.TypeRest ∷ []) (inr (inr (inr (inl refl)))) h

pub type_id-other_name : (t : Terminal) → admits pattern.OtherName t ≡ true → Begins n.TypeId t (Token (pattern.Punctuator mark.Scope) ∷ One n.ClassPath ∷ Maybe n.TypeRest ∷ [])
type_id-other_name t h = begins n.TypeId of_type_id those_type_id t pattern.OtherName (Token (pattern.Punctuator mark.Scope) ∷ One n.ClassPath ∷ Maybe n.TypeRest ∷ []) (inr (inr (inr (inr (inl refl))))) h

-- ---- Base

abbrev pub of_base : List Rule
of_base =
    rule n.Base pattern.BuiltinType ([]) ∷
    rule n.Base (pattern.Spelled known.Std) (Token (pattern.Punctuator mark.Scope) ∷ One n.LibraryType ∷ []) ∷
    rule n.Base pattern.ClassName (Maybe n.InnerClass ∷ []) ∷
    rule n.Base pattern.OtherName (Token (pattern.Punctuator mark.Scope) ∷ One n.ClassPath ∷ []) ∷ []

pub those_base : those n.Base rules ≡ of_base
unfolding in_file in_class in_type in_statement in_head in_local in_value in_argument in_unary in_operand from_file from_class from_type from_statement from_head from_local from_value from_argument from_unary
those_base = refl

pub base-built_in_type : (t : Terminal) → admits pattern.BuiltinType t ≡ true → Begins n.Base t ([])
base-built_in_type t h = begins n.Base of_base those_base t pattern.BuiltinType ([]) (inl refl) h

pub base-std : (t : Terminal) → admits (pattern.Spelled known.Std) t ≡ true → Begins n.Base t (Token (pattern.Punctuator mark.Scope) ∷ One n.LibraryType ∷ [])
base-std t h = begins n.Base of_base those_base t (pattern.Spelled known.Std) (Token (pattern.Punctuator mark.Scope) ∷ One n.LibraryType ∷ []) (inr (inl refl)) h

pub base-class_name : (t : Terminal) → admits pattern.ClassName t ≡ true → Begins n.Base t (Maybe n.InnerClass ∷ [])
base-class_name t h = begins n.Base of_base those_base t pattern.ClassName (Maybe n.InnerClass ∷ []) (inr (inr (inl refl))) h

pub base-other_name : (t : Terminal) → admits pattern.OtherName t ≡ true → Begins n.Base t (Token (pattern.Punctuator mark.Scope) ∷ One n.ClassPath ∷ [])
base-other_name t h = begins n.Base of_base those_base t pattern.OtherName (Token (pattern.Punctuator mark.Scope) ∷ One n.ClassPath ∷ []) (inr (inr (inr (inl refl)))) h

-- ---- InnerClass

abbrev pub of_inner_class : List Rule
of_inner_class =
    rule n.InnerClass (pattern.Punctuator mark.Scope) (One n.ClassPath ∷ []) ∷ []

pub those_inner_class : those n.InnerClass rules ≡ of_inner_class
unfolding in_file in_class in_type in_statement in_head in_local in_value in_argument in_unary in_operand from_file from_class from_type from_statement from_head from_local from_value from_argument from_unary
those_inner_class = refl

pub inner_class-scope : (t : Terminal) → admits (pattern.Punctuator mark.Scope) t ≡ true → Begins n.InnerClass t (One n.ClassPath ∷ [])
inner_class-scope t h = begins n.InnerClass of_inner_class those_inner_class t (pattern.Punctuator mark.Scope) (One n.ClassPath ∷ []) (inl refl) h

-- ---- ClassPath

abbrev pub of_class_path : List Rule
of_class_path =
    rule n.ClassPath pattern.ClassName (Maybe n.InnerClass ∷ []) ∷
    rule n.ClassPath pattern.OtherName (Token (pattern.Punctuator mark.Scope) ∷ One n.ClassPath ∷ []) ∷ []

pub those_class_path : those n.ClassPath rules ≡ of_class_path
unfolding in_file in_class in_type in_statement in_head in_local in_value in_argument in_unary in_operand from_file from_class from_type from_statement from_head from_local from_value from_argument from_unary
those_class_path = refl

pub class_path-class_name : (t : Terminal) → admits pattern.ClassName t ≡ true → Begins n.ClassPath t (Maybe n.InnerClass ∷ [])
class_path-class_name t h = begins n.ClassPath of_class_path those_class_path t pattern.ClassName (Maybe n.InnerClass ∷ []) (inl refl) h

pub class_path-other_name : (t : Terminal) → admits pattern.OtherName t ≡ true → Begins n.ClassPath t (Token (pattern.Punctuator mark.Scope) ∷ One n.ClassPath ∷ [])
class_path-other_name t h = begins n.ClassPath of_class_path those_class_path t pattern.OtherName (Token (pattern.Punctuator mark.Scope) ∷ One n.ClassPath ∷ []) (inr (inl refl)) h

-- ---- LibraryType

abbrev pub of_library_type : List Rule
of_library_type =
    rule n.LibraryType pattern.LibraryObject ([]) ∷
    rule n.LibraryType (pattern.Spelled known.CoroutineHandle) (Token (pattern.Punctuator mark.Less) ∷ Maybe n.ClassPath ∷ Token (pattern.Punctuator mark.Greater) ∷ []) ∷
    rule n.LibraryType (pattern.Spelled known.Atomic) (Token (pattern.Punctuator mark.Less) ∷ One n.AtomicArgument ∷ []) ∷ []

pub those_library_type : those n.LibraryType rules ≡ of_library_type
unfolding in_file in_class in_type in_statement in_head in_local in_value in_argument in_unary in_operand from_file from_class from_type from_statement from_head from_local from_value from_argument from_unary
those_library_type = refl

pub library_type-library_object : (t : Terminal) → admits pattern.LibraryObject t ≡ true → Begins n.LibraryType t ([])
library_type-library_object t h = begins n.LibraryType of_library_type those_library_type t pattern.LibraryObject ([]) (inl refl) h

pub library_type-coroutine_handle : (t : Terminal) → admits (pattern.Spelled known.CoroutineHandle) t ≡ true → Begins n.LibraryType t (Token (pattern.Punctuator mark.Less) ∷ Maybe n.ClassPath ∷ Token (pattern.Punctuator mark.Greater) ∷ [])
library_type-coroutine_handle t h = begins n.LibraryType of_library_type those_library_type t (pattern.Spelled known.CoroutineHandle) (Token (pattern.Punctuator mark.Less) ∷ Maybe n.ClassPath ∷ Token (pattern.Punctuator mark.Greater) ∷ []) (inr (inl refl)) h

pub library_type-atomic : (t : Terminal) → admits (pattern.Spelled known.Atomic) t ≡ true → Begins n.LibraryType t (Token (pattern.Punctuator mark.Less) ∷ One n.AtomicArgument ∷ [])
library_type-atomic t h = begins n.LibraryType of_library_type those_library_type t (pattern.Spelled known.Atomic) (Token (pattern.Punctuator mark.Less) ∷ One n.AtomicArgument ∷ []) (inr (inr (inl refl))) h

-- ---- AtomicArgument

abbrev pub of_atomic_argument : List Rule
of_atomic_argument =
    rule n.AtomicArgument (pattern.Keyword word.Int) (Token (pattern.Punctuator mark.Greater) ∷ []) ∷
    rule n.AtomicArgument (pattern.Keyword word.Long) (Token (pattern.Punctuator mark.Greater) ∷ []) ∷
    rule n.AtomicArgument (pattern.Keyword word.Bool) (Token (pattern.Punctuator mark.Greater) ∷ []) ∷
    rule n.AtomicArgument (pattern.Keyword word.Void) (One n.AtomicPointer ∷ []) ∷ []

pub those_atomic_argument : those n.AtomicArgument rules ≡ of_atomic_argument
unfolding in_file in_class in_type in_statement in_head in_local in_value in_argument in_unary in_operand from_file from_class from_type from_statement from_head from_local from_value from_argument from_unary
those_atomic_argument = refl

pub atomic_argument-int : (t : Terminal) → admits (pattern.Keyword word.Int) t ≡ true → Begins n.AtomicArgument t (Token (pattern.Punctuator mark.Greater) ∷ [])
atomic_argument-int t h = begins n.AtomicArgument of_atomic_argument those_atomic_argument t (pattern.Keyword word.Int) (Token (pattern.Punctuator mark.Greater) ∷ []) (inl refl) h

pub atomic_argument-long : (t : Terminal) → admits (pattern.Keyword word.Long) t ≡ true → Begins n.AtomicArgument t (Token (pattern.Punctuator mark.Greater) ∷ [])
atomic_argument-long t h = begins n.AtomicArgument of_atomic_argument those_atomic_argument t (pattern.Keyword word.Long) (Token (pattern.Punctuator mark.Greater) ∷ []) (inr (inl refl)) h

pub atomic_argument-bool : (t : Terminal) → admits (pattern.Keyword word.Bool) t ≡ true → Begins n.AtomicArgument t (Token (pattern.Punctuator mark.Greater) ∷ [])
atomic_argument-bool t h = begins n.AtomicArgument of_atomic_argument those_atomic_argument t (pattern.Keyword word.Bool) (Token (pattern.Punctuator mark.Greater) ∷ []) (inr (inr (inl refl))) h

pub atomic_argument-void : (t : Terminal) → admits (pattern.Keyword word.Void) t ≡ true → Begins n.AtomicArgument t (One n.AtomicPointer ∷ [])
atomic_argument-void t h = begins n.AtomicArgument of_atomic_argument those_atomic_argument t (pattern.Keyword word.Void) (One n.AtomicPointer ∷ []) (inr (inr (inr (inl refl)))) h

-- ---- AtomicPointer

abbrev pub of_atomic_pointer : List Rule
of_atomic_pointer =
    rule n.AtomicPointer (pattern.Punctuator mark.Star) (Token (pattern.Punctuator mark.Greater) ∷ Close ∷ []) ∷ []

pub those_atomic_pointer : those n.AtomicPointer rules ≡ of_atomic_pointer
unfolding in_file in_class in_type in_statement in_head in_local in_value in_argument in_unary in_operand from_file from_class from_type from_statement from_head from_local from_value from_argument from_unary
those_atomic_pointer = refl

pub atomic_pointer-star : (t : Terminal) → admits (pattern.Punctuator mark.Star) t ≡ true → Begins n.AtomicPointer t (Token (pattern.Punctuator mark.Greater) ∷ Close ∷ [])
atomic_pointer-star t h = begins n.AtomicPointer of_atomic_pointer those_atomic_pointer t (pattern.Punctuator mark.Star) (Token (pattern.Punctuator mark.Greater) ∷ Close ∷ []) (inl refl) h

-- ---- TypeRest

abbrev pub of_type_rest : List Rule
of_type_rest =
    rule n.TypeRest (pattern.Keyword word.Const) (Maybe n.Pointers ∷ []) ∷
    rule n.TypeRest (pattern.Punctuator mark.Star) (Maybe n.Pointers ∷ Close ∷ []) ∷
    rule n.TypeRest pattern.ReferenceMark ([]) ∷ []

pub those_type_rest : those n.TypeRest rules ≡ of_type_rest
unfolding in_file in_class in_type in_statement in_head in_local in_value in_argument in_unary in_operand from_file from_class from_type from_statement from_head from_local from_value from_argument from_unary
those_type_rest = refl

pub type_rest-const : (t : Terminal) → admits (pattern.Keyword word.Const) t ≡ true → Begins n.TypeRest t (Maybe n.Pointers ∷ [])
type_rest-const t h = begins n.TypeRest of_type_rest those_type_rest t (pattern.Keyword word.Const) (Maybe n.Pointers ∷ []) (inl refl) h

pub type_rest-star : (t : Terminal) → admits (pattern.Punctuator mark.Star) t ≡ true → Begins n.TypeRest t (Maybe n.Pointers ∷ Close ∷ [])
type_rest-star t h = begins n.TypeRest of_type_rest those_type_rest t (pattern.Punctuator mark.Star) (Maybe n.Pointers ∷ Close ∷ []) (inr (inl refl)) h

pub type_rest-reference : (t : Terminal) → admits pattern.ReferenceMark t ≡ true → Begins n.TypeRest t ([])
type_rest-reference t h = begins n.TypeRest of_type_rest those_type_rest t pattern.ReferenceMark ([]) (inr (inr (inl refl))) h

-- ---- Pointers

abbrev pub of_pointers : List Rule
of_pointers =
    rule n.Pointers (pattern.Punctuator mark.Star) (Maybe n.Pointers ∷ Close ∷ []) ∷
    rule n.Pointers pattern.ReferenceMark ([]) ∷ []

pub those_pointers : those n.Pointers rules ≡ of_pointers
unfolding in_file in_class in_type in_statement in_head in_local in_value in_argument in_unary in_operand from_file from_class from_type from_statement from_head from_local from_value from_argument from_unary
those_pointers = refl

pub pointers-star : (t : Terminal) → admits (pattern.Punctuator mark.Star) t ≡ true → Begins n.Pointers t (Maybe n.Pointers ∷ Close ∷ [])
pointers-star t h = begins n.Pointers of_pointers those_pointers t (pattern.Punctuator mark.Star) (Maybe n.Pointers ∷ Close ∷ []) (inl refl) h

pub pointers-reference : (t : Terminal) → admits pattern.ReferenceMark t ≡ true → Begins n.Pointers t ([])
pointers-reference t h = begins n.Pointers of_pointers those_pointers t pattern.ReferenceMark ([]) (inr (inl refl)) h

-- ---- Parameters

abbrev pub of_parameters : List Rule
of_parameters =
    rule n.Parameters (pattern.Keyword word.Const) (One n.Base ∷ Maybe n.TypeRest ∷ Maybe n.ParameterName ∷ Many n.NextParameter ∷ []) ∷
    rule n.Parameters pattern.BuiltinType (Maybe n.TypeRest ∷ Maybe n.ParameterName ∷ Many n.NextParameter ∷ []) ∷
    rule n.Parameters (pattern.Spelled known.Std) (Token (pattern.Punctuator mark.Scope) ∷ One n.LibraryType ∷ Maybe n.TypeRest ∷ Maybe n.ParameterName ∷ Many n.NextParameter ∷ []) ∷
    rule n.Parameters pattern.ClassName (Maybe n.InnerClass ∷ Maybe n.TypeRest ∷ Maybe n.ParameterName ∷ Many n.NextParameter ∷ []) ∷
    rule n.Parameters pattern.OtherName (Token (pattern.Punctuator mark.Scope) ∷ One n.ClassPath ∷ Maybe n.TypeRest ∷ Maybe n.ParameterName ∷ Many n.NextParameter ∷ []) ∷ []

pub those_parameters : those n.Parameters rules ≡ of_parameters
unfolding in_file in_class in_type in_statement in_head in_local in_value in_argument in_unary in_operand from_file from_class from_type from_statement from_head from_local from_value from_argument from_unary
those_parameters = refl

pub parameters-const : (t : Terminal) → admits (pattern.Keyword word.Const) t ≡ true → Begins n.Parameters t (One n.Base ∷ Maybe n.TypeRest ∷ Maybe n.ParameterName ∷ Many n.NextParameter ∷ [])
parameters-const t h = begins n.Parameters of_parameters those_parameters t (pattern.Keyword word.Const) (One n.Base ∷ Maybe n.TypeRest ∷ Maybe n.ParameterName ∷ Many n.NextParameter ∷ []) (inl refl) h

pub parameters-built_in_type : (t : Terminal) → admits pattern.BuiltinType t ≡ true → Begins n.Parameters t (Maybe n.TypeRest ∷ Maybe n.ParameterName ∷ Many n.NextParameter ∷ [])
parameters-built_in_type t h = begins n.Parameters of_parameters those_parameters t pattern.BuiltinType (Maybe n.TypeRest ∷ Maybe n.ParameterName ∷ Many n.NextParameter ∷ []) (inr (inl refl)) h

pub parameters-std : (t : Terminal) → admits (pattern.Spelled known.Std) t ≡ true → Begins n.Parameters t (Token (pattern.Punctuator mark.Scope) ∷ One n.LibraryType ∷ Maybe n.TypeRest ∷ Maybe n.ParameterName ∷ Many n.NextParameter ∷ [])
parameters-std t h = begins n.Parameters of_parameters those_parameters t (pattern.Spelled known.Std) (Token (pattern.Punctuator mark.Scope) ∷ One n.LibraryType ∷ Maybe n.TypeRest ∷ Maybe n.ParameterName ∷ Many n.NextParameter ∷ []) (inr (inr (inl refl))) h

pub parameters-class_name : (t : Terminal) → admits pattern.ClassName t ≡ true → Begins n.Parameters t (Maybe n.InnerClass ∷ Maybe n.TypeRest ∷ Maybe n.ParameterName ∷ Many n.NextParameter ∷ [])
parameters-class_name t h = begins n.Parameters of_parameters those_parameters t pattern.ClassName (Maybe n.InnerClass ∷ Maybe n.TypeRest ∷ Maybe n.ParameterName ∷ Many n.NextParameter ∷ []) (inr (inr (inr (inl refl)))) h

pub parameters-other_name : (t : Terminal) → admits pattern.OtherName t ≡ true → Begins n.Parameters t (Token (pattern.Punctuator mark.Scope) ∷ One n.ClassPath ∷ Maybe n.TypeRest ∷ Maybe n.ParameterName ∷ Many n.NextParameter ∷ [])
parameters-other_name t h = begins n.Parameters of_parameters those_parameters t pattern.OtherName (Token (pattern.Punctuator mark.Scope) ∷ One n.ClassPath ∷ Maybe n.TypeRest ∷ Maybe n.ParameterName ∷ Many n.NextParameter ∷ []) (inr (inr (inr (inr (inl refl))))) h

-- ---- NextParameter

abbrev pub of_next_parameter : List Rule
of_next_parameter =
    rule n.NextParameter (pattern.Punctuator mark.Comma) (One n.TypeId ∷ Maybe n.ParameterName ∷ []) ∷ []

pub those_next_parameter : those n.NextParameter rules ≡ of_next_parameter
unfolding in_file in_class in_type in_statement in_head in_local in_value in_argument in_unary in_operand from_file from_class from_type from_statement from_head from_local from_value from_argument from_unary
those_next_parameter = refl

pub next_parameter-comma : (t : Terminal) → admits (pattern.Punctuator mark.Comma) t ≡ true → Begins n.NextParameter t (One n.TypeId ∷ Maybe n.ParameterName ∷ [])
next_parameter-comma t h = begins n.NextParameter of_next_parameter those_next_parameter t (pattern.Punctuator mark.Comma) (One n.TypeId ∷ Maybe n.ParameterName ∷ []) (inl refl) h

-- ---- ParameterName

abbrev pub of_parameter_name : List Rule
of_parameter_name =
    rule n.ParameterName pattern.Name ([]) ∷ []

pub those_parameter_name : those n.ParameterName rules ≡ of_parameter_name
unfolding in_file in_class in_type in_statement in_head in_local in_value in_argument in_unary in_operand from_file from_class from_type from_statement from_head from_local from_value from_argument from_unary
those_parameter_name = refl

pub parameter_name-name : (t : Terminal) → admits pattern.Name t ≡ true → Begins n.ParameterName t ([])
parameter_name-name t h = begins n.ParameterName of_parameter_name those_parameter_name t pattern.Name ([]) (inl refl) h

-- ---- Reference

abbrev pub of_reference : List Rule
of_reference =
    rule n.Reference (pattern.Punctuator mark.And) ([]) ∷ []

pub those_reference : those n.Reference rules ≡ of_reference
unfolding in_file in_class in_type in_statement in_head in_local in_value in_argument in_unary in_operand from_file from_class from_type from_statement from_head from_local from_value from_argument from_unary
those_reference = refl

pub reference-and : (t : Terminal) → admits (pattern.Punctuator mark.And) t ≡ true → Begins n.Reference t ([])
reference-and t h = begins n.Reference of_reference those_reference t (pattern.Punctuator mark.And) ([]) (inl refl) h
