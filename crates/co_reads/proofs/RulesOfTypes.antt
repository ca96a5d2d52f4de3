-- The rules of types and parameters.
use Rattle.std.proofs.Common.{◌≡◌, List, [], ◌∷◌, refl}
use Rattle.co_lex.specs.declared.token.Mark.TheVariants as mark
use Rattle.co_lex.specs.declared.token.Word.TheVariants as word
use Rattle.co_rules.specs.declared.symbol.Known.TheVariants as known
use Rattle.co_rules.specs.declared.symbol.Nonterminal.TheVariants as n
use Rattle.co_rules.specs.declared.symbol.Pattern.TheVariants as pattern
use Rattle.co_rules.specs.declared.symbol.Symbol.TheVariants.{Token, One, Maybe, Many, Close}
use Rattle.co_rules.specs.Rule.{Rule, rule, rules, in_file, in_class, in_type, in_statement, in_head, in_local, in_value, in_argument, in_unary, in_operand, from_file, from_class, from_type, from_statement, from_head, from_local, from_value, from_argument, from_unary}
use Rattle.co_reads.proofs.Those.{those}

-- ---- TypeId

abbrev pub of_type_id : List Rule
of_type_id =
    rule n.TypeId (pattern.Keyword word.Const) (One n.Base ∷ Maybe n.TypeRest ∷ []) ∷
    rule n.TypeId pattern.BuiltinType (Maybe n.TypeRest ∷ []) ∷
    rule n.TypeId (pattern.Spelled known.Std) (Token (pattern.Punctuator mark.Scope) ∷ One n.LibraryType ∷ Maybe n.TypeRest ∷ []) ∷
    rule n.TypeId pattern.ClassName (Maybe n.InnerClass ∷ Maybe n.TypeRest ∷ []) ∷
    rule n.TypeId pattern.OtherName (Token (pattern.Punctuator mark.Scope) ∷ One n.ClassPath ∷ Maybe n.TypeRest ∷ []) ∷ []

pub those_type_id : those n.TypeId rules ≡ of_type_id
unfolding in_file in_class in_type in_statement in_head in_local in_value in_argument in_unary in_operand from_file from_class from_type from_statement from_head from_local from_value from_argument from_unary
those_type_id = refl

-- ---- Base

abbrev pub of_base : List Rule
of_base =
    rule n.Base pattern.BuiltinType ([]) ∷
    rule n.Base (pattern.Spelled known.Std) (Token (pattern.Punctuator mark.Scope) ∷ One n.LibraryType ∷ []) ∷
    rule n.Base pattern.ClassName (Maybe n.InnerClass ∷ []) ∷
    rule n.Base pattern.OtherName (Token (pattern.Punctuator mark.Scope) ∷ One n.ClassPath ∷ []) ∷ []

pub those_base : those n.Base rules ≡ of_base
unfolding in_file in_class in_type in_statement in_head in_local in_value in_argument in_unary in_operand from_file from_class from_type from_statement from_head from_local from_value from_argument from_unary
those_base = refl

-- ---- InnerClass

abbrev pub of_inner_class : List Rule
of_inner_class =
    rule n.InnerClass (pattern.Punctuator mark.Scope) (One n.ClassPath ∷ []) ∷ []

pub those_inner_class : those n.InnerClass rules ≡ of_inner_class
unfolding in_file in_class in_type in_statement in_head in_local in_value in_argument in_unary in_operand from_file from_class from_type from_statement from_head from_local from_value from_argument from_unary
those_inner_class = refl

-- ---- ClassPath

abbrev pub of_class_path : List Rule
of_class_path =
    rule n.ClassPath pattern.ClassName (Maybe n.InnerClass ∷ []) ∷
    rule n.ClassPath pattern.OtherName (Token (pattern.Punctuator mark.Scope) ∷ One n.ClassPath ∷ []) ∷ []

pub those_class_path : those n.ClassPath rules ≡ of_class_path
unfolding in_file in_class in_type in_statement in_head in_local in_value in_argument in_unary in_operand from_file from_class from_type from_statement from_head from_local from_value from_argument from_unary
those_class_path = refl

-- ---- LibraryType

abbrev pub of_library_type : List Rule
of_library_type =
    rule n.LibraryType pattern.LibraryObject ([]) ∷
    rule n.LibraryType (pattern.Spelled known.CoroutineHandle) (Token (pattern.Punctuator mark.Less) ∷ Maybe n.ClassPath ∷ Token (pattern.Punctuator mark.Greater) ∷ []) ∷
    rule n.LibraryType (pattern.Spelled known.Atomic) (Token (pattern.Punctuator mark.Less) ∷ One n.AtomicArgument ∷ []) ∷ []

pub those_library_type : those n.LibraryType rules ≡ of_library_type
unfolding in_file in_class in_type in_statement in_head in_local in_value in_argument in_unary in_operand from_file from_class from_type from_statement from_head from_local from_value from_argument from_unary
those_library_type = refl

-- ---- AtomicArgument

abbrev pub of_atomic_argument : List Rule
of_atomic_argument =
    rule n.AtomicArgument (pattern.Keyword word.Int) (Token (pattern.Punctuator mark.Greater) ∷ []) ∷
    rule n.AtomicArgument (pattern.Keyword word.Long) (Token (pattern.Punctuator mark.Greater) ∷ []) ∷
    rule n.AtomicArgument (pattern.Keyword word.Bool) (Token (pattern.Punctuator mark.Greater) ∷ []) ∷
    rule n.AtomicArgument (pattern.Keyword word.Void) (One n.AtomicPointer ∷ []) ∷ []

pub those_atomic_argument : those n.AtomicArgument rules ≡ of_atomic_argument
unfolding in_file in_class in_type in_statement in_head in_local in_value in_argument in_unary in_operand from_file from_class from_type from_statement from_head from_local from_value from_argument from_unary
those_atomic_argument = refl

-- ---- AtomicPointer

abbrev pub of_atomic_pointer : List Rule
of_atomic_pointer =
    rule n.AtomicPointer (pattern.Punctuator mark.Star) (Token (pattern.Punctuator mark.Greater) ∷ Close ∷ []) ∷ []

pub those_atomic_pointer : those n.AtomicPointer rules ≡ of_atomic_pointer
unfolding in_file in_class in_type in_statement in_head in_local in_value in_argument in_unary in_operand from_file from_class from_type from_statement from_head from_local from_value from_argument from_unary
those_atomic_pointer = refl

-- ---- TypeRest

abbrev pub of_type_rest : List Rule
of_type_rest =
    rule n.TypeRest (pattern.Keyword word.Const) (Maybe n.Pointers ∷ []) ∷
    rule n.TypeRest (pattern.Punctuator mark.Star) (Maybe n.Pointers ∷ Close ∷ []) ∷
    rule n.TypeRest pattern.ReferenceMark ([]) ∷ []

pub those_type_rest : those n.TypeRest rules ≡ of_type_rest
unfolding in_file in_class in_type in_statement in_head in_local in_value in_argument in_unary in_operand from_file from_class from_type from_statement from_head from_local from_value from_argument from_unary
those_type_rest = refl

-- ---- Pointers

abbrev pub of_pointers : List Rule
of_pointers =
    rule n.Pointers (pattern.Punctuator mark.Star) (Maybe n.Pointers ∷ Close ∷ []) ∷
    rule n.Pointers pattern.ReferenceMark ([]) ∷ []

pub those_pointers : those n.Pointers rules ≡ of_pointers
unfolding in_file in_class in_type in_statement in_head in_local in_value in_argument in_unary in_operand from_file from_class from_type from_statement from_head from_local from_value from_argument from_unary
those_pointers = refl

-- ---- Parameters

abbrev pub of_parameters : List Rule
of_parameters =
    rule n.Parameters (pattern.Keyword word.Const) (One n.Base ∷ Maybe n.TypeRest ∷ Maybe n.ParameterName ∷ Many n.NextParameter ∷ []) ∷
    rule n.Parameters pattern.BuiltinType (Maybe n.TypeRest ∷ Maybe n.ParameterName ∷ Many n.NextParameter ∷ []) ∷
    rule n.Parameters (pattern.Spelled known.Std) (Token (pattern.Punctuator mark.Scope) ∷ One n.LibraryType ∷ Maybe n.TypeRest ∷ Maybe n.ParameterName ∷ Many n.NextParameter ∷ []) ∷
    rule n.Parameters pattern.ClassName (Maybe n.InnerClass ∷ Maybe n.TypeRest ∷ Maybe n.ParameterName ∷ Many n.NextParameter ∷ []) ∷
    rule n.Parameters pattern.OtherName (Token (pattern.Punctuator mark.Scope) ∷ One n.ClassPath ∷ Maybe n.TypeRest ∷ Maybe n.ParameterName ∷ Many n.NextParameter ∷ []) ∷ []

pub those_parameters : those n.Parameters rules ≡ of_parameters
unfolding in_file in_class in_type in_statement in_head in_local in_value in_argument in_unary in_operand from_file from_class from_type from_statement from_head from_local from_value from_argument from_unary
those_parameters = refl

-- ---- NextParameter

abbrev pub of_next_parameter : List Rule
of_next_parameter =
    rule n.NextParameter (pattern.Punctuator mark.Comma) (One n.TypeId ∷ Maybe n.ParameterName ∷ []) ∷ []

pub those_next_parameter : those n.NextParameter rules ≡ of_next_parameter
unfolding in_file in_class in_type in_statement in_head in_local in_value in_argument in_unary in_operand from_file from_class from_type from_statement from_head from_local from_value from_argument from_unary
those_next_parameter = refl

-- ---- ParameterName

abbrev pub of_parameter_name : List Rule
of_parameter_name =
    rule n.ParameterName pattern.Name ([]) ∷ []

pub those_parameter_name : those n.ParameterName rules ≡ of_parameter_name
unfolding in_file in_class in_type in_statement in_head in_local in_value in_argument in_unary in_operand from_file from_class from_type from_statement from_head from_local from_value from_argument from_unary
those_parameter_name = refl

-- ---- Reference

abbrev pub of_reference : List Rule
of_reference =
    rule n.Reference (pattern.Punctuator mark.And) ([]) ∷ []

pub those_reference : those n.Reference rules ≡ of_reference
unfolding in_file in_class in_type in_statement in_head in_local in_value in_argument in_unary in_operand from_file from_class from_type from_statement from_head from_local from_value from_argument from_unary
those_reference = refl
