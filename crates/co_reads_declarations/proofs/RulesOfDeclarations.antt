-- The rules of declarations.
use Rattle.std.proofs.Common.{◌≡◌, List, [], ◌∷◌, refl}
use Rattle.co_lex.specs.declared.token.Mark.TheVariants as mark
use Rattle.co_lex.specs.declared.token.Word.TheVariants as word
use Rattle.co_rules.specs.declared.symbol.Known.TheVariants as known
use Rattle.co_rules.specs.declared.symbol.Nonterminal.TheVariants as n
use Rattle.co_rules.specs.declared.symbol.Pattern.TheVariants as pattern
use Rattle.co_rules.specs.declared.symbol.Symbol.TheVariants.{Token, One, Maybe, Many, Close}
use Rattle.co_rules.specs.Rule.{Rule, rule, rules, in_file, in_class, in_type, in_statement, in_head, in_local, in_value, in_argument, in_unary, in_operand, from_file, from_class, from_type, from_statement, from_head, from_local, from_value, from_argument, from_unary}
use Rattle.co_reads.proofs.Those.{those}

-- ---- Item

abbrev pub of_item : List Rule
of_item =
    rule n.Item pattern.ClassKey (Token pattern.Name ∷ One n.ClassRest ∷ []) ∷
    rule n.Item (pattern.Keyword word.Using) (Token pattern.Name ∷ Token (pattern.Punctuator mark.Assign) ∷ One n.TypeId ∷ Token (pattern.Punctuator mark.Semicolon) ∷ []) ∷
    rule n.Item pattern.FunctionSpecifier (Many n.Specifier ∷ One n.ResultType ∷ One n.FunctionName ∷ []) ∷
    rule n.Item (pattern.Keyword word.Auto) (One n.FunctionName ∷ []) ∷
    rule n.Item (pattern.Keyword word.Const) (One n.Base ∷ Maybe n.TypeRest ∷ One n.GlobalName ∷ []) ∷
    rule n.Item pattern.BuiltinType (Maybe n.TypeRest ∷ One n.GlobalName ∷ []) ∷
    rule n.Item (pattern.Spelled known.Std) (Token (pattern.Punctuator mark.Scope) ∷ One n.LibraryType ∷ Maybe n.TypeRest ∷ One n.GlobalName ∷ []) ∷
    rule n.Item pattern.ClassName (Maybe n.InnerClass ∷ Maybe n.TypeRest ∷ One n.GlobalName ∷ []) ∷
    rule n.Item pattern.OtherName (Token (pattern.Punctuator mark.Scope) ∷ One n.ClassPath ∷ Maybe n.TypeRest ∷ One n.GlobalName ∷ []) ∷ []

pub those_item : those n.Item rules ≡ of_item
unfolding in_file in_class in_type in_statement in_head in_local in_value in_argument in_unary in_operand from_file from_class from_type from_statement from_head from_local from_value from_argument from_unary
those_item = refl

-- ---- Specifier

abbrev pub of_specifier : List Rule
of_specifier =
    rule n.Specifier pattern.FunctionSpecifier ([]) ∷ []

pub those_specifier : those n.Specifier rules ≡ of_specifier
unfolding in_file in_class in_type in_statement in_head in_local in_value in_argument in_unary in_operand from_file from_class from_type from_statement from_head from_local from_value from_argument from_unary
those_specifier = refl

-- ---- ClassRest

abbrev pub of_class_rest : List Rule
of_class_rest =
    rule n.ClassRest (pattern.Punctuator mark.Semicolon) ([]) ∷
    rule n.ClassRest (pattern.Punctuator mark.OpenBrace) (Many n.Member ∷ Token (pattern.Punctuator mark.CloseBrace) ∷ Close ∷ Token (pattern.Punctuator mark.Semicolon) ∷ []) ∷ []

pub those_class_rest : those n.ClassRest rules ≡ of_class_rest
unfolding in_file in_class in_type in_statement in_head in_local in_value in_argument in_unary in_operand from_file from_class from_type from_statement from_head from_local from_value from_argument from_unary
those_class_rest = refl

-- ---- ResultType

abbrev pub of_result_type : List Rule
of_result_type =
    rule n.ResultType (pattern.Keyword word.Auto) ([]) ∷
    rule n.ResultType (pattern.Keyword word.Const) (One n.Base ∷ Maybe n.TypeRest ∷ []) ∷
    rule n.ResultType pattern.BuiltinType (Maybe n.TypeRest ∷ []) ∷
    rule n.ResultType (pattern.Spelled known.Std) (Token (pattern.Punctuator mark.Scope) ∷ One n.LibraryType ∷ Maybe n.TypeRest ∷ []) ∷
    rule n.ResultType pattern.ClassName (Maybe n.InnerClass ∷ Maybe n.TypeRest ∷ []) ∷
    rule n.ResultType pattern.OtherName (Token (pattern.Punctuator mark.Scope) ∷ One n.ClassPath ∷ Maybe n.TypeRest ∷ []) ∷ []

pub those_result_type : those n.ResultType rules ≡ of_result_type
unfolding in_file in_class in_type in_statement in_head in_local in_value in_argument in_unary in_operand from_file from_class from_type from_statement from_head from_local from_value from_argument from_unary
those_result_type = refl

-- ---- GlobalName

abbrev pub of_global_name : List Rule
of_global_name =
    rule n.GlobalName pattern.Name (One n.GlobalRest ∷ []) ∷
    rule n.GlobalName (pattern.Keyword word.Operator) (Token (pattern.Keyword word.CoAwait) ∷ One n.FunctionRest ∷ []) ∷ []

pub those_global_name : those n.GlobalName rules ≡ of_global_name
unfolding in_file in_class in_type in_statement in_head in_local in_value in_argument in_unary in_operand from_file from_class from_type from_statement from_head from_local from_value from_argument from_unary
those_global_name = refl

-- ---- FunctionName

abbrev pub of_function_name : List Rule
of_function_name =
    rule n.FunctionName pattern.Name (One n.FunctionRest ∷ []) ∷
    rule n.FunctionName (pattern.Keyword word.Operator) (Token (pattern.Keyword word.CoAwait) ∷ One n.FunctionRest ∷ []) ∷ []

pub those_function_name : those n.FunctionName rules ≡ of_function_name
unfolding in_file in_class in_type in_statement in_head in_local in_value in_argument in_unary in_operand from_file from_class from_type from_statement from_head from_local from_value from_argument from_unary
those_function_name = refl

-- ---- GlobalRest

abbrev pub of_global_rest : List Rule
of_global_rest =
    rule n.GlobalRest (pattern.Punctuator mark.Assign) (One n.Expression ∷ Token (pattern.Punctuator mark.Semicolon) ∷ []) ∷
    rule n.GlobalRest (pattern.Punctuator mark.OpenBrace) (Maybe n.Arguments ∷ Token (pattern.Punctuator mark.CloseBrace) ∷ Close ∷ Token (pattern.Punctuator mark.Semicolon) ∷ []) ∷
    rule n.GlobalRest (pattern.Punctuator mark.Semicolon) ([]) ∷
    rule n.GlobalRest (pattern.Punctuator mark.OpenParen) (Maybe n.Parameters ∷ Token (pattern.Punctuator mark.CloseParen) ∷ Close ∷ Maybe n.Noexcept ∷ One n.FunctionBody ∷ []) ∷ []

pub those_global_rest : those n.GlobalRest rules ≡ of_global_rest
unfolding in_file in_class in_type in_statement in_head in_local in_value in_argument in_unary in_operand from_file from_class from_type from_statement from_head from_local from_value from_argument from_unary
those_global_rest = refl

-- ---- FunctionRest

abbrev pub of_function_rest : List Rule
of_function_rest =
    rule n.FunctionRest (pattern.Punctuator mark.OpenParen) (Maybe n.Parameters ∷ Token (pattern.Punctuator mark.CloseParen) ∷ Close ∷ Maybe n.Noexcept ∷ One n.FunctionBody ∷ []) ∷ []

pub those_function_rest : those n.FunctionRest rules ≡ of_function_rest
unfolding in_file in_class in_type in_statement in_head in_local in_value in_argument in_unary in_operand from_file from_class from_type from_statement from_head from_local from_value from_argument from_unary
those_function_rest = refl

-- ---- FunctionBody

abbrev pub of_function_body : List Rule
of_function_body =
    rule n.FunctionBody (pattern.Punctuator mark.OpenBrace) (Many n.Statement ∷ Token (pattern.Punctuator mark.CloseBrace) ∷ Close ∷ []) ∷
    rule n.FunctionBody (pattern.Punctuator mark.Semicolon) ([]) ∷ []

pub those_function_body : those n.FunctionBody rules ≡ of_function_body
unfolding in_file in_class in_type in_statement in_head in_local in_value in_argument in_unary in_operand from_file from_class from_type from_statement from_head from_local from_value from_argument from_unary
those_function_body = refl

-- ---- Noexcept

abbrev pub of_noexcept : List Rule
of_noexcept =
    rule n.Noexcept (pattern.Keyword word.Noexcept) ([]) ∷ []

pub those_noexcept : those n.Noexcept rules ≡ of_noexcept
unfolding in_file in_class in_type in_statement in_head in_local in_value in_argument in_unary in_operand from_file from_class from_type from_statement from_head from_local from_value from_argument from_unary
those_noexcept = refl

-- ---- Const

abbrev pub of_const : List Rule
of_const =
    rule n.Const (pattern.Keyword word.Const) ([]) ∷ []

pub those_const : those n.Const rules ≡ of_const
unfolding in_file in_class in_type in_statement in_head in_local in_value in_argument in_unary in_operand from_file from_class from_type from_statement from_head from_local from_value from_argument from_unary
those_const = refl

-- ---- Member

abbrev pub of_member : List Rule
of_member =
    rule n.Member pattern.AccessSpecifier (Token (pattern.Punctuator mark.Colon) ∷ []) ∷
    rule n.Member pattern.ClassKey (Token pattern.Name ∷ One n.ClassRest ∷ []) ∷
    rule n.Member (pattern.Keyword word.Using) (Token pattern.Name ∷ Token (pattern.Punctuator mark.Assign) ∷ One n.TypeId ∷ Token (pattern.Punctuator mark.Semicolon) ∷ []) ∷
    rule n.Member (pattern.Keyword word.Explicit) (Token pattern.Name ∷ One n.ConstructorRest ∷ []) ∷
    rule n.Member (pattern.Punctuator mark.Tilde) (Token pattern.Name ∷ One n.NoParameters ∷ Maybe n.Noexcept ∷ One n.DestructorBody ∷ []) ∷
    rule n.Member pattern.FunctionSpecifier (Many n.Specifier ∷ One n.ResultType ∷ One n.MethodName ∷ []) ∷
    rule n.Member (pattern.Keyword word.Auto) (One n.MethodName ∷ []) ∷
    rule n.Member (pattern.Keyword word.Const) (One n.Base ∷ Maybe n.TypeRest ∷ One n.FieldName ∷ []) ∷
    rule n.Member pattern.BuiltinType (Maybe n.TypeRest ∷ One n.FieldName ∷ []) ∷
    rule n.Member (pattern.Spelled known.Std) (Token (pattern.Punctuator mark.Scope) ∷ One n.LibraryType ∷ Maybe n.TypeRest ∷ One n.FieldName ∷ []) ∷
    rule n.Member pattern.ClassName (One n.MemberOfClass ∷ []) ∷
    rule n.Member pattern.OtherName (One n.MemberOfOther ∷ []) ∷ []

pub those_member : those n.Member rules ≡ of_member
unfolding in_file in_class in_type in_statement in_head in_local in_value in_argument in_unary in_operand from_file from_class from_type from_statement from_head from_local from_value from_argument from_unary
those_member = refl

-- ---- MemberOfClass

abbrev pub of_member_of_class : List Rule
of_member_of_class =
    rule n.MemberOfClass (pattern.Punctuator mark.OpenParen) (Maybe n.Parameters ∷ Token (pattern.Punctuator mark.CloseParen) ∷ Close ∷ Maybe n.Noexcept ∷ One n.ConstructorBody ∷ []) ∷
    rule n.MemberOfClass (pattern.Punctuator mark.Scope) (One n.ClassPath ∷ Maybe n.TypeRest ∷ One n.FieldName ∷ []) ∷
    rule n.MemberOfClass (pattern.Keyword word.Const) (Maybe n.Pointers ∷ One n.FieldName ∷ []) ∷
    rule n.MemberOfClass (pattern.Punctuator mark.Star) (Maybe n.Pointers ∷ Close ∷ One n.FieldName ∷ []) ∷
    rule n.MemberOfClass pattern.ReferenceMark (One n.FieldName ∷ []) ∷
    rule n.MemberOfClass pattern.Name (One n.FieldRest ∷ []) ∷
    rule n.MemberOfClass (pattern.Keyword word.Operator) (Token pattern.OperatorName ∷ One n.MethodRest ∷ []) ∷ []

pub those_member_of_class : those n.MemberOfClass rules ≡ of_member_of_class
unfolding in_file in_class in_type in_statement in_head in_local in_value in_argument in_unary in_operand from_file from_class from_type from_statement from_head from_local from_value from_argument from_unary
those_member_of_class = refl

-- ---- MemberOfOther

abbrev pub of_member_of_other : List Rule
of_member_of_other =
    rule n.MemberOfOther (pattern.Punctuator mark.OpenParen) (Maybe n.Parameters ∷ Token (pattern.Punctuator mark.CloseParen) ∷ Close ∷ Maybe n.Noexcept ∷ One n.ConstructorBody ∷ []) ∷
    rule n.MemberOfOther (pattern.Punctuator mark.Scope) (One n.ClassPath ∷ Maybe n.TypeRest ∷ One n.FieldName ∷ []) ∷ []

pub those_member_of_other : those n.MemberOfOther rules ≡ of_member_of_other
unfolding in_file in_class in_type in_statement in_head in_local in_value in_argument in_unary in_operand from_file from_class from_type from_statement from_head from_local from_value from_argument from_unary
those_member_of_other = refl

-- ---- MethodName

abbrev pub of_method_name : List Rule
of_method_name =
    rule n.MethodName pattern.Name (One n.MethodRest ∷ []) ∷
    rule n.MethodName (pattern.Keyword word.Operator) (Token pattern.OperatorName ∷ One n.MethodRest ∷ []) ∷ []

pub those_method_name : those n.MethodName rules ≡ of_method_name
unfolding in_file in_class in_type in_statement in_head in_local in_value in_argument in_unary in_operand from_file from_class from_type from_statement from_head from_local from_value from_argument from_unary
those_method_name = refl

-- ---- FieldName

abbrev pub of_field_name : List Rule
of_field_name =
    rule n.FieldName pattern.Name (One n.FieldRest ∷ []) ∷
    rule n.FieldName (pattern.Keyword word.Operator) (Token pattern.OperatorName ∷ One n.MethodRest ∷ []) ∷ []

pub those_field_name : those n.FieldName rules ≡ of_field_name
unfolding in_file in_class in_type in_statement in_head in_local in_value in_argument in_unary in_operand from_file from_class from_type from_statement from_head from_local from_value from_argument from_unary
those_field_name = refl

-- ---- MethodRest

abbrev pub of_method_rest : List Rule
of_method_rest =
    rule n.MethodRest (pattern.Punctuator mark.OpenParen) (Maybe n.Parameters ∷ Token (pattern.Punctuator mark.CloseParen) ∷ Close ∷ Maybe n.Const ∷ Maybe n.Noexcept ∷ One n.Block ∷ []) ∷ []

pub those_method_rest : those n.MethodRest rules ≡ of_method_rest
unfolding in_file in_class in_type in_statement in_head in_local in_value in_argument in_unary in_operand from_file from_class from_type from_statement from_head from_local from_value from_argument from_unary
those_method_rest = refl

-- ---- FieldRest

abbrev pub of_field_rest : List Rule
of_field_rest =
    rule n.FieldRest (pattern.Punctuator mark.Assign) (One n.Expression ∷ Token (pattern.Punctuator mark.Semicolon) ∷ []) ∷
    rule n.FieldRest (pattern.Punctuator mark.OpenBrace) (Maybe n.Arguments ∷ Token (pattern.Punctuator mark.CloseBrace) ∷ Close ∷ Token (pattern.Punctuator mark.Semicolon) ∷ []) ∷
    rule n.FieldRest (pattern.Punctuator mark.Semicolon) ([]) ∷
    rule n.FieldRest (pattern.Punctuator mark.OpenParen) (Maybe n.Parameters ∷ Token (pattern.Punctuator mark.CloseParen) ∷ Close ∷ Maybe n.Const ∷ Maybe n.Noexcept ∷ One n.Block ∷ []) ∷ []

pub those_field_rest : those n.FieldRest rules ≡ of_field_rest
unfolding in_file in_class in_type in_statement in_head in_local in_value in_argument in_unary in_operand from_file from_class from_type from_statement from_head from_local from_value from_argument from_unary
those_field_rest = refl

-- ---- ConstructorRest

abbrev pub of_constructor_rest : List Rule
of_constructor_rest =
    rule n.ConstructorRest (pattern.Punctuator mark.OpenParen) (Maybe n.Parameters ∷ Token (pattern.Punctuator mark.CloseParen) ∷ Close ∷ Maybe n.Noexcept ∷ One n.ConstructorBody ∷ []) ∷ []

pub those_constructor_rest : those n.ConstructorRest rules ≡ of_constructor_rest
unfolding in_file in_class in_type in_statement in_head in_local in_value in_argument in_unary in_operand from_file from_class from_type from_statement from_head from_local from_value from_argument from_unary
those_constructor_rest = refl

-- ---- ConstructorBody

abbrev pub of_constructor_body : List Rule
of_constructor_body =
    rule n.ConstructorBody (pattern.Punctuator mark.Colon) (One n.Initializer ∷ Many n.NextInitializer ∷ One n.Block ∷ []) ∷
    rule n.ConstructorBody (pattern.Punctuator mark.OpenBrace) (Many n.Statement ∷ Token (pattern.Punctuator mark.CloseBrace) ∷ Close ∷ []) ∷
    rule n.ConstructorBody (pattern.Punctuator mark.Assign) (One n.Defaulted ∷ Token (pattern.Punctuator mark.Semicolon) ∷ []) ∷ []

pub those_constructor_body : those n.ConstructorBody rules ≡ of_constructor_body
unfolding in_file in_class in_type in_statement in_head in_local in_value in_argument in_unary in_operand from_file from_class from_type from_statement from_head from_local from_value from_argument from_unary
those_constructor_body = refl

-- ---- Defaulted

abbrev pub of_defaulted : List Rule
of_defaulted =
    rule n.Defaulted (pattern.Keyword word.Default) ([]) ∷
    rule n.Defaulted (pattern.Keyword word.Delete) ([]) ∷ []

pub those_defaulted : those n.Defaulted rules ≡ of_defaulted
unfolding in_file in_class in_type in_statement in_head in_local in_value in_argument in_unary in_operand from_file from_class from_type from_statement from_head from_local from_value from_argument from_unary
those_defaulted = refl

-- ---- Initializer

abbrev pub of_initializer : List Rule
of_initializer =
    rule n.Initializer pattern.Name (One n.Built ∷ []) ∷ []

pub those_initializer : those n.Initializer rules ≡ of_initializer
unfolding in_file in_class in_type in_statement in_head in_local in_value in_argument in_unary in_operand from_file from_class from_type from_statement from_head from_local from_value from_argument from_unary
those_initializer = refl

-- ---- NextInitializer

abbrev pub of_next_initializer : List Rule
of_next_initializer =
    rule n.NextInitializer (pattern.Punctuator mark.Comma) (One n.Initializer ∷ []) ∷ []

pub those_next_initializer : those n.NextInitializer rules ≡ of_next_initializer
unfolding in_file in_class in_type in_statement in_head in_local in_value in_argument in_unary in_operand from_file from_class from_type from_statement from_head from_local from_value from_argument from_unary
those_next_initializer = refl

-- ---- NoParameters

abbrev pub of_no_parameters : List Rule
of_no_parameters =
    rule n.NoParameters (pattern.Punctuator mark.OpenParen) (Token (pattern.Punctuator mark.CloseParen) ∷ Close ∷ []) ∷ []

pub those_no_parameters : those n.NoParameters rules ≡ of_no_parameters
unfolding in_file in_class in_type in_statement in_head in_local in_value in_argument in_unary in_operand from_file from_class from_type from_statement from_head from_local from_value from_argument from_unary
those_no_parameters = refl

-- ---- DestructorBody

abbrev pub of_destructor_body : List Rule
of_destructor_body =
    rule n.DestructorBody (pattern.Punctuator mark.OpenBrace) (Many n.Statement ∷ Token (pattern.Punctuator mark.CloseBrace) ∷ Close ∷ []) ∷
    rule n.DestructorBody (pattern.Punctuator mark.Assign) (Token (pattern.Keyword word.Default) ∷ Token (pattern.Punctuator mark.Semicolon) ∷ []) ∷ []

pub those_destructor_body : those n.DestructorBody rules ≡ of_destructor_body
unfolding in_file in_class in_type in_statement in_head in_local in_value in_argument in_unary in_operand from_file from_class from_type from_statement from_head from_local from_value from_argument from_unary
those_destructor_body = refl
