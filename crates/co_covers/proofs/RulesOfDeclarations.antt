-- The rules of declarations.
use Rattle.std.proofs.Common.{◌≡◌, true, List, [], ◌∷◌, refl, inl, inr}
use Rattle.co_lex.specs.declared.token.Mark.TheVariants as mark
use Rattle.co_lex.specs.declared.token.Word.TheVariants as word
use Rattle.co_rules.specs.declared.symbol.Known.TheVariants as known
use Rattle.co_rules.specs.declared.symbol.Nonterminal.TheVariants as n
use Rattle.co_rules.specs.declared.symbol.Pattern.TheVariants as pattern
use Rattle.co_rules.specs.declared.symbol.Symbol.TheVariants.{Token, One, Maybe, Many, Close}
use Rattle.co_rules.specs.declared.symbol.Terminal.{Terminal}
use Rattle.co_rules.specs.Derives.{Begins}
use Rattle.co_rules.specs.Pattern.{admits}
use Rattle.co_rules.specs.Rule.{Rule, rule, rules, in_file, in_class, in_type, in_statement, in_head, in_local, in_value, in_argument, in_unary, in_operand, from_file, from_class, from_type, from_statement, from_head, from_local, from_value, from_argument, from_unary}
use Rattle.co_covers.proofs.Those.{those, begins}

-- ---- Item

abbrev pub of_item : List Rule
of_item =
    rule n.Item pattern.ClassKey (Token pattern.Name ∷ One n.ClassRest ∷ []) ∷
    rule n.Item (pattern.Keyword word.Using) (Token pattern.Name ∷ Token (pattern.Punctuator mark.Assign) ∷ One n.TypeId ∷ Token (pattern.Punctuator mark.Semicolon) ∷ []) ∷
    rule n.Item pattern.FunctionSpecifier (Many n.Specifier ∷ One n.ResultType ∷ One n.FunctionName ∷ []) ∷
    rule n.Item (pattern.Keyword word.Auto) (One n.FunctionName ∷ []) ∷
    rule n.Item (pattern.Keyword word.Const) (One n.Base ∷ Maybe n.TypeRest ∷ One n.GlobalName ∷ []) ∷
    rule n.Item pattern.BuiltinType (Maybe n.TypeRest ∷ One n.GlobalName ∷ []) ∷
    rule n.Item (pattern.Spelled known.Std) (Token (pattern.Punctuator mark.Scope) ∷ One n.LibraryType ∷ Maybe n.TypeRest ∷ One n.GlobalName ∷ []) ∷
    rule n.Item pattern.ClassName (Maybe n.InnerClass ∷ Maybe n.TypeRest ∷ One n.GlobalName ∷ []) ∷
    rule n.Item pattern.OtherName (Token (pattern.Punctuator mark.Scope) ∷ One n.ClassPath ∷ Maybe n.TypeRest ∷ One n.GlobalName ∷ []) ∷ []

pub those_item : those n.Item rules ≡ of_item
unfolding in_file in_class in_type in_statement in_head in_local in_value in_argument in_unary in_operand from_file from_class from_type from_statement from_head from_local from_value from_argument from_unary
those_item = refl

pub item-class_key : (t : Terminal) → admits pattern.ClassKey t ≡ true → Begins n.Item t (Token pattern.Name ∷ One n.ClassRest ∷ [])
item-class_key t h = begins n.Item of_item those_item t pattern.ClassKey (Token pattern.Name ∷ One n.ClassRest ∷ []) (inl refl) h

pub item-using : (t : Terminal) → admits (pattern.Keyword word.Using) t ≡ true → Begins n.Item t (Token pattern.Name ∷ Token (pattern.Punctuator mark.Assign) ∷ One n.TypeId ∷ Token (pattern.Punctuator mark.Semicolon) ∷ [])
item-using t h = begins n.Item of_item those_item t (pattern.Keyword word.Using) (Token pattern.Name ∷ Token (pattern.Punctuator mark.Assign) ∷ One n.TypeId ∷ Token (pattern.Punctuator mark.Semicolon) ∷ []) (inr (inl refl)) h

pub item-function_specifier : (t : Terminal) → admits pattern.FunctionSpecifier t ≡ true → Begins n.Item t (Many n.Specifier ∷ One n.ResultType ∷ One n.FunctionName ∷ [])
item-function_specifier t h = begins n.Item of_item those_item t pattern.FunctionSpecifier (Many n.Specifier ∷ One n.ResultType ∷ One n.FunctionName ∷ []) (inr (inr (inl refl))) h

pub item-auto : (t : Terminal) → admits (pattern.Keyword word.Auto) t ≡ true → Begins n.Item t (One n.FunctionName ∷ [])
item-auto t h = begins n.Item of_item those_item t (pattern.Keyword word.Auto) (One n.FunctionName ∷ []) (inr (inr (inr (inl refl)))) h

pub item-const : (t : Terminal) → admits (pattern.Keyword word.Const) t ≡ true → Begins n.Item t (One n.Base ∷ Maybe n.TypeRest ∷ One n.GlobalName ∷ [])
item-const t h = begins n.Item of_item those_item t (pattern.Keyword word.Const) (One n.Base ∷ Maybe n.TypeRest ∷ One n.GlobalName ∷ []) (inr (inr (inr (inr (inl refl))))) h

pub item-built_in_type : (t : Terminal) → admits pattern.BuiltinType t ≡ true → Begins n.Item t (Maybe n.TypeRest ∷ One n.GlobalName ∷ [])
item-built_in_type t h = begins n.Item of_item those_item t pattern.BuiltinType (Maybe n.TypeRest ∷ One n.GlobalName ∷ []) (inr (inr (inr (inr (inr (inl refl)))))) h

pub item-std : (t : Terminal) → admits (pattern.Spelled known.Std) t ≡ true → Begins n.Item t (Token (pattern.Punctuator mark.Scope) ∷ One n.LibraryType ∷ Maybe n.TypeRest ∷ One n.GlobalName ∷ [])
item-std t h = begins n.Item of_item those_item t (pattern.Spelled known.Std) (Token (pattern.Punctuator mark.Scope) ∷ One n.LibraryType ∷ Maybe n.TypeRest ∷ One n.GlobalName ∷ []) (inr (inr (inr (inr (inr (inr (inl refl))))))) h

pub item-class_name : (t : Terminal) → admits pattern.ClassName t ≡ true → Begins n.Item t (Maybe n.InnerClass ∷ Maybe n.TypeRest ∷ One n.GlobalName ∷ [])
item-class_name t h = begins n.Item of_item those_item t pattern.ClassName (Maybe n.InnerClass ∷ Maybe n.TypeRest ∷ One n.GlobalName ∷ []) (inr (inr (inr (inr (inr (inr (inr (inl refl)))))))) h

pub item-other_name : (t : Terminal) → admits pattern.OtherName t ≡ true → Begins n.Item t (Token (pattern.Punctuator mark.Scope) ∷ One n.ClassPath ∷ Maybe n.TypeRest ∷ One n.GlobalName ∷ [])
item-other_name t h = begins n.Item of_item those_item t pattern.OtherName (Token (pattern.Punctuator mark.Scope) ∷ One n.ClassPath ∷ Maybe n.TypeRest ∷ One n.GlobalName ∷ []) (inr (inr (inr (inr (inr (inr (inr (inr (inl refl))))))))) h

-- ---- Specifier

abbrev pub of_specifier : List Rule
of_specifier =
    rule n.Specifier pattern.FunctionSpecifier ([]) ∷ []

pub those_specifier : those n.Specifier rules ≡ of_specifier
unfolding in_file in_class in_type in_statement in_head in_local in_value in_argument in_unary in_operand from_file from_class from_type from_statement from_head from_local from_value from_argument from_unary
those_specifier = refl

pub specifier-function_specifier : (t : Terminal) → admits pattern.FunctionSpecifier t ≡ true → Begins n.Specifier t ([])
specifier-function_specifier t h = begins n.Specifier of_specifier those_specifier t pattern.FunctionSpecifier ([]) (inl refl) h

-- ---- ClassRest

abbrev pub of_class_rest : List Rule
of_class_rest =
    rule n.ClassRest (pattern.Punctuator mark.Semicolon) ([]) ∷
    rule n.ClassRest (pattern.Punctuator mark.OpenBrace) (Many n.Member ∷ Token (pattern.Punctuator mark.CloseBrace) ∷ Close ∷ Token (pattern.Punctuator mark.Semicolon) ∷ []) ∷ []

pub those_class_rest : those n.ClassRest rules ≡ of_class_rest
unfolding in_file in_class in_type in_statement in_head in_local in_value in_argument in_unary in_operand from_file from_class from_type from_statement from_head from_local from_value from_argument from_unary
those_class_rest = refl

pub class_rest-semicolon : (t : Terminal) → admits (pattern.Punctuator mark.Semicolon) t ≡ true → Begins n.ClassRest t ([])
class_rest-semicolon t h = begins n.ClassRest of_class_rest those_class_rest t (pattern.Punctuator mark.Semicolon) ([]) (inl refl) h

pub class_rest-brace : (t : Terminal) → admits (pattern.Punctuator mark.OpenBrace) t ≡ true → Begins n.ClassRest t (Many n.Member ∷ Token (pattern.Punctuator mark.CloseBrace) ∷ Close ∷ Token (pattern.Punctuator mark.Semicolon) ∷ [])
class_rest-brace t h = begins n.ClassRest of_class_rest those_class_rest t (pattern.Punctuator mark.OpenBrace) (Many n.Member ∷ Token (pattern.Punctuator mark.CloseBrace) ∷ Close ∷ Token (pattern.Punctuator mark.Semicolon) ∷ []) (inr (inl refl)) h

-- ---- ResultType

abbrev pub of_result_type : List Rule
of_result_type =
    rule n.ResultType (pattern.Keyword word.Auto) ([]) ∷
    rule n.ResultType (pattern.Keyword word.Const) (One n.Base ∷ Maybe n.TypeRest ∷ []) ∷
    rule n.ResultType pattern.BuiltinType (Maybe n.TypeRest ∷ []) ∷
    rule n.ResultType (pattern.Spelled known.Std) (Token (pattern.Punctuator mark.Scope) ∷ One n.LibraryType ∷ Maybe n.TypeRest ∷ []) ∷
    rule n.ResultType pattern.ClassName (Maybe n.InnerClass ∷ Maybe n.TypeRest ∷ []) ∷
    rule n.ResultType pattern.OtherName (Token (pattern.Punctuator mark.Scope) ∷ One n.ClassPath ∷ Maybe n.TypeRest ∷ []) ∷ []

pub those_result_type : those n.ResultType rules ≡ of_result_type
unfolding in_file in_class in_type in_statement in_head in_local in_value in_argument in_unary in_operand from_file from_class from_type from_statement from_head from_local from_value from_argument from_unary
those_result_type = refl

pub result_type-auto : (t : Terminal) → admits (pattern.Keyword word.Auto) t ≡ true → Begins n.ResultType t ([])
result_type-auto t h = begins n.ResultType of_result_type those_result_type t (pattern.Keyword word.Auto) ([]) (inl refl) h

pub result_type-const : (t : Terminal) → admits (pattern.Keyword word.Const) t ≡ true → Begins n.ResultType t (One n.Base ∷ Maybe n.TypeRest ∷ [])
result_type-const t h = begins n.ResultType of_result_type those_result_type t (pattern.Keyword word.Const) (One n.Base ∷ Maybe n.TypeRest ∷ []) (inr (inl refl)) h

pub result_type-built_in_type : (t : Terminal) → admits pattern.BuiltinType t ≡ true → Begins n.ResultType t (Maybe n.TypeRest ∷ [])
result_type-built_in_type t h = begins n.ResultType of_result_type those_result_type t pattern.BuiltinType (Maybe n.TypeRest ∷ []) (inr (inr (inl refl))) h

pub result_type-std : (t : Terminal) → admits (pattern.Spelled known.Std) t ≡ true → Begins n.ResultType t (Token (pattern.Punctuator mark.Scope) ∷ One n.LibraryType ∷ Maybe n.TypeRest ∷ [])
result_type-std t h = begins n.ResultType of_result_type those_result_type t (pattern.Spelled known.Std) (Token (pattern.Punctuator mark.Scope) ∷ One n.LibraryType ∷ Maybe n.TypeRest ∷ []) (inr (inr (inr (inl refl)))) h

pub result_type-class_name : (t : Terminal) → admits pattern.ClassName t ≡ true → Begins n.ResultType t (Maybe n.InnerClass ∷ Maybe n.TypeRest ∷ [])
result_type-class_name t h = begins n.ResultType of_result_type those_result_type t pattern.ClassName (Maybe n.InnerClass ∷ Maybe n.TypeRest ∷ []) (inr (inr (inr (inr (inl refl))))) h

pub result_type-other_name : (t : Terminal) → admits pattern.OtherName t ≡ true → Begins n.ResultType t (Token (pattern.Punctuator mark.Scope) ∷ One n.ClassPath ∷ Maybe n.TypeRest ∷ [])
result_type-other_name t h = begins n.ResultType of_result_type those_result_type t pattern.OtherName (Token (pattern.Punctuator mark.Scope) ∷ One n.ClassPath ∷ Maybe n.TypeRest ∷ []) (inr (inr (inr (inr (inr (inl refl)))))) h

-- ---- GlobalName

abbrev pub of_global_name : List Rule
of_global_name =
    rule n.GlobalName pattern.Name (One n.GlobalRest ∷ []) ∷
    rule n.GlobalName (pattern.Keyword word.Operator) (Token (pattern.Keyword word.CoAwait) ∷ One n.FunctionRest ∷ []) ∷ []

pub those_global_name : those n.GlobalName rules ≡ of_global_name
unfolding in_file in_class in_type in_statement in_head in_local in_value in_argument in_unary in_operand from_file from_class from_type from_statement from_head from_local from_value from_argument from_unary
those_global_name = refl

pub global_name-name : (t : Terminal) → admits pattern.Name t ≡ true → Begins n.GlobalName t (One n.GlobalRest ∷ [])
global_name-name t h = begins n.GlobalName of_global_name those_global_name t pattern.Name (One n.GlobalRest ∷ []) (inl refl) h

pub global_name-operator : (t : Terminal) → admits (pattern.Keyword word.Operator) t ≡ true → Begins n.GlobalName t (Token (pattern.Keyword word.CoAwait) ∷ One n.FunctionRest ∷ [])
global_name-operator t h = begins n.GlobalName of_global_name those_global_name t (pattern.Keyword word.Operator) (Token (pattern.Keyword word.CoAwait) ∷ One n.FunctionRest ∷ []) (inr (inl refl)) h

-- ---- FunctionName

abbrev pub of_function_name : List Rule
of_function_name =
    rule n.FunctionName pattern.Name (One n.FunctionRest ∷ []) ∷
    rule n.FunctionName (pattern.Keyword word.Operator) (Token (pattern.Keyword word.CoAwait) ∷ One n.FunctionRest ∷ []) ∷ []

pub those_function_name : those n.FunctionName rules ≡ of_function_name
unfolding in_file in_class in_type in_statement in_head in_local in_value in_argument in_unary in_operand from_file from_class from_type from_statement from_head from_local from_value from_argument from_unary
those_function_name = refl

pub function_name-name : (t : Terminal) → admits pattern.Name t ≡ true → Begins n.FunctionName t (One n.FunctionRest ∷ [])
function_name-name t h = begins n.FunctionName of_function_name those_function_name t pattern.Name (One n.FunctionRest ∷ []) (inl refl) h

pub function_name-operator : (t : Terminal) → admits (pattern.Keyword word.Operator) t ≡ true → Begins n.FunctionName t (Token (pattern.Keyword word.CoAwait) ∷ One n.FunctionRest ∷ [])
function_name-operator t h = begins n.FunctionName of_function_name those_function_name t (pattern.Keyword word.Operator) (Token (pattern.Keyword word.CoAwait) ∷ One n.FunctionRest ∷ []) (inr (inl refl)) h

-- ---- GlobalRest

abbrev pub of_global_rest : List Rule
of_global_rest =
    rule n.GlobalRest (pattern.Punctuator mark.Assign) (One n.Expression ∷ Token (pattern.Punctuator mark.Semicolon) ∷ []) ∷
    rule n.GlobalRest (pattern.Punctuator mark.OpenBrace) (Maybe n.Arguments ∷ Token (pattern.Punctuator mark.CloseBrace) ∷ Close ∷ Token (pattern.Punctuator mark.Semicolon) ∷ []) ∷
    rule n.GlobalRest (pattern.Punctuator mark.Semicolon) ([]) ∷
    rule n.GlobalRest (pattern.Punctuator mark.OpenParen) (Maybe n.Parameters ∷ Token (pattern.Punctuator mark.CloseParen) ∷ Close ∷ Maybe n.Noexcept ∷ One n.FunctionBody ∷ []) ∷ []

pub those_global_rest : those n.GlobalRest rules ≡ of_global_rest
unfolding in_file in_class in_type in_statement in_head in_local in_value in_argument in_unary in_operand from_file from_class from_type from_statement from_head from_local from_value from_argument from_unary
those_global_rest = refl

pub global_rest-assign : (t : Terminal) → admits (pattern.Punctuator mark.Assign) t ≡ true → Begins n.GlobalRest t (One n.Expression ∷ Token (pattern.Punctuator mark.Semicolon) ∷ [])
global_rest-assign t h = begins n.GlobalRest of_global_rest those_global_rest t (pattern.Punctuator mark.Assign) (One n.Expression ∷ Token (pattern.Punctuator mark.Semicolon) ∷ []) (inl refl) h

pub global_rest-brace : (t : Terminal) → admits (pattern.Punctuator mark.OpenBrace) t ≡ true → Begins n.GlobalRest t (Maybe n.Arguments ∷ Token (pattern.Punctuator mark.CloseBrace) ∷ Close ∷ Token (pattern.Punctuator mark.Semicolon) ∷ [])
global_rest-brace t h = begins n.GlobalRest of_global_rest those_global_rest t (pattern.Punctuator mark.OpenBrace) (Maybe n.Arguments ∷ Token (pattern.Punctuator mark.CloseBrace) ∷ Close ∷ Token (pattern.Punctuator mark.Semicolon) ∷ []) (inr (inl refl)) h

pub global_rest-semicolon : (t : Terminal) → admits (pattern.Punctuator mark.Semicolon) t ≡ true → Begins n.GlobalRest t ([])
global_rest-semicolon t h = begins n.GlobalRest of_global_rest those_global_rest t (pattern.Punctuator mark.Semicolon) ([]) (inr (inr (inl refl))) h

pub global_rest-paren : (t : Terminal) → admits (pattern.Punctuator mark.OpenParen) t ≡ true → Begins n.GlobalRest t (Maybe n.Parameters ∷ Token (pattern.Punctuator mark.CloseParen) ∷ Close ∷ Maybe n.Noexcept ∷ One n.FunctionBody ∷ [])
global_rest-paren t h = begins n.GlobalRest of_global_rest those_global_rest t (pattern.Punctuator mark.OpenParen) (Maybe n.Parameters ∷ Token (pattern.Punctuator mark.CloseParen) ∷ Close ∷ Maybe n.Noexcept ∷ One n.FunctionBody ∷ []) (inr (inr (inr (inl refl)))) h

-- ---- FunctionRest

abbrev pub of_function_rest : List Rule
of_function_rest =
    rule n.FunctionRest (pattern.Punctuator mark.OpenParen) (Maybe n.Parameters ∷ Token (pattern.Punctuator mark.CloseParen) ∷ Close ∷ Maybe n.Noexcept ∷ One n.FunctionBody ∷ []) ∷ []

pub those_function_rest : those n.FunctionRest rules ≡ of_function_rest
unfolding in_file in_class in_type in_statement in_head in_local in_value in_argument in_unary in_operand from_file from_class from_type from_statement from_head from_local from_value from_argument from_unary
those_function_rest = refl

pub function_rest-paren : (t : Terminal) → admits (pattern.Punctuator mark.OpenParen) t ≡ true → Begins n.FunctionRest t (Maybe n.Parameters ∷ Token (pattern.Punctuator mark.CloseParen) ∷ Close ∷ Maybe n.Noexcept ∷ One n.FunctionBody ∷ [])
function_rest-paren t h = begins n.FunctionRest of_function_rest those_function_rest t (pattern.Punctuator mark.OpenParen) (Maybe n.Parameters ∷ Token (pattern.Punctuator mark.CloseParen) ∷ Close ∷ Maybe n.Noexcept ∷ One n.FunctionBody ∷ []) (inl refl) h

-- ---- FunctionBody

abbrev pub of_function_body : List Rule
of_function_body =
    rule n.FunctionBody (pattern.Punctuator mark.OpenBrace) (Many n.Statement ∷ Token (pattern.Punctuator mark.CloseBrace) ∷ Close ∷ []) ∷
    rule n.FunctionBody (pattern.Punctuator mark.Semicolon) ([]) ∷ []

pub those_function_body : those n.FunctionBody rules ≡ of_function_body
unfolding in_file in_class in_type in_statement in_head in_local in_value in_argument in_unary in_operand from_file from_class from_type from_statement from_head from_local from_value from_argument from_unary
those_function_body = refl

pub function_body-brace : (t : Terminal) → admits (pattern.Punctuator mark.OpenBrace) t ≡ true → Begins n.FunctionBody t (Many n.Statement ∷ Token (pattern.Punctuator mark.CloseBrace) ∷ Close ∷ [])
function_body-brace t h = begins n.FunctionBody of_function_body those_function_body t (pattern.Punctuator mark.OpenBrace) (Many n.Statement ∷ Token (pattern.Punctuator mark.CloseBrace) ∷ Close ∷ []) (inl refl) h

pub function_body-semicolon : (t : Terminal) → admits (pattern.Punctuator mark.Semicolon) t ≡ true → Begins n.FunctionBody t ([])
function_body-semicolon t h = begins n.FunctionBody of_function_body those_function_body t (pattern.Punctuator mark.Semicolon) ([]) (inr (inl refl)) h

-- ---- Noexcept

abbrev pub of_noexcept : List Rule
of_noexcept =
    rule n.Noexcept (pattern.Keyword word.Noexcept) ([]) ∷ []

pub those_noexcept : those n.Noexcept rules ≡ of_noexcept
unfolding in_file in_class in_type in_statement in_head in_local in_value in_argument in_unary in_operand from_file from_class from_type from_statement from_head from_local from_value from_argument from_unary
those_noexcept = refl

pub noexcept-noexcept : (t : Terminal) → admits (pattern.Keyword word.Noexcept) t ≡ true → Begins n.Noexcept t ([])
noexcept-noexcept t h = begins n.Noexcept of_noexcept those_noexcept t (pattern.Keyword word.Noexcept) ([]) (inl refl) h

-- ---- Const

abbrev pub of_const : List Rule
of_const =
    rule n.Const (pattern.Keyword word.Const) ([]) ∷ []

pub those_const : those n.Const rules ≡ of_const
unfolding in_file in_class in_type in_statement in_head in_local in_value in_argument in_unary in_operand from_file from_class from_type from_statement from_head from_local from_value from_argument from_unary
those_const = refl

pub const-const : (t : Terminal) → admits (pattern.Keyword word.Const) t ≡ true → Begins n.Const t ([])
const-const t h = begins n.Const of_const those_const t (pattern.Keyword word.Const) ([]) (inl refl) h

-- ---- Member

abbrev pub of_member : List Rule
of_member =
    rule n.Member pattern.AccessSpecifier (Token (pattern.Punctuator mark.Colon) ∷ []) ∷
    rule n.Member pattern.ClassKey (Token pattern.Name ∷ One n.ClassRest ∷ []) ∷
    rule n.Member (pattern.Keyword word.Using) (Token pattern.Name ∷ Token (pattern.Punctuator mark.Assign) ∷ One n.TypeId ∷ Token (pattern.Punctuator mark.Semicolon) ∷ []) ∷
    rule n.Member (pattern.Keyword word.Explicit) (Token pattern.Name ∷ One n.ConstructorRest ∷ []) ∷
    rule n.Member (pattern.Punctuator mark.Tilde) (Token pattern.Name ∷ One n.NoParameters ∷ Maybe n.Noexcept ∷ One n.DestructorBody ∷ []) ∷
    rule n.Member pattern.FunctionSpecifier (Many n.Specifier ∷ One n.ResultType ∷ One n.MethodName ∷ []) ∷
    rule n.Member (pattern.Keyword word.Auto) (One n.MethodName ∷ []) ∷
    rule n.Member (pattern.Keyword word.Const) (One n.Base ∷ Maybe n.TypeRest ∷ One n.FieldName ∷ []) ∷
    rule n.Member pattern.BuiltinType (Maybe n.TypeRest ∷ One n.FieldName ∷ []) ∷
    rule n.Member (pattern.Spelled known.Std) (Token (pattern.Punctuator mark.Scope) ∷ One n.LibraryType ∷ Maybe n.TypeRest ∷ One n.FieldName ∷ []) ∷
    rule n.Member pattern.ClassName (One n.MemberOfClass ∷ []) ∷
    rule n.Member pattern.OtherName (One n.MemberOfOther ∷ []) ∷ []

pub those_member : those n.Member rules ≡ of_member
unfolding in_file in_class in_type in_statement in_head in_local in_value in_argument in_unary in_operand from_file from_class from_type from_statement from_head from_local from_value from_argument from_unary
those_member = refl

pub member-access_specifier : (t : Terminal) → admits pattern.AccessSpecifier t ≡ true → Begins n.Member t (Token (pattern.Punctuator mark.Colon) ∷ [])
member-access_specifier t h = begins n.Member of_member those_member t pattern.AccessSpecifier (Token (pattern.Punctuator mark.Colon) ∷ []) (inl refl) h

pub member-class_key : (t : Terminal) → admits pattern.ClassKey t ≡ true → Begins n.Member t (Token pattern.Name ∷ One n.ClassRest ∷ [])
member-class_key t h = begins n.Member of_member those_member t pattern.ClassKey (Token pattern.Name ∷ One n.ClassRest ∷ []) (inr (inl refl)) h

pub member-using : (t : Terminal) → admits (pattern.Keyword word.Using) t ≡ true → Begins n.Member t (Token pattern.Name ∷ Token (pattern.Punctuator mark.Assign) ∷ One n.TypeId ∷ Token (pattern.Punctuator mark.Semicolon) ∷ [])
member-using t h = begins n.Member of_member those_member t (pattern.Keyword word.Using) (Token pattern.Name ∷ Token (pattern.Punctuator mark.Assign) ∷ One n.TypeId ∷ Token (pattern.Punctuator mark.Semicolon) ∷ []) (inr (inr (inl refl))) h

pub member-explicit : (t : Terminal) → admits (pattern.Keyword word.Explicit) t ≡ true → Begins n.Member t (Token pattern.Name ∷ One n.ConstructorRest ∷ [])
member-explicit t h = begins n.Member of_member those_member t (pattern.Keyword word.Explicit) (Token pattern.Name ∷ One n.ConstructorRest ∷ []) (inr (inr (inr (inl refl)))) h

pub member-tilde : (t : Terminal) → admits (pattern.Punctuator mark.Tilde) t ≡ true → Begins n.Member t (Token pattern.Name ∷ One n.NoParameters ∷ Maybe n.Noexcept ∷ One n.DestructorBody ∷ [])
member-tilde t h = begins n.Member of_member those_member t (pattern.Punctuator mark.Tilde) (Token pattern.Name ∷ One n.NoParameters ∷ Maybe n.Noexcept ∷ One n.DestructorBody ∷ []) (inr (inr (inr (inr (inl refl))))) h

pub member-function_specifier : (t : Terminal) → admits pattern.FunctionSpecifier t ≡ true → Begins n.Member t (Many n.Specifier ∷ One n.ResultType ∷ One n.MethodName ∷ [])
member-function_specifier t h = begins n.Member of_member those_member t pattern.FunctionSpecifier (Many n.Specifier ∷ One n.ResultType ∷ One n.MethodName ∷ []) (inr (inr (inr (inr (inr (inl refl)))))) h

pub member-auto : (t : Terminal) → admits (pattern.Keyword word.Auto) t ≡ true → Begins n.Member t (One n.MethodName ∷ [])
member-auto t h = begins n.Member of_member those_member t (pattern.Keyword word.Auto) (One n.MethodName ∷ []) (inr (inr (inr (inr (inr (inr (inl refl))))))) h

pub member-const : (t : Terminal) → admits (pattern.Keyword word.Const) t ≡ true → Begins n.Member t (One n.Base ∷ Maybe n.TypeRest ∷ One n.FieldName ∷ [])
member-const t h = begins n.Member of_member those_member t (pattern.Keyword word.Const) (One n.Base ∷ Maybe n.TypeRest ∷ One n.FieldName ∷ []) (inr (inr (inr (inr (inr (inr (inr (inl refl)))))))) h

pub member-built_in_type : (t : Terminal) → admits pattern.BuiltinType t ≡ true → Begins n.Member t (Maybe n.TypeRest ∷ One n.FieldName ∷ [])
member-built_in_type t h = begins n.Member of_member those_member t pattern.BuiltinType (Maybe n.TypeRest ∷ One n.FieldName ∷ []) (inr (inr (inr (inr (inr (inr (inr (inr (inl refl))))))))) h

pub member-std : (t : Terminal) → admits (pattern.Spelled known.Std) t ≡ true → Begins n.Member t (Token (pattern.Punctuator mark.Scope) ∷ One n.LibraryType ∷ Maybe n.TypeRest ∷ One n.FieldName ∷ [])
member-std t h = begins n.Member of_member those_member t (pattern.Spelled known.Std) (Token (pattern.Punctuator mark.Scope) ∷ One n.LibraryType ∷ Maybe n.TypeRest ∷ One n.FieldName ∷ []) (inr (inr (inr (inr (inr (inr (inr (inr (inr (inl refl)))))))))) h

pub member-class_name : (t : Terminal) → admits pattern.ClassName t ≡ true → Begins n.Member t (One n.MemberOfClass ∷ [])
member-class_name t h = begins n.Member of_member those_member t pattern.ClassName (One n.MemberOfClass ∷ []) (inr (inr (inr (inr (inr (inr (inr (inr (inr (inr (inl refl))))))))))) h

pub member-other_name : (t : Terminal) → admits pattern.OtherName t ≡ true → Begins n.Member t (One n.MemberOfOther ∷ [])
member-other_name t h = begins n.Member of_member those_member t pattern.OtherName (One n.MemberOfOther ∷ []) (inr (inr (inr (inr (inr (inr (inr (inr (inr (inr (inr (inl refl)))))))))))) h

-- ---- MemberOfClass

abbrev pub of_member_of_class : List Rule
of_member_of_class =
    rule n.MemberOfClass (pattern.Punctuator mark.OpenParen) (Maybe n.Parameters ∷ Token (pattern.Punctuator mark.CloseParen) ∷ Close ∷ Maybe n.Noexcept ∷ One n.ConstructorBody ∷ []) ∷
    rule n.MemberOfClass (pattern.Punctuator mark.Scope) (One n.ClassPath ∷ Maybe n.TypeRest ∷ One n.FieldName ∷ []) ∷
    rule n.MemberOfClass (pattern.Keyword word.Const) (Maybe n.Pointers ∷ One n.FieldName ∷ []) ∷
    rule n.MemberOfClass (pattern.Punctuator mark.Star) (Maybe n.Pointers ∷ Close ∷ One n.FieldName ∷ []) ∷
    rule n.MemberOfClass pattern.ReferenceMark (One n.FieldName ∷ []) ∷
    rule n.MemberOfClass pattern.Name (One n.FieldRest ∷ []) ∷
    rule n.MemberOfClass (pattern.Keyword word.Operator) (Token pattern.OperatorName ∷ One n.MethodRest ∷ []) ∷ []

pub those_member_of_class : those n.MemberOfClass rules ≡ of_member_of_class
unfolding in_file in_class in_type in_statement in_head in_local in_value in_argument in_unary in_operand from_file from_class from_type from_statement from_head from_local from_value from_argument from_unary
those_member_of_class = refl

pub member_of_class-paren : (t : Terminal) → admits (pattern.Punctuator mark.OpenParen) t ≡ true → Begins n.MemberOfClass t (Maybe n.Parameters ∷ Token (pattern.Punctuator mark.CloseParen) ∷ Close ∷ Maybe n.Noexcept ∷ One n.ConstructorBody ∷ [])
member_of_class-paren t h = begins n.MemberOfClass of_member_of_class those_member_of_class t (pattern.Punctuator mark.OpenParen) (Maybe n.Parameters ∷ Token (pattern.Punctuator mark.CloseParen) ∷ Close ∷ Maybe n.Noexcept ∷ One n.ConstructorBody ∷ []) (inl refl) h

pub member_of_class-scope : (t : Terminal) → admits (pattern.Punctuator mark.Scope) t ≡ true → Begins n.MemberOfClass t (One n.ClassPath ∷ Maybe n.TypeRest ∷ One n.FieldName ∷ [])
member_of_class-scope t h = begins n.MemberOfClass of_member_of_class those_member_of_class t (pattern.Punctuator mark.Scope) (One n.ClassPath ∷ Maybe n.TypeRest ∷ One n.FieldName ∷ []) (inr (inl refl)) h

pub member_of_class-const : (t : Terminal) → admits (pattern.Keyword word.Const) t ≡ true → Begins n.MemberOfClass t (Maybe n.Pointers ∷ One n.FieldName ∷ [])
member_of_class-const t h = begins n.MemberOfClass of_member_of_class those_member_of_class t (pattern.Keyword word.Const) (Maybe n.Pointers ∷ One n.FieldName ∷ []) (inr (inr (inl refl))) h

pub member_of_class-star : (t : Terminal) → admits (pattern.Punctuator mark.Star) t ≡ true → Begins n.MemberOfClass t (Maybe n.Pointers ∷ Close ∷ One n.FieldName ∷ [])
member_of_class-star t h = begins n.MemberOfClass of_member_of_class those_member_of_class t (pattern.Punctuator mark.Star) (Maybe n.Pointers ∷ Close ∷ One n.FieldName ∷ []) (inr (inr (inr (inl refl)))) h

pub member_of_class-reference : (t : Terminal) → admits pattern.ReferenceMark t ≡ true → Begins n.MemberOfClass t (One n.FieldName ∷ [])
member_of_class-reference t h = begins n.MemberOfClass of_member_of_class those_member_of_class t pattern.ReferenceMark (One n.FieldName ∷ []) (inr (inr (inr (inr (inl refl))))) h

-- ---- MemberOfOther

abbrev pub of_member_of_other : List Rule
of_member_of_other =
    rule n.MemberOfOther (pattern.Punctuator mark.OpenParen) (Maybe n.Parameters ∷ Token (pattern.Punctuator mark.CloseParen) ∷ Close ∷ Maybe n.Noexcept ∷ One n.ConstructorBody ∷ []) ∷
    rule n.MemberOfOther (pattern.Punctuator mark.Scope) (One n.ClassPath ∷ Maybe n.TypeRest ∷ One n.FieldName ∷ []) ∷ []

pub those_member_of_other : those n.MemberOfOther rules ≡ of_member_of_other
unfolding in_file in_class in_type in_statement in_head in_local in_value in_argument in_unary in_operand from_file from_class from_type from_statement from_head from_local from_value from_argument from_unary
those_member_of_other = refl

pub member_of_other-paren : (t : Terminal) → admits (pattern.Punctuator mark.OpenParen) t ≡ true → Begins n.MemberOfOther t (Maybe n.Parameters ∷ Token (pattern.Punctuator mark.CloseParen) ∷ Close ∷ Maybe n.Noexcept ∷ One n.ConstructorBody ∷ [])
member_of_other-paren t h = begins n.MemberOfOther of_member_of_other those_member_of_other t (pattern.Punctuator mark.OpenParen) (Maybe n.Parameters ∷ Token (pattern.Punctuator mark.CloseParen) ∷ Close ∷ Maybe n.Noexcept ∷ One n.ConstructorBody ∷ []) (inl refl) h

pub member_of_other-scope : (t : Terminal) → admits (pattern.Punctuator mark.Scope) t ≡ true → Begins n.MemberOfOther t (One n.ClassPath ∷ Maybe n.TypeRest ∷ One n.FieldName ∷ [])
member_of_other-scope t h = begins n.MemberOfOther of_member_of_other those_member_of_other t (pattern.Punctuator mark.Scope) (One n.ClassPath ∷ Maybe n.TypeRest ∷ One n.FieldName ∷ []) (inr (inl refl)) h

-- ---- MethodName

abbrev pub of_method_name : List Rule
of_method_name =
    rule n.MethodName pattern.Name (One n.MethodRest ∷ []) ∷
    rule n.MethodName (pattern.Keyword word.Operator) (Token pattern.OperatorName ∷ One n.MethodRest ∷ []) ∷ []

pub those_method_name : those n.MethodName rules ≡ of_method_name
unfolding in_file in_class in_type in_statement in_head in_local in_value in_argument in_unary in_operand from_file from_class from_type from_statement from_head from_local from_value from_argument from_unary
those_method_name = refl

pub method_name-name : (t : Terminal) → admits pattern.Name t ≡ true → Begins n.MethodName t (One n.MethodRest ∷ [])
method_name-name t h = begins n.MethodName of_method_name those_method_name t pattern.Name (One n.MethodRest ∷ []) (inl refl) h

pub method_name-operator : (t : Terminal) → admits (pattern.Keyword word.Operator) t ≡ true → Begins n.MethodName t (Token pattern.OperatorName ∷ One n.MethodRest ∷ [])
method_name-operator t h = begins n.MethodName of_method_name those_method_name t (pattern.Keyword word.Operator) (Token pattern.OperatorName ∷ One n.MethodRest ∷ []) (inr (inl refl)) h

-- ---- FieldName

abbrev pub of_field_name : List Rule
of_field_name =
    rule n.FieldName pattern.Name (One n.FieldRest ∷ []) ∷
    rule n.FieldName (pattern.Keyword word.Operator) (Token pattern.OperatorName ∷ One n.MethodRest ∷ []) ∷ []

pub those_field_name : those n.FieldName rules ≡ of_field_name
unfolding in_file in_class in_type in_statement in_head in_local in_value in_argument in_unary in_operand from_file from_class from_type from_statement from_head from_local from_value from_argument from_unary
those_field_name = refl

pub field_name-name : (t : Terminal) → admits pattern.Name t ≡ true → Begins n.FieldName t (One n.FieldRest ∷ [])
field_name-name t h = begins n.FieldName of_field_name those_field_name t pattern.Name (One n.FieldRest ∷ []) (inl refl) h

pub field_name-operator : (t : Terminal) → admits (pattern.Keyword word.Operator) t ≡ true → Begins n.FieldName t (Token pattern.OperatorName ∷ One n.MethodRest ∷ [])
field_name-operator t h = begins n.FieldName of_field_name those_field_name t (pattern.Keyword word.Operator) (Token pattern.OperatorName ∷ One n.MethodRest ∷ []) (inr (inl refl)) h

-- ---- MethodRest

abbrev pub of_method_rest : List Rule
of_method_rest =
    rule n.MethodRest (pattern.Punctuator mark.OpenParen) (Maybe n.Parameters ∷ Token (pattern.Punctuator mark.CloseParen) ∷ Close ∷ Maybe n.Const ∷ Maybe n.Noexcept ∷ One n.Block ∷ []) ∷ []

pub those_method_rest : those n.MethodRest rules ≡ of_method_rest
unfolding in_file in_class in_type in_statement in_head in_local in_value in_argument in_unary in_operand from_file from_class from_type from_statement from_head from_local from_value from_argument from_unary
those_method_rest = refl

pub method_rest-paren : (t : Terminal) → admits (pattern.Punctuator mark.OpenParen) t ≡ true → Begins n.MethodRest t (Maybe n.Parameters ∷ Token (pattern.Punctuator mark.CloseParen) ∷ Close ∷ Maybe n.Const ∷ Maybe n.Noexcept ∷ One n.Block ∷ [])
method_rest-paren t h = begins n.MethodRest of_method_rest those_method_rest t (pattern.Punctuator mark.OpenParen) (Maybe n.Parameters ∷ Token (pattern.Punctuator mark.CloseParen) ∷ Close ∷ Maybe n.Const ∷ Maybe n.Noexcept ∷ One n.Block ∷ []) (inl refl) h

-- ---- FieldRest

abbrev pub of_field_rest : List Rule
of_field_rest =
    rule n.FieldRest (pattern.Punctuator mark.Assign) (One n.Expression ∷ Token (pattern.Punctuator mark.Semicolon) ∷ []) ∷
    rule n.FieldRest (pattern.Punctuator mark.OpenBrace) (Maybe n.Arguments ∷ Token (pattern.Punctuator mark.CloseBrace) ∷ Close ∷ Token (pattern.Punctuator mark.Semicolon) ∷ []) ∷
    rule n.FieldRest (pattern.Punctuator mark.Semicolon) ([]) ∷
    rule n.FieldRest (pattern.Punctuator mark.OpenParen) (Maybe n.Parameters ∷ Token (pattern.Punctuator mark.CloseParen) ∷ Close ∷ Maybe n.Const ∷ Maybe n.Noexcept ∷ One n.Block ∷ []) ∷ []

pub those_field_rest : those n.FieldRest rules ≡ of_field_rest
unfolding in_file in_class in_type in_statement in_head in_local in_value in_argument in_unary in_operand from_file from_class from_type from_statement from_head from_local from_value from_argument from_unary
those_field_rest = refl

pub field_rest-assign : (t : Terminal) → admits (pattern.Punctuator mark.Assign) t ≡ true → Begins n.FieldRest t (One n.Expression ∷ Token (pattern.Punctuator mark.Semicolon) ∷ [])
field_rest-assign t h = begins n.FieldRest of_field_rest those_field_rest t (pattern.Punctuator mark.Assign) (One n.Expression ∷ Token (pattern.Punctuator mark.Semicolon) ∷ []) (inl refl) h

pub field_rest-brace : (t : Terminal) → admits (pattern.Punctuator mark.OpenBrace) t ≡ true → Begins n.FieldRest t (Maybe n.Arguments ∷ Token (pattern.Punctuator mark.CloseBrace) ∷ Close ∷ Token (pattern.Punctuator mark.Semicolon) ∷ [])
field_rest-brace t h = begins n.FieldRest of_field_rest those_field_rest t (pattern.Punctuator mark.OpenBrace) (Maybe n.Arguments ∷ Token (pattern.Punctuator mark.CloseBrace) ∷ Close ∷ Token (pattern.Punctuator mark.Semicolon) ∷ []) (inr (inl refl)) h

pub field_rest-semicolon : (t : Terminal) → admits (pattern.Punctuator mark.Semicolon) t ≡ true → Begins n.FieldRest t ([])
field_rest-semicolon t h = begins n.FieldRest of_field_rest those_field_rest t (pattern.Punctuator mark.Semicolon) ([]) (inr (inr (inl refl))) h

pub field_rest-paren : (t : Terminal) → admits (pattern.Punctuator mark.OpenParen) t ≡ true → Begins n.FieldRest t (Maybe n.Parameters ∷ Token (pattern.Punctuator mark.CloseParen) ∷ Close ∷ Maybe n.Const ∷ Maybe n.Noexcept ∷ One n.Block ∷ [])
field_rest-paren t h = begins n.FieldRest of_field_rest those_field_rest t (pattern.Punctuator mark.OpenParen) (Maybe n.Parameters ∷ Token (pattern.Punctuator mark.CloseParen) ∷ Close ∷ Maybe n.Const ∷ Maybe n.Noexcept ∷ One n.Block ∷ []) (inr (inr (inr (inl refl)))) h

-- ---- ConstructorRest

abbrev pub of_constructor_rest : List Rule
of_constructor_rest =
    rule n.ConstructorRest (pattern.Punctuator mark.OpenParen) (Maybe n.Parameters ∷ Token (pattern.Punctuator mark.CloseParen) ∷ Close ∷ Maybe n.Noexcept ∷ One n.ConstructorBody ∷ []) ∷ []

pub those_constructor_rest : those n.ConstructorRest rules ≡ of_constructor_rest
unfolding in_file in_class in_type in_statement in_head in_local in_value in_argument in_unary in_operand from_file from_class from_type from_statement from_head from_local from_value from_argument from_unary
those_constructor_rest = refl

pub constructor_rest-paren : (t : Terminal) → admits (pattern.Punctuator mark.OpenParen) t ≡ true → Begins n.ConstructorRest t (Maybe n.Parameters ∷ Token (pattern.Punctuator mark.CloseParen) ∷ Close ∷ Maybe n.Noexcept ∷ One n.ConstructorBody ∷ [])
constructor_rest-paren t h = begins n.ConstructorRest of_constructor_rest those_constructor_rest t (pattern.Punctuator mark.OpenParen) (Maybe n.Parameters ∷ Token (pattern.Punctuator mark.CloseParen) ∷ Close ∷ Maybe n.Noexcept ∷ One n.ConstructorBody ∷ []) (inl refl) h

-- ---- ConstructorBody

abbrev pub of_constructor_body : List Rule
of_constructor_body =
    rule n.ConstructorBody (pattern.Punctuator mark.Colon) (One n.Initializer ∷ Many n.NextInitializer ∷ One n.Block ∷ []) ∷
    rule n.ConstructorBody (pattern.Punctuator mark.OpenBrace) (Many n.Statement ∷ Token (pattern.Punctuator mark.CloseBrace) ∷ Close ∷ []) ∷
    rule n.ConstructorBody (pattern.Punctuator mark.Assign) (One n.Defaulted ∷ Token (pattern.Punctuator mark.Semicolon) ∷ []) ∷ []

pub those_constructor_body : those n.ConstructorBody rules ≡ of_constructor_body
unfolding in_file in_class in_type in_statement in_head in_local in_value in_argument in_unary in_operand from_file from_class from_type from_statement from_head from_local from_value from_argument from_unary
those_constructor_body = refl

pub constructor_body-colon : (t : Terminal) → admits (pattern.Punctuator mark.Colon) t ≡ true → Begins n.ConstructorBody t (One n.Initializer ∷ Many n.NextInitializer ∷ One n.Block ∷ [])
constructor_body-colon t h = begins n.ConstructorBody of_constructor_body those_constructor_body t (pattern.Punctuator mark.Colon) (One n.Initializer ∷ Many n.NextInitializer ∷ One n.Block ∷ []) (inl refl) h

pub constructor_body-brace : (t : Terminal) → admits (pattern.Punctuator mark.OpenBrace) t ≡ true → Begins n.ConstructorBody t (Many n.Statement ∷ Token (pattern.Punctuator mark.CloseBrace) ∷ Close ∷ [])
constructor_body-brace t h = begins n.ConstructorBody of_constructor_body those_constructor_body t (pattern.Punctuator mark.OpenBrace) (Many n.Statement ∷ Token (pattern.Punctuator mark.CloseBrace) ∷ Close ∷ []) (inr (inl refl)) h

pub constructor_body-assign : (t : Terminal) → admits (pattern.Punctuator mark.Assign) t ≡ true → Begins n.ConstructorBody t (One n.Defaulted ∷ Token (pattern.Punctuator mark.Semicolon) ∷ [])
constructor_body-assign t h = begins n.ConstructorBody of_constructor_body those_constructor_body t (pattern.Punctuator mark.Assign) (One n.Defaulted ∷ Token (pattern.Punctuator mark.Semicolon) ∷ []) (inr (inr (inl refl))) h

-- ---- Defaulted

abbrev pub of_defaulted : List Rule
of_defaulted =
    rule n.Defaulted (pattern.Keyword word.Default) ([]) ∷
    rule n.Defaulted (pattern.Keyword word.Delete) ([]) ∷ []

pub those_defaulted : those n.Defaulted rules ≡ of_defaulted
unfolding in_file in_class in_type in_statement in_head in_local in_value in_argument in_unary in_operand from_file from_class from_type from_statement from_head from_local from_value from_argument from_unary
those_defaulted = refl

pub defaulted-default : (t : Terminal) → admits (pattern.Keyword word.Default) t ≡ true → Begins n.Defaulted t ([])
defaulted-default t h = begins n.Defaulted of_defaulted those_defaulted t (pattern.Keyword word.Default) ([]) (inl refl) h

pub defaulted-delete : (t : Terminal) → admits (pattern.Keyword word.Delete) t ≡ true → Begins n.Defaulted t ([])
defaulted-delete t h = begins n.Defaulted of_defaulted those_defaulted t (pattern.Keyword word.Delete) ([]) (inr (inl refl)) h

-- ---- Initializer

abbrev pub of_initializer : List Rule
of_initializer =
    rule n.Initializer pattern.Name (One n.Built ∷ []) ∷ []

pub those_initializer : those n.Initializer rules ≡ of_initializer
unfolding in_file in_class in_type in_statement in_head in_local in_value in_argument in_unary in_operand from_file from_class from_type from_statement from_head from_local from_value from_argument from_unary
those_initializer = refl

pub initializer-name : (t : Terminal) → admits pattern.Name t ≡ true → Begins n.Initializer t (One n.Built ∷ [])
initializer-name t h = begins n.Initializer of_initializer those_initializer t pattern.Name (One n.Built ∷ []) (inl refl) h

-- ---- NextInitializer

abbrev pub of_next_initializer : List Rule
of_next_initializer =
    rule n.NextInitializer (pattern.Punctuator mark.Comma) (One n.Initializer ∷ []) ∷ []

pub those_next_initializer : those n.NextInitializer rules ≡ of_next_initializer
unfolding in_file in_class in_type in_statement in_head in_local in_value in_argument in_unary in_operand from_file from_class from_type from_statement from_head from_local from_value from_argument from_unary
those_next_initializer = refl

pub next_initializer-comma : (t : Terminal) → admits (pattern.Punctuator mark.Comma) t ≡ true → Begins n.NextInitializer t (One n.Initializer ∷ [])
next_initializer-comma t h = begins n.NextInitializer of_next_initializer those_next_initializer t (pattern.Punctuator mark.Comma) (One n.Initializer ∷ []) (inl refl) h

-- ---- NoParameters

abbrev pub of_no_parameters : List Rule
of_no_parameters =
    rule n.NoParameters (pattern.Punctuator mark.OpenParen) (Token (pattern.Punctuator mark.CloseParen) ∷ Close ∷ []) ∷ []

pub those_no_parameters : those n.NoParameters rules ≡ of_no_parameters
unfolding in_file in_class in_type in_statement in_head in_local in_value in_argument in_unary in_operand from_file from_class from_type from_statement from_head from_local from_value from_argument from_unary
those_no_parameters = refl

pub no_parameters-paren : (t : Terminal) → admits (pattern.Punctuator mark.OpenParen) t ≡ true → Begins n.NoParameters t (Token (pattern.Punctuator mark.CloseParen) ∷ Close ∷ [])
no_parameters-paren t h = begins n.NoParameters of_no_parameters those_no_parameters t (pattern.Punctuator mark.OpenParen) (Token (pattern.Punctuator mark.CloseParen) ∷ Close ∷ []) (inl refl) h

-- ---- DestructorBody

abbrev pub of_destructor_body : List Rule
of_destructor_body =
    rule n.DestructorBody (pattern.Punctuator mark.OpenBrace) (Many n.Statement ∷ Token (pattern.Punctuator mark.CloseBrace) ∷ Close ∷ []) ∷
    rule n.DestructorBody (pattern.Punctuator mark.Assign) (Token (pattern.Keyword word.Default) ∷ Token (pattern.Punctuator mark.Semicolon) ∷ []) ∷ []

pub those_destructor_body : those n.DestructorBody rules ≡ of_destructor_body
unfolding in_file in_class in_type in_statement in_head in_local in_value in_argument in_unary in_operand from_file from_class from_type from_statement from_head from_local from_value from_argument from_unary
those_destructor_body = refl

pub destructor_body-brace : (t : Terminal) → admits (pattern.Punctuator mark.OpenBrace) t ≡ true → Begins n.DestructorBody t (Many n.Statement ∷ Token (pattern.Punctuator mark.CloseBrace) ∷ Close ∷ [])
destructor_body-brace t h = begins n.DestructorBody of_destructor_body those_destructor_body t (pattern.Punctuator mark.OpenBrace) (Many n.Statement ∷ Token (pattern.Punctuator mark.CloseBrace) ∷ Close ∷ []) (inl refl) h

pub destructor_body-assign : (t : Terminal) → admits (pattern.Punctuator mark.Assign) t ≡ true → Begins n.DestructorBody t (Token (pattern.Keyword word.Default) ∷ Token (pattern.Punctuator mark.Semicolon) ∷ [])
destructor_body-assign t h = begins n.DestructorBody of_destructor_body those_destructor_body t (pattern.Punctuator mark.Assign) (Token (pattern.Keyword word.Default) ∷ Token (pattern.Punctuator mark.Semicolon) ∷ []) (inr (inl refl)) h
