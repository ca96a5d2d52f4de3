-- Declarations: what is read off the front of the tokens, by the next token, as the grammar's rules say [dcl.dcl] [class.mem].
use Rattle.std.specs.Prelude.{◌≡◌, ℕ, zero, suc, Bool, true, false, not, ◌&&◌, if◌then◌else◌, List, [], ◌∷◌, ◌++◌, length, Option, Some, None, codes}
use Rattle.co_base.specs.declared.span.Span.{Span}
use Rattle.co_lex.specs.declared.token.Token.{Token}
use Rattle.co_lex.specs.declared.token.Mark.TheVariants as mark
use Rattle.co_lex.specs.declared.token.Word.TheVariants as word
use Rattle.co_tree.specs.declared.expressions.Expression.{Expression}
use Rattle.co_tree.specs.declared.expressions.Brackets.{Brackets}
use Rattle.co_tree.specs.declared.types.SimpleTypeKind.{SimpleTypeKind}
use Rattle.co_tree.specs.declared.types.SimpleTypeKind.TheVariants as simple
use Rattle.co_tree.specs.declared.types.Reference.TheVariants as reference_of
use Rattle.co_tree.specs.declared.types.TypeId.{TypeId}
use Rattle.co_tree.specs.declared.statements.Initializer.{Initializer}
use Rattle.co_tree.specs.declared.statements.Initializer.TheVariants as init
use Rattle.co_tree.specs.declared.statements.Variable.{Variable}
use Rattle.co_tree.specs.declared.statements.Block.{Block}
use Rattle.co_tree.specs.declared.declarations.Parameter.{Parameter}
use Rattle.co_tree.specs.declared.declarations.ClassKey.{ClassKey}
use Rattle.co_tree.specs.declared.declarations.ClassKey.TheVariants as key
use Rattle.co_tree.specs.declared.declarations.ForwardDeclaration.{ForwardDeclaration}
use Rattle.co_tree.specs.declared.declarations.AliasDeclaration.{AliasDeclaration}
use Rattle.co_tree.specs.declared.declarations.FunctionSpecifier.{FunctionSpecifier}
use Rattle.co_tree.specs.declared.declarations.FunctionSpecifier.TheVariants as specifier_of
use Rattle.co_tree.specs.declared.declarations.FunctionName.{FunctionName}
use Rattle.co_tree.specs.declared.declarations.FunctionName.TheVariants as function_name
use Rattle.co_tree.specs.declared.declarations.Function.{Function}
use Rattle.co_tree.specs.declared.declarations.MemberInitializer.{MemberInitializer}
use Rattle.co_tree.specs.declared.declarations.ConstructorBody.{ConstructorBody}
use Rattle.co_tree.specs.declared.declarations.ConstructorBody.TheVariants as constructor_body
use Rattle.co_tree.specs.declared.declarations.Constructor.{Constructor}
use Rattle.co_tree.specs.declared.declarations.DestructorBody.{DestructorBody}
use Rattle.co_tree.specs.declared.declarations.DestructorBody.TheVariants as destructor_body
use Rattle.co_tree.specs.declared.declarations.Destructor.{Destructor}
use Rattle.co_tree.specs.declared.declarations.AccessSpecifier.{AccessSpecifier}
use Rattle.co_tree.specs.declared.declarations.AccessSpecifier.TheVariants as access
use Rattle.co_tree.specs.declared.declarations.ClassDefinition.{ClassDefinition}
use Rattle.co_tree.specs.declared.declarations.MemberDeclaration.{MemberDeclaration}
use Rattle.co_tree.specs.declared.declarations.MemberDeclaration.TheVariants as member_of
use Rattle.co_tree.specs.declared.declarations.Declaration.{Declaration}
use Rattle.co_tree.specs.declared.declarations.Declaration.TheVariants as declaration_of
use Rattle.co_reader.specs.declared.lead.Lead.{Lead}
use Rattle.co_reader.specs.declared.lead.Lead.TheVariants as l
use Rattle.co_reader.specs.Reading.{Reader, ◌>>=◌, ◌>>◌, ◌<$>◌, pure, refuse, lead, lead_after, place, here, pass, sees, eat, expect, eat_word, expect_word, name}
use Rattle.co_reader.specs.Leads.{opening, closing}
use Rattle.co_reader.specs.Types.{type_id}
use Rattle.co_expressions.specs.Expressions.{expression, peek, arguments}
use Rattle.co_statements.specs.Statements.{auto_type, parameter, block_within}

abbrev pub class_key : Lead → Option ClassKey
class_key (l.Word word.Struct) = Some key.Struct
class_key (l.Word word.Class) = Some key.Class
class_key _ = None

abbrev pub specifier : Lead → Option FunctionSpecifier
specifier (l.Word word.Static) = Some specifier_of.Static
specifier (l.Word word.Inline) = Some specifier_of.Inline
specifier _ = None

abbrev pub access_specifier : Lead → Option AccessSpecifier
access_specifier (l.Word word.Public) = Some access.Public
access_specifier (l.Word word.Private) = Some access.Private
access_specifier (l.Word word.Protected) = Some access.Protected
access_specifier _ = None

abbrev pub is_end : Lead → Bool
is_end l.End = true
is_end _ = false

abbrev pub is_opening : Lead → Bool
is_opening (l.Mark mark.OpenParen) = true
is_opening _ = false

abbrev pub is_auto : SimpleTypeKind → Bool
is_auto simple.Auto = true
is_auto _ = false

abbrev pub has_none : {A : Type 0} → List A → Bool
has_none [] = true
has_none (x ∷ xs) = false

-- `operator new` and `operator delete` are functions of classes alone
abbrev pub is_of_file : FunctionName → Bool
is_of_file (function_name.Name n) = true
is_of_file function_name.OperatorCoAwait = true
is_of_file function_name.OperatorNew = false
is_of_file function_name.OperatorDelete = false

abbrev pub if_some : {A B : Type 0} → Option A → (A → Reader B) → Reader B → Reader B
if_some (Some a) f other = f a
if_some None f other = other

-- { "static" | "inline" }
unfoldable pub specifiers_from : ℕ → List FunctionSpecifier → Reader (List FunctionSpecifier)
specifiers_from zero found = refuse
specifiers_from (suc n) found = peek >>= (λ k. if_some (specifier k) (λ s. pass >> specifiers_from n (found ++ s ∷ [])) (pure found))

unfoldable pub specifiers : Reader (List FunctionSpecifier)
specifiers = λ ts. specifiers_from (length ts) [] ts

abbrev pub operator_by : Lead → Reader FunctionName
operator_by (l.Word word.CoAwait) = pass >> pure function_name.OperatorCoAwait
operator_by (l.Word word.New) = pass >> pure function_name.OperatorNew
operator_by (l.Word word.Delete) = pass >> pure function_name.OperatorDelete
operator_by _ = refuse

-- after "operator"
unfoldable pub operator_name : Reader FunctionName
operator_name = peek >>= operator_by

-- NAME | "operator" ( "co_await" | "new" | "delete" )
unfoldable pub declared_name : Reader FunctionName
declared_name = do
  is_operator ← eat_word word.Operator
  if is_operator then operator_name else function_name.Name <$> name

module _ (is_class : List ℕ → Bool) where
  -- "auto" | type
  unfoldable pub result_type : Reader TypeId
  result_type = do
    at ← here
    is_auto ← eat_word word.Auto
    if is_auto then pure (auto_type at reference_of.None) else type_id is_class

  -- { "," param } after those found
  unfoldable pub parameters_from : ℕ → List Parameter → Reader (List Parameter)
  parameters_from zero found = refuse
  parameters_from (suc n) found = do
    goes_on ← eat mark.Comma
    if goes_on then (do p ← parameter is_class; parameters_from n (found ++ p ∷ [])) else pure found

  unfoldable pub more_parameters : Parameter → Reader (List Parameter)
  more_parameters first = λ ts. parameters_from (length ts) (first ∷ []) ts

  unfoldable pub some_parameters : Reader (List Parameter)
  some_parameters = do
    first ← parameter is_class
    found ← more_parameters first
    expect mark.CloseParen
    pure found

  -- "(" [ params ] ")"
  unfoldable pub parameters : Reader (List Parameter)
  parameters = do
    expect mark.OpenParen
    is_empty ← eat mark.CloseParen
    if is_empty then pure [] else some_parameters

  -- alias = "using" NAME "=" type ";", after "using"
  unfoldable pub alias : Span → Reader AliasDeclaration
  alias at = do
    called ← name
    expect mark.Assign
    of ← type_id is_class
    expect mark.Semicolon
    pure (record { name = called; of = of; span = at })

module _ (expression : ℕ → Reader Expression) where
  abbrev pub field_initializer_by : Lead → Reader Initializer
  field_initializer_by (l.Mark mark.Assign) = pass >> init.Equals <$> expression 0
  field_initializer_by (l.Mark mark.OpenBrace) = pass >> init.Braces <$> arguments expression mark.CloseBrace
  field_initializer_by _ = pure init.None

  -- [ "=" expr | braces ]
  unfoldable pub field_initializer : Reader Initializer
  field_initializer = peek >>= field_initializer_by

  -- the rest of a global or a data member, after its name
  unfoldable pub initialized_variable : Span → TypeId → List ℕ → Reader Variable
  initialized_variable at of called = do
    initializer ← field_initializer
    expect mark.Semicolon
    pure (record { of = of; name = called; initializer = initializer; span = at })

  abbrev pub variable_by : Span → TypeId → Bool → FunctionName → Reader Variable
  variable_by at of true (function_name.Name called) = initialized_variable at of called
  variable_by at of _ _ = refuse

  -- after the name: with no specifier, and no `auto`
  unfoldable pub variable : Span → List FunctionSpecifier → TypeId → FunctionName → Reader Variable
  variable at found of called = variable_by at of (has_none found && not (is_auto of.base.kind)) called

  abbrev pub member_initializer_by : Span → List ℕ → Option Brackets → Reader MemberInitializer
  member_initializer_by at called (Some how) = do
    pass
    found ← arguments expression (closing how)
    pure (record { name = called; brackets = how; arguments = found; span = at })
  member_initializer_by at called None = refuse

  -- init = NAME ( "(" [ args ] ")" | braces )
  unfoldable pub member_initializer : Reader MemberInitializer
  member_initializer = do
    at ← here
    called ← name
    k ← peek
    member_initializer_by at called (opening k)

  -- { "," init } after those found
  unfoldable pub member_initializers_from : ℕ → List MemberInitializer → Reader (List MemberInitializer)
  member_initializers_from zero found = refuse
  member_initializers_from (suc n) found = do
    goes_on ← eat mark.Comma
    if goes_on then (do i ← member_initializer; member_initializers_from n (found ++ i ∷ [])) else pure found

  unfoldable pub more_member_initializers : MemberInitializer → Reader (List MemberInitializer)
  more_member_initializers first = λ ts. member_initializers_from (length ts) (first ∷ []) ts

  -- after ":"
  unfoldable pub member_initializers : Reader (List MemberInitializer)
  member_initializers = member_initializer >>= more_member_initializers

abbrev pub defaulted_by : Lead → Reader ConstructorBody
defaulted_by (l.Word word.Default) = pass >> (expect mark.Semicolon >> pure constructor_body.Default)
defaulted_by (l.Word word.Delete) = pass >> (expect mark.Semicolon >> pure constructor_body.Delete)
defaulted_by _ = refuse

-- after "=", of a constructor
unfoldable pub defaulted : Reader ConstructorBody
defaulted = peek >>= defaulted_by

-- after "=", of a destructor
unfoldable pub destructor_default : Reader DestructorBody
destructor_default = do
  expect_word word.Default
  expect mark.Semicolon
  pure destructor_body.Default

-- with expressions and statements nested no deeper than the number
module _ (is_class : List ℕ → Bool) (depth : ℕ) where
  -- block | ";"
  unfoldable pub block_or_semicolon : Reader (Option Block)
  block_or_semicolon = do
    is_absent ← eat mark.Semicolon
    if is_absent then pure None else Some <$> block_within is_class depth

  -- the rest of a function of the file, after its name
  unfoldable pub function_rest : Span → List FunctionSpecifier → TypeId → FunctionName → Reader Function
  function_rest at found of called = do
    given ← parameters is_class
    is_noexcept ← eat_word word.Noexcept
    body ← block_or_semicolon
    pure (record { specifiers = found; result = of; name = called; parameters = given; is_const = false; is_noexcept = is_noexcept; body = body; span = at })

  unfoldable pub function : Span → List FunctionSpecifier → TypeId → FunctionName → Reader Function
  function at found of called = if is_of_file called then function_rest at found of called else refuse

  -- the rest of a method, after its name
  unfoldable pub method : Span → List FunctionSpecifier → TypeId → FunctionName → Reader Function
  method at found of called = do
    given ← parameters is_class
    is_const ← eat_word word.Const
    is_noexcept ← eat_word word.Noexcept
    body ← block_within is_class depth
    pure (record { specifiers = found; result = of; name = called; parameters = given; is_const = is_const; is_noexcept = is_noexcept; body = Some body; span = at })

  abbrev pub item_by : Span → List FunctionSpecifier → TypeId → FunctionName → Bool → Reader Declaration
  item_by at found of called true = declaration_of.Function <$> function at found of called
  item_by at found of called false = declaration_of.Global <$> variable (expression is_class depth) at found of called

  -- a global or a function
  unfoldable pub global_item : Reader Declaration
  global_item = do
    at ← here
    found ← specifiers
    of ← result_type is_class
    called ← declared_name
    (λ ts. item_by at found of called (sees mark.OpenParen ts) ts)

  abbrev pub member_item_by : Span → List FunctionSpecifier → TypeId → FunctionName → Bool → Reader MemberDeclaration
  member_item_by at found of called true = member_of.Method <$> method at found of called
  member_item_by at found of called false = member_of.Field <$> variable (expression is_class depth) at found of called

  -- a data member or a method
  unfoldable pub member_item : Reader MemberDeclaration
  member_item = do
    at ← here
    found ← specifiers
    of ← result_type is_class
    called ← declared_name
    (λ ts. member_item_by at found of called (sees mark.OpenParen ts) ts)

  -- after ":"
  unfoldable pub initializing : Reader ConstructorBody
  initializing = do
    found ← member_initializers (expression is_class depth)
    body ← block_within is_class depth
    pure (constructor_body.Block found body)

  abbrev pub constructor_by : Lead → Reader ConstructorBody
  constructor_by (l.Mark mark.Colon) = pass >> initializing
  constructor_by (l.Mark mark.Assign) = pass >> defaulted
  constructor_by _ = constructor_body.Block [] <$> block_within is_class depth

  unfoldable pub constructor_end : Reader ConstructorBody
  constructor_end = peek >>= constructor_by

  -- from the NAME on
  unfoldable pub constructor : Span → Bool → Reader Constructor
  constructor at is_explicit = do
    called ← name
    given ← parameters is_class
    is_noexcept ← eat_word word.Noexcept
    body ← constructor_end
    pure (record { is_explicit = is_explicit; name = called; parameters = given; is_noexcept = is_noexcept; body = body; span = at })

  -- block | "=" "default" ";"
  unfoldable pub destructor_end : Reader DestructorBody
  destructor_end = do
    is_default ← eat mark.Assign
    if is_default then destructor_default else destructor_body.Block <$> block_within is_class depth

  -- after "~"
  unfoldable pub destructor : Span → Reader Destructor
  destructor at = do
    called ← name
    expect mark.OpenParen
    expect mark.CloseParen
    is_noexcept ← eat_word word.Noexcept
    body ← destructor_end
    pure (record { name = called; is_noexcept = is_noexcept; body = body; span = at })

  abbrev pub plain_member_by : Span → Bool → Reader MemberDeclaration
  plain_member_by at true = member_of.Constructor <$> constructor at false
  plain_member_by at false = member_item

  -- a constructor where a name and a `(` come next, or a data member or a method
  unfoldable pub plain_member : Span → Reader MemberDeclaration
  plain_member at = λ ts. plain_member_by at (is_opening (lead_after ts)) ts

  abbrev pub simple_member_by : Span → Lead → Option AccessSpecifier → Reader MemberDeclaration
  simple_member_by at k (Some specifier) = pass >> (expect mark.Colon >> pure (member_of.Access specifier at))
  simple_member_by at (l.Word word.Using) None = pass >> member_of.Alias <$> alias is_class at
  simple_member_by at (l.Word word.Explicit) None = pass >> member_of.Constructor <$> constructor at true
  simple_member_by at (l.Mark mark.Tilde) None = pass >> member_of.Destructor <$> destructor at
  simple_member_by at l.Name None = plain_member at
  simple_member_by at _ None = member_item

  -- a member other than a class
  unfoldable pub simple_member : Span → Reader MemberDeclaration
  simple_member at = peek >>= (λ k. simple_member_by at k (access_specifier k))

-- `member` reads the members inside.
module _ (member : Reader MemberDeclaration) where
  unfoldable pub members_from : ℕ → List MemberDeclaration → Reader (List MemberDeclaration)
  members_from zero found = refuse
  members_from (suc n) found = do
    is_end ← eat mark.CloseBrace
    if is_end then pure found else (do d ← member; members_from n (found ++ d ∷ []))

  -- { member } "}"
  unfoldable pub members : Reader (List MemberDeclaration)
  members = λ ts. members_from (length ts) [] ts

  -- "{" { member } "}" ";"
  unfoldable pub class_body : Reader (List MemberDeclaration)
  class_body = do
    expect mark.OpenBrace
    found ← members
    expect mark.Semicolon
    pure found

  -- the rest of a class of a class, after its key
  unfoldable pub nested_class : Span → ClassKey → Reader MemberDeclaration
  nested_class at key = do
    called ← name
    is_forward ← eat mark.Semicolon
    if is_forward then pure (member_of.Forward (record { key = key; name = called; span = at })) else (λ found. member_of.Class key called found at) <$> class_body

  -- the rest of a class of the file, after its key
  unfoldable pub file_class : Span → ClassKey → Reader Declaration
  file_class at key = do
    called ← name
    is_forward ← eat mark.Semicolon
    if is_forward then pure (declaration_of.Forward (record { key = key; name = called; span = at }))
        else (λ found. declaration_of.Class (record { key = key; name = called; members = found; span = at })) <$> class_body

module _ (is_class : List ℕ → Bool) (depth : ℕ) (member : Reader MemberDeclaration) where
  abbrev pub member_by : Span → Option ClassKey → Reader MemberDeclaration
  member_by at (Some key) = pass >> nested_class member at key
  member_by at None = simple_member is_class depth at

  unfoldable pub member_level : Reader MemberDeclaration
  member_level = λ ts. member_by (place ts) (class_key (lead ts)) ts

-- with no more than this many nested in one another
unfoldable pub member : (List ℕ → Bool) → ℕ → Reader MemberDeclaration
member is_class zero = refuse
member is_class (suc depth) = member_level is_class depth (member is_class depth)

module _ (is_class : List ℕ → Bool) (depth : ℕ) where
  abbrev pub declaration_by : Span → Lead → Option ClassKey → Reader Declaration
  declaration_by at k (Some key) = pass >> file_class (member is_class depth) at key
  declaration_by at (l.Word word.Using) None = pass >> declaration_of.Alias <$> alias is_class at
  declaration_by at _ None = global_item is_class depth

  -- item = class | forward | alias | global | function
  unfoldable pub declaration : Reader Declaration
  declaration = λ ts. declaration_by (place ts) (lead ts) (class_key (lead ts)) ts

  unfoldable pub declarations_from : ℕ → List Declaration → Reader (List Declaration)
  declarations_from zero found = refuse
  declarations_from (suc n) found = do
    k ← peek
    if is_end k then pure found else (do d ← declaration; declarations_from n (found ++ d ∷ []))

  -- { item } before the end
  unfoldable pub declarations : Reader (List Declaration)
  declarations = λ ts. declarations_from (length ts) [] ts
