-- Statements: what is read off the front of the tokens, by the next token, as the grammar's rules say [stmt.stmt].
use Rattle.std.specs.Prelude.{◌≡◌, ℕ, zero, suc, Bool, true, false, ◌&&◌, if◌then◌else◌, List, [], ◌∷◌, ◌++◌, length, Option, Some, None, codes}
use Rattle.co_base.specs.declared.span.Span.{Span}
use Rattle.co_lex.specs.declared.token.Mark.{Mark}
use Rattle.co_lex.specs.declared.token.Mark.TheVariants as mark
use Rattle.co_lex.specs.declared.token.Word.TheVariants as word
use Rattle.co_tree.specs.declared.expressions.StandardFunction.{StandardFunction}
use Rattle.co_tree.specs.declared.expressions.Expression.{Expression}
use Rattle.co_tree.specs.declared.expressions.Expression.TheVariants as expr
use Rattle.co_tree.specs.declared.types.Path.{Path}
use Rattle.co_tree.specs.declared.types.SimpleType.{SimpleType}
use Rattle.co_tree.specs.declared.types.SimpleTypeKind.{SimpleTypeKind}
use Rattle.co_tree.specs.declared.types.SimpleTypeKind.TheVariants as simple
use Rattle.co_tree.specs.declared.types.Reference.{Reference}
use Rattle.co_tree.specs.declared.types.Reference.TheVariants as reference_of
use Rattle.co_tree.specs.declared.types.TypeId.{TypeId}
use Rattle.co_tree.specs.declared.declarations.Parameter.{Parameter}
use Rattle.co_tree.specs.declared.statements.Initializer.{Initializer}
use Rattle.co_tree.specs.declared.statements.Initializer.TheVariants as init
use Rattle.co_tree.specs.declared.statements.Variable.{Variable}
use Rattle.co_tree.specs.declared.statements.Caught.{Caught}
use Rattle.co_tree.specs.declared.statements.Caught.TheVariants as caught_as
use Rattle.co_tree.specs.declared.statements.ForInit.{ForInit}
use Rattle.co_tree.specs.declared.statements.ForInit.TheVariants as for_init
use Rattle.co_tree.specs.declared.statements.Returned.{Returned}
use Rattle.co_tree.specs.declared.statements.Returned.TheVariants as returned_as
use Rattle.co_tree.specs.declared.statements.Block.{Block}
use Rattle.co_tree.specs.declared.statements.Handler.{Handler}
use Rattle.co_tree.specs.declared.statements.Statement.{Statement}
use Rattle.co_tree.specs.declared.statements.Statement.TheVariants as stmt
use Rattle.co_reader.specs.declared.lead.Lead.{Lead}
use Rattle.co_reader.specs.declared.lead.Lead.TheVariants as l
use Rattle.co_reader.specs.Reading.{Reader, ◌>>=◌, ◌>>◌, ◌<$>◌, pure, refuse, lead, place, here, pass, sees, eat, expect, sees_word, eat_word, expect_word, any_name, name, spells}
use Rattle.co_reader.specs.Leads.{builtin, library_function, goes_on_as_type}
use Rattle.co_reader.specs.Types.{path, names_class, library_type, simple_type, type_rest, type_id}
use Rattle.co_expressions.specs.Expressions.{expression, peek, of_kind, more, arguments, parenthesized, based, after_primary}

abbrev pub auto_type : Span → Reference → TypeId
auto_type at reference = record { is_const = false; base = of_kind simple.Auto at; is_const_after = false; pointers = 0; reference = reference; span = at }

abbrev pub is_class_type : SimpleTypeKind → Bool
is_class_type (simple.Class p) = true
is_class_type _ = false

-- the init part of a `for` where it stands alone is a statement
abbrev pub statement_of : Span → ForInit → Statement
statement_of at for_init.None = stmt.Empty at
statement_of at (for_init.Local v) = stmt.Local v
statement_of at (for_init.Expression e) = stmt.Expression e at

-- expr ";", after the expression
unfoldable pub ended : Expression → Reader ForInit
ended e = expect mark.Semicolon >> pure (for_init.Expression e)

-- [ NAME ]
abbrev pub name_by : Lead → Reader (Option (List ℕ))
name_by l.Name = Some <$> name
name_by _ = pure None

unfoldable pub name_if : Reader (Option (List ℕ))
name_if = peek >>= name_by

-- param = type [ NAME ]
unfoldable pub parameter : (List ℕ → Bool) → Reader Parameter
parameter is_class = do
  at ← here
  of ← type_id is_class
  called ← name_if
  pure (record { of = of; name = called; span = at })

-- "..." | type [ NAME ]
unfoldable pub caught : (List ℕ → Bool) → Reader Caught
caught is_class = do
  is_all ← eat mark.Ellipsis
  if is_all then pure caught_as.All else caught_as.One <$> parameter is_class

module _ (expression : ℕ → Reader Expression) where
  -- [ expr ] and the mark behind it
  unfoldable pub optional : Mark → Reader (Option Expression)
  optional close = do
    is_absent ← eat close
    if is_absent then pure None else (do e ← expression 0; expect close; pure (Some e))

  abbrev pub returned_by : Lead → Reader Returned
  returned_by (l.Mark mark.Semicolon) = pass >> pure returned_as.None
  returned_by (l.Mark mark.OpenBrace) = do
    pass
    found ← arguments expression mark.CloseBrace
    expect mark.Semicolon
    pure (returned_as.Braces found)
  returned_by _ = do
    e ← expression 0
    expect mark.Semicolon
    pure (returned_as.Value e)

  -- after "return"
  unfoldable pub returned : Reader Returned
  returned = peek >>= returned_by

  -- after "="
  unfoldable pub equals : Reader Initializer
  equals = do
    is_braced ← eat mark.OpenBrace
    if is_braced then init.EqualsBraces <$> arguments expression mark.CloseBrace else init.Equals <$> expression 0

module _ (is_class : List ℕ → Bool) (expression : ℕ → Reader Expression) where
  abbrev pub library_first_by : Span → Option StandardFunction → Reader Expression
  library_first_by at (Some function) = after_primary expression at (expr.StandardFunction function at)
  library_first_by at None = refuse

  unfoldable pub library_first : Span → Reader Expression
  library_first at = do
    expect mark.Scope
    called ← any_name
    library_first_by at (library_function called)

  abbrev pub pathed_first_by : Span → Path → Reader Expression
  pathed_first_by at p = if names_class is_class p then refuse else after_primary expression at (expr.Name p)

  unfoldable pub pathed_first : Span → Reader Expression
  pathed_first at = path >>= pathed_first_by at

  abbrev pub named_first_by : Span → Bool → Bool → Reader Expression
  named_first_by at true is_run = pass >> library_first at
  named_first_by at false true = expression 0
  named_first_by at false false = pathed_first at

  unfoldable pub named_first : Span → Reader Expression
  named_first at = λ ts. named_first_by at (spells (codes "std") ts) (spells (codes "corun") ts) ts

  abbrev pub first_by : Span → Lead → Option SimpleTypeKind → Reader Expression
  first_by at l.Name kind = named_first at
  first_by at k (Some kind) = refuse
  first_by at k None = expression 0

  -- the first argument of a local, which does not begin with a type
  unfoldable pub first_argument : Reader Expression
  first_argument = λ ts. first_by (place ts) (lead ts) (builtin (lead ts)) ts

  -- after "(": args ")"
  unfoldable pub local_arguments : Reader (List Expression)
  local_arguments = do
    first ← first_argument
    found ← more expression first
    expect mark.CloseParen
    pure found

  abbrev pub local_initializer_by : Lead → Reader Initializer
  local_initializer_by (l.Mark mark.Assign) = pass >> equals expression
  local_initializer_by (l.Mark mark.OpenParen) = pass >> init.Parentheses <$> local_arguments
  local_initializer_by (l.Mark mark.OpenBrace) = pass >> init.Braces <$> arguments expression mark.CloseBrace
  local_initializer_by _ = pure init.None

  -- [ "=" ( expr | braces ) | "(" args ")" | braces ]
  unfoldable pub local_initializer : Reader Initializer
  local_initializer = peek >>= local_initializer_by

  -- the rest of a local, after its type
  unfoldable pub local : Span → TypeId → Reader ForInit
  local at of = do
    called ← name
    initializer ← local_initializer
    expect mark.Semicolon
    pure (for_init.Local (record { of = of; name = called; initializer = initializer; span = at }))

  -- after "const"
  unfoldable pub constant : Span → Reader ForInit
  constant at = do
    base ← simple_type is_class
    of ← type_rest at true base
    local at of

  -- after "auto"
  unfoldable pub automatic : Span → Reader ForInit
  automatic at = do
    is_lvalue ← eat mark.And
    local at (auto_type at (if is_lvalue then reference_of.Lvalue else reference_of.None))

  -- the rest of a statement that an operand begins
  unfoldable pub led_by_operand : Span → Expression → Reader ForInit
  led_by_operand at e = after_primary expression at e >>= ended

  unfoldable pub led_by_built : Span → SimpleType → Reader ForInit
  led_by_built at base = based expression at base >>= led_by_operand at

  abbrev pub led_by : Span → SimpleType → Bool → Bool → Reader ForInit
  led_by at base true is_call = type_rest at false base >>= local at
  -- a class and a `(` begin no statement
  led_by at base false true = refuse
  led_by at base false false = led_by_built at base

  -- the rest of a statement that the base of a type begins: a local, or an expression
  unfoldable pub led : Span → SimpleType → Reader ForInit
  led at base = λ ts. led_by at base (goes_on_as_type (lead ts)) (is_class_type base.kind && sees mark.OpenParen ts) ts

  abbrev pub led_by_library_by : Span → List ℕ → Option StandardFunction → Reader ForInit
  led_by_library_by at called (Some function) = led_by_operand at (expr.StandardFunction function at)
  led_by_library_by at called None = library_type is_class called >>= (λ kind. led at (of_kind kind at))

  -- after "std"
  unfoldable pub led_by_library : Span → Reader ForInit
  led_by_library at = do
    expect mark.Scope
    called ← any_name
    led_by_library_by at called (library_function called)

  abbrev pub led_by_path_by : Span → Path → Reader ForInit
  led_by_path_by at p = if names_class is_class p then led at (of_kind (simple.Class p) at) else led_by_operand at (expr.Name p)

  unfoldable pub led_by_path : Span → Reader ForInit
  led_by_path at = path >>= led_by_path_by at

  -- expr ";"
  unfoldable pub plain : Reader ForInit
  plain = expression 0 >>= ended

  abbrev pub led_by_name_by : Span → Bool → Bool → Reader ForInit
  led_by_name_by at true is_run = pass >> led_by_library at
  led_by_name_by at false true = plain
  led_by_name_by at false false = led_by_path at

  unfoldable pub led_by_name : Span → Reader ForInit
  led_by_name at = λ ts. led_by_name_by at (spells (codes "std") ts) (spells (codes "corun") ts) ts

  abbrev pub led_by_builtin : Span → Option SimpleTypeKind → Reader ForInit
  led_by_builtin at (Some kind) = pass >> led at (of_kind kind at)
  led_by_builtin at None = plain

  abbrev pub short_by : Span → Lead → Reader ForInit
  short_by at (l.Mark mark.Semicolon) = pass >> pure for_init.None
  short_by at (l.Word word.Const) = pass >> constant at
  short_by at (l.Word word.Auto) = pass >> automatic at
  short_by at l.Name = led_by_name at
  short_by at k = led_by_builtin at (builtin k)

  -- local | [ expr ] ";"
  unfoldable pub short : Reader ForInit
  short = λ ts. short_by (place ts) (lead ts) ts

-- `statement` reads the statements inside.
module _ (is_class : List ℕ → Bool) (expression : ℕ → Reader Expression) (statement : Reader Statement) where
  unfoldable pub statements_from : ℕ → List Statement → Reader (List Statement)
  statements_from zero found = refuse
  statements_from (suc n) found = do
    is_end ← eat mark.CloseBrace
    if is_end then pure found else (do s ← statement; statements_from n (found ++ s ∷ []))

  -- { stmt } "}"
  unfoldable pub statements : Reader (List Statement)
  statements = λ ts. statements_from (length ts) [] ts

  -- block = "{" { stmt } "}"
  unfoldable pub block : Reader Block
  block = do
    at ← here
    expect mark.OpenBrace
    found ← statements
    pure (record { statements = found; span = at })

  -- catch = "catch" "(" ( "..." | type [ NAME ] ) ")" block
  unfoldable pub handler : Reader Handler
  handler = do
    at ← here
    expect_word word.Catch
    expect mark.OpenParen
    what ← caught is_class
    expect mark.CloseParen
    body ← block
    pure (record { caught = what; body = body; span = at })

  unfoldable pub handlers_from : ℕ → List Handler → Reader (List Handler)
  handlers_from zero found = refuse
  handlers_from (suc n) found = do
    goes_on ← (λ ts. Some (sees_word word.Catch ts, ts))
    if goes_on then (do h ← handler; handlers_from n (found ++ h ∷ [])) else pure found

  -- { catch }, after the first
  unfoldable pub more_handlers : Handler → Reader (List Handler)
  more_handlers first = λ ts. handlers_from (length ts) (first ∷ []) ts

  -- after "try"
  unfoldable pub tried : Span → Reader Statement
  tried at = do
    body ← block
    first ← handler
    found ← more_handlers first
    pure (stmt.Try body found at)

  -- after the first branch of an `if`; an `else` belongs to the nearest one
  unfoldable pub branches : Span → Expression → Statement → Reader Statement
  branches at condition first = do
    has_else ← eat_word word.Else
    if has_else then (do second ← statement; pure (stmt.IfElse condition first second at)) else pure (stmt.If condition first at)

  -- after "if"
  unfoldable pub chosen : Span → Reader Statement
  chosen at = do
    condition ← parenthesized expression
    first ← statement
    branches at condition first

  -- after "while"
  unfoldable pub repeated : Span → Reader Statement
  repeated at = do
    condition ← parenthesized expression
    body ← statement
    pure (stmt.While condition body at)

  -- after "for"
  unfoldable pub counted : Span → Reader Statement
  counted at = do
    expect mark.OpenParen
    first ← short is_class expression
    condition ← optional expression mark.Semicolon
    step ← optional expression mark.CloseParen
    body ← statement
    pure (stmt.For first condition step body at)

  abbrev pub jump_by : Span → Lead → Reader Statement
  jump_by at (l.Word word.Break) = pass >> (expect mark.Semicolon >> pure (stmt.Break at))
  jump_by at (l.Word word.Continue) = pass >> (expect mark.Semicolon >> pure (stmt.Continue at))
  jump_by at (l.Word word.Return) = pass >> (λ value. stmt.Return value at) <$> returned expression
  jump_by at (l.Word word.CoReturn) = pass >> (λ value. stmt.CoReturn value at) <$> optional expression mark.Semicolon
  jump_by at _ = statement_of at <$> short is_class expression

  -- a jump, or what an expression or a type begins
  unfoldable pub jump : Span → Reader Statement
  jump at = peek >>= jump_by at

  abbrev pub statement_by : Span → Lead → Reader Statement
  statement_by at (l.Mark mark.OpenBrace) = stmt.Block <$> block
  statement_by at (l.Word word.Try) = pass >> tried at
  statement_by at (l.Word word.If) = pass >> chosen at
  statement_by at (l.Word word.While) = pass >> repeated at
  statement_by at (l.Word word.For) = pass >> counted at
  statement_by at _ = jump at

  unfoldable pub statement_level : Reader Statement
  statement_level = λ ts. statement_by (place ts) (lead ts) ts

-- with no more than this many nested in one another
unfoldable pub statement : (List ℕ → Bool) → ℕ → Reader Statement
statement is_class zero = refuse
statement is_class (suc depth) = statement_level is_class (expression is_class depth) (statement is_class depth)

unfoldable pub block_within : (List ℕ → Bool) → ℕ → Reader Block
block_within is_class depth = block is_class (expression is_class depth) (statement is_class depth)
