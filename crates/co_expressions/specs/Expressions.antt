-- Expressions: what is read off the front of the tokens, by the next token, as the grammar's rules say [expr].
use Rattle.std.specs.Prelude.{◌≡◌, ℕ, zero, suc, ◌+◌, Bool, true, false, if◌then◌else◌, nat_lt, ◌==◌, List, [], ◌∷◌, ◌++◌, length, Option, Some, None, codes}
use Rattle.std.specs.Str.{bytes_eq}
use Rattle.co_base.specs.declared.span.Span.{Span}
use Rattle.co_lex.specs.declared.token.Mark.{Mark}
use Rattle.co_lex.specs.declared.token.Mark.TheVariants as mark
use Rattle.co_lex.specs.declared.token.Word.TheVariants as word
use Rattle.co_tree.specs.declared.expressions.AssignmentOperator.{AssignmentOperator}
use Rattle.co_tree.specs.declared.expressions.BinaryOperator.{BinaryOperator}
use Rattle.co_tree.specs.declared.expressions.UnaryOperator.{UnaryOperator}
use Rattle.co_tree.specs.declared.expressions.StepOperator.{StepOperator}
use Rattle.co_tree.specs.declared.expressions.MemberOperator.{MemberOperator}
use Rattle.co_tree.specs.declared.expressions.Brackets.{Brackets}
use Rattle.co_tree.specs.declared.expressions.HandleFunction.{HandleFunction}
use Rattle.co_tree.specs.declared.expressions.StandardFunction.{StandardFunction}
use Rattle.co_tree.specs.declared.expressions.CorunFunction.{CorunFunction}
use Rattle.co_tree.specs.declared.expressions.Expression.{Expression}
use Rattle.co_tree.specs.declared.expressions.Expression.TheVariants as expr
use Rattle.co_tree.specs.declared.types.Path.{Path}
use Rattle.co_tree.specs.declared.types.SimpleType.{SimpleType}
use Rattle.co_tree.specs.declared.types.SimpleTypeKind.{SimpleTypeKind}
use Rattle.co_tree.specs.declared.types.SimpleTypeKind.TheVariants as simple
use Rattle.co_tree.specs.Formed.{strength}
use Rattle.co_reader.specs.declared.lead.Lead.{Lead}
use Rattle.co_reader.specs.declared.lead.Lead.TheVariants as l
use Rattle.co_reader.specs.Reading.{Reader, ◌>>=◌, ◌>>◌, ◌<$>◌, pure, refuse, given, lead, here, pass, sees, eat, expect, any_name, name, spells, text_literal}
use Rattle.co_reader.specs.Leads.{builtin, unary_operator, binary_operator, assignment_operator, step_operator, member_operator, opening, closing, literal, begins_expression, is_reference, library_function, handle_function, run_function}
use Rattle.co_reader.specs.Types.{path, names_class, library_type, simple_type, stars, type_id}

abbrev pub peek : Reader Lead
peek = λ ts. Some (lead ts, ts)

abbrev pub of_kind : SimpleTypeKind → Span → SimpleType
of_kind kind at = record { kind = kind; span = at }

-- how tightly the operator that comes next binds, and 0 where none does
abbrev pub binds_by : Option BinaryOperator → ℕ
binds_by None = 0
binds_by (Some op) = strength op

unfoldable pub binds : Lead → ℕ
binds k = binds_by (binary_operator k)

abbrev pub begins_suffix : Lead → Bool
begins_suffix (l.Mark mark.Dot) = true
begins_suffix (l.Mark mark.Arrow) = true
begins_suffix (l.Mark mark.OpenParen) = true
begins_suffix (l.Mark mark.Increment) = true
begins_suffix (l.Mark mark.Decrement) = true
begins_suffix _ = false

-- a static function stands after a handle's type alone
abbrev pub static_of : Span → SimpleTypeKind → Option HandleFunction → Option Expression
static_of at (simple.Handle promise) (Some function) = Some (expr.HandleFunction promise function at)
static_of at _ _ = None

-- after "corun" "::" "text"
unfoldable pub text : Span → Reader Expression
text at = do
  expect mark.OpenParen
  found ← text_literal
  expect mark.CloseParen
  pure (expr.Text found at)

abbrev pub run_by : Span → List ℕ → Option CorunFunction → Reader Expression
run_by at called (Some function) = pure (expr.CorunFunction function at)
run_by at called None = if bytes_eq called (codes "text") then text at else refuse

-- after "corun"
unfoldable pub of_corun : Span → Reader Expression
of_corun at = do
  expect mark.Scope
  called ← any_name
  run_by at called (run_function called)

-- The number is the least strength of an operator between operands, 0 for a whole expression and 11 for a unary one.
module _ (expression : ℕ → Reader Expression) where
  -- { "," expr }, after the first. The number bounds the turns, and each turn takes a token.
  unfoldable pub more_from : ℕ → List Expression → Reader (List Expression)
  more_from zero found = refuse
  more_from (suc n) found = do
    goes_on ← eat mark.Comma
    if goes_on then (do x ← expression 0; more_from n (found ++ x ∷ [])) else pure found

  unfoldable pub more : Expression → Reader (List Expression)
  more first = λ ts. more_from (length ts) (first ∷ []) ts

  -- expr { "," expr }
  unfoldable pub listed : Reader (List Expression)
  listed = expression 0 >>= more

  -- [ args ] and the mark that ends them
  unfoldable pub arguments : Mark → Reader (List Expression)
  arguments close = do
    is_empty ← eat close
    if is_empty then pure [] else (do found ← listed; expect close; pure found)

  -- "(" args ")"
  unfoldable pub given_arguments : Reader (List Expression)
  given_arguments = do
    expect mark.OpenParen
    found ← listed
    expect mark.CloseParen
    pure found

  -- "(" expr ")"
  unfoldable pub parenthesized : Reader Expression
  parenthesized = do
    expect mark.OpenParen
    e ← expression 0
    expect mark.CloseParen
    pure e

  abbrev pub construction_by : SimpleType → Option Brackets → Reader Expression
  construction_by base (Some how) = do
    pass
    found ← arguments (closing how)
    pure (expr.Construction base how found)
  construction_by base None = refuse

  -- after the base of a type
  unfoldable pub construction : SimpleType → Reader Expression
  construction base = peek >>= (λ k. construction_by base (opening k))

  -- after the base of a type, a static function too
  unfoldable pub based : Span → SimpleType → Reader Expression
  based at base = do
    is_static ← eat mark.Scope
    if is_static then (do called ← any_name; given (static_of at base.kind (handle_function called))) else construction base

  abbrev pub suffix_by : Span → Expression → Option MemberOperator → Option StepOperator → Reader Expression
  suffix_by at e (Some op) step = do
    pass
    called ← name
    pure (expr.Member e op called at)
  suffix_by at e None (Some op) = pass >> pure (expr.Step e op at)
  suffix_by at e None None = do
    expect mark.OpenParen
    found ← arguments mark.CloseParen
    pure (expr.Call e found at)

  unfoldable pub suffix : Span → Expression → Reader Expression
  suffix at e = peek >>= (λ k. suffix_by at e (member_operator k) (step_operator k))

  -- { ( "." | "->" ) NAME | "(" [ args ] ")" | "++" | "--" }
  unfoldable pub postfix_from : Span → ℕ → Expression → Reader Expression
  postfix_from at zero e = refuse
  postfix_from at (suc n) e = do
    k ← peek
    if begins_suffix k then (suffix at e >>= postfix_from at n) else pure e

  unfoldable pub postfix : Span → Expression → Reader Expression
  postfix at e = λ ts. postfix_from at (length ts) e ts

  abbrev pub operated : Span → Expression → Option BinaryOperator → Reader Expression
  operated at left (Some op) = do
    pass
    right ← expression (strength op + 1)
    pure (expr.Binary left op right at)
  operated at left None = refuse

  unfoldable pub operation : Span → Expression → Reader Expression
  operation at left = peek >>= (λ k. operated at left (binary_operator k))

  -- { binop unary }, as far as the operators bind so tightly; those of one level group from the left
  unfoldable pub operations_from : Span → ℕ → ℕ → Expression → Reader Expression
  operations_from at least zero left = refuse
  operations_from at least (suc n) left = do
    k ← peek
    if nat_lt (binds k) least then pure left else (operation at left >>= operations_from at least n)

  unfoldable pub operations : Span → ℕ → Expression → Reader Expression
  operations at least left = λ ts. operations_from at least (length ts) left ts

  abbrev pub ending_by : Span → Expression → Option AssignmentOperator → Bool → Reader Expression
  ending_by at left (Some op) is_choice = do
    pass
    right ← expression 0
    pure (expr.Assignment left op right at)
  ending_by at left None true = do
    pass
    yes_value ← expression 0
    expect mark.Colon
    no_value ← expression 0
    pure (expr.Conditional left yes_value no_value at)
  ending_by at left None false = pure left

  -- [ asop expr | "?" expr ":" expr ]
  unfoldable pub ending : Span → Expression → Reader Expression
  ending at left = λ ts. ending_by at left (assignment_operator (lead ts)) (sees mark.Question ts) ts

  -- after the first operand
  unfoldable pub after_unary : Span → Expression → Reader Expression
  after_unary at e = operations at 1 e >>= ending at

  -- after what a postfix expression begins with
  unfoldable pub after_primary : Span → Expression → Reader Expression
  after_primary at e = postfix at e >>= after_unary at

  abbrev pub thrown_by : Span → Bool → Reader Expression
  thrown_by at true = (λ e. expr.Throw e at) <$> expression 0
  thrown_by at false = pure (expr.Rethrow at)

  -- after "throw"
  unfoldable pub thrown : Span → Reader Expression
  thrown at = peek >>= (λ k. thrown_by at (begins_expression k))

  -- after "delete"
  unfoldable pub deleted : Bool → Span → Reader Expression
  deleted is_global at = (λ e. expr.Delete is_global e at) <$> expression 11

  abbrev pub storage_by : Span → Lead → Reader Expression
  storage_by at (l.Word word.New) = pass >> ((λ es. expr.OperatorNew es at) <$> given_arguments)
  storage_by at (l.Word word.Delete) = pass >> ((λ es. expr.OperatorDelete es at) <$> given_arguments)
  storage_by at _ = refuse

  -- after "::" "operator"
  unfoldable pub storage : Span → Reader Expression
  storage at = peek >>= storage_by at

  abbrev pub new_by : Bool → SimpleType → ℕ → Span → Option Brackets → Bool → Reader Expression
  new_by is_global base pointers at (Some how) is_more = do
    pass
    found ← arguments (closing how)
    pure (expr.NewWith is_global base pointers how found at)
  -- a `&` right after the type of a `new` is no binary operator
  new_by is_global base pointers at None true = refuse
  new_by is_global base pointers at None false = pure (expr.New is_global base pointers at)

  -- after the type
  unfoldable pub initialized : Bool → SimpleType → ℕ → Span → Reader Expression
  initialized is_global base pointers at = peek >>= (λ k. new_by is_global base pointers at (opening k) (is_reference k))

-- `is_class` tells the names of classes.
module _ (is_class : List ℕ → Bool) (expression : ℕ → Reader Expression) where
  -- after "new"
  unfoldable pub created : Bool → Span → Reader Expression
  created is_global at = do
    base ← simple_type is_class
    pointers ← stars
    initialized expression is_global base pointers at

  abbrev pub global_by : Span → Lead → Reader Expression
  global_by at (l.Word word.New) = pass >> created true at
  global_by at (l.Word word.Delete) = pass >> deleted expression true at
  global_by at (l.Word word.Operator) = pass >> (storage expression at >>= postfix expression at)
  global_by at _ = refuse

  -- after "::"
  unfoldable pub global : Span → Reader Expression
  global at = peek >>= global_by at

  -- after "static_cast"
  unfoldable pub cast : Span → Reader Expression
  cast at = do
    expect mark.Less
    of ← type_id is_class
    expect mark.Greater
    e ← parenthesized expression
    pure (expr.StaticCast of e at)

  abbrev pub library_by : Span → List ℕ → Option StandardFunction → Reader Expression
  library_by at called (Some function) = pure (expr.StandardFunction function at)
  library_by at called None = library_type is_class called >>= (λ kind. based expression at (of_kind kind at))

  -- after "std"
  unfoldable pub library : Span → Reader Expression
  library at = do
    expect mark.Scope
    called ← any_name
    library_by at called (library_function called)

  abbrev pub pathed_by : Span → Path → Reader Expression
  pathed_by at p = if names_class is_class p then construction expression (of_kind (simple.Class p) at) else pure (expr.Name p)

  -- a path: of a class with arguments, or of what is none
  unfoldable pub pathed : Span → Reader Expression
  pathed at = path >>= pathed_by at

  abbrev pub named_by : Span → Bool → Bool → Reader Expression
  named_by at true is_run = pass >> library at
  named_by at false true = pass >> of_corun at
  named_by at false false = pathed at

  unfoldable pub named : Span → Reader Expression
  named at = λ ts. named_by at (spells (codes "std") ts) (spells (codes "corun") ts) ts

  abbrev pub built_by : Span → Option SimpleTypeKind → Reader Expression
  built_by at (Some kind) = pass >> construction expression (of_kind kind at)
  built_by at None = refuse

  abbrev pub operand_by : Span → Lead → Reader Expression
  operand_by at (l.Mark mark.OpenParen) = (λ e. expr.Parenthesized e at) <$> parenthesized expression
  operand_by at (l.Word word.StaticCast) = pass >> cast at
  operand_by at l.Name = named at
  operand_by at k = built_by at (builtin k)

  unfoldable pub operand : Span → Reader Expression
  operand at = peek >>= operand_by at

  abbrev pub primary_by : Span → Option Expression → Reader Expression
  primary_by at (Some e) = pass >> pure e
  primary_by at None = operand at

  unfoldable pub primary : Span → Reader Expression
  primary at = peek >>= (λ k. primary_by at (literal k at))

  abbrev pub prefix_by : Span → Lead → Reader Expression
  prefix_by at (l.Word word.New) = pass >> created false at
  prefix_by at (l.Word word.Delete) = pass >> deleted expression false at
  prefix_by at (l.Mark mark.Scope) = pass >> global at
  prefix_by at _ = primary at >>= postfix expression at

  unfoldable pub prefix : Span → Reader Expression
  prefix at = peek >>= prefix_by at

  abbrev pub unary_by : Span → Option UnaryOperator → Reader Expression
  unary_by at (Some op) = pass >> ((λ e. expr.Unary op e at) <$> expression 11)
  unary_by at None = prefix at

  unfoldable pub unary : Span → Reader Expression
  unary at = peek >>= (λ k. unary_by at (unary_operator k))

  abbrev pub whole_by : Span → Lead → Reader Expression
  whole_by at (l.Word word.CoYield) = pass >> ((λ e. expr.Yield e at) <$> expression 0)
  whole_by at (l.Word word.Throw) = pass >> thrown expression at
  whole_by at _ = unary at >>= after_unary expression at

  unfoldable pub whole : Span → Reader Expression
  whole at = peek >>= whole_by at

  unfoldable pub level : ℕ → Reader Expression
  level least = do
    at ← here
    if least == 0 then whole at else (unary at >>= operations expression at least)

-- with no more than this many nested in one another
unfoldable pub expression : (List ℕ → Bool) → ℕ → ℕ → Reader Expression
expression is_class zero least = refuse
expression is_class (suc depth) least = level is_class (expression is_class depth) least
