-- Which operator, literal or type the next token is.
use Rattle.std.specs.Prelude.{◌≡◌, ℕ, Bool, true, false, if◌then◌else◌, List, [], ◌∷◌, Option, Some, None, codes}
use Rattle.std.specs.Str.{bytes_eq}
use Rattle.co_base.specs.declared.span.Span.{Span}
use Rattle.co_lex.specs.declared.token.Mark.{Mark}
use Rattle.co_lex.specs.declared.token.Mark.TheVariants as mark
use Rattle.co_lex.specs.declared.token.Word.TheVariants as word
use Rattle.co_reader.specs.declared.lead.Lead.{Lead}
use Rattle.co_reader.specs.declared.lead.Lead.TheVariants as l
use Rattle.co_tree.specs.declared.expressions.AssignmentOperator.{AssignmentOperator}
use Rattle.co_tree.specs.declared.expressions.AssignmentOperator.TheVariants as assign
use Rattle.co_tree.specs.declared.expressions.BinaryOperator.{BinaryOperator}
use Rattle.co_tree.specs.declared.expressions.BinaryOperator.TheVariants as binary
use Rattle.co_tree.specs.declared.expressions.UnaryOperator.{UnaryOperator}
use Rattle.co_tree.specs.declared.expressions.UnaryOperator.TheVariants as unary
use Rattle.co_tree.specs.declared.expressions.StepOperator.{StepOperator}
use Rattle.co_tree.specs.declared.expressions.StepOperator.TheVariants as step
use Rattle.co_tree.specs.declared.expressions.MemberOperator.{MemberOperator}
use Rattle.co_tree.specs.declared.expressions.MemberOperator.TheVariants as access
use Rattle.co_tree.specs.declared.expressions.Brackets.{Brackets}
use Rattle.co_tree.specs.declared.expressions.Brackets.TheVariants as brackets
use Rattle.co_tree.specs.declared.expressions.HandleFunction.{HandleFunction}
use Rattle.co_tree.specs.declared.expressions.HandleFunction.TheVariants as handle_fn
use Rattle.co_tree.specs.declared.expressions.StandardFunction.{StandardFunction}
use Rattle.co_tree.specs.declared.expressions.StandardFunction.TheVariants as std_fn
use Rattle.co_tree.specs.declared.expressions.CorunFunction.{CorunFunction}
use Rattle.co_tree.specs.declared.expressions.CorunFunction.TheVariants as corun_fn
use Rattle.co_tree.specs.declared.expressions.Expression.{Expression}
use Rattle.co_tree.specs.declared.expressions.Expression.TheVariants as expr
use Rattle.co_tree.specs.declared.types.SimpleTypeKind.{SimpleTypeKind}
use Rattle.co_tree.specs.declared.types.SimpleTypeKind.TheVariants as simple

-- "void" | "bool" | "int" | "long"
abbrev pub builtin : Lead → Option SimpleTypeKind
builtin (l.Word word.Void) = Some simple.Void
builtin (l.Word word.Bool) = Some simple.Bool
builtin (l.Word word.Int) = Some simple.Int
builtin (l.Word word.Long) = Some simple.Long
builtin _ = None

-- "+" | "-" | "!" | "~" | "*" | "&" | "++" | "--" | "co_await"
abbrev pub unary_operator : Lead → Option UnaryOperator
unary_operator (l.Mark mark.Plus) = Some unary.Plus
unary_operator (l.Mark mark.Minus) = Some unary.Minus
unary_operator (l.Mark mark.Not) = Some unary.Not
unary_operator (l.Mark mark.Tilde) = Some unary.Complement
unary_operator (l.Mark mark.Star) = Some unary.Dereference
unary_operator (l.Mark mark.And) = Some unary.AddressOf
unary_operator (l.Mark mark.Increment) = Some unary.Increment
unary_operator (l.Mark mark.Decrement) = Some unary.Decrement
unary_operator (l.Word word.CoAwait) = Some unary.Await
unary_operator _ = None

-- the operators between two operands
abbrev pub binary_operator : Lead → Option BinaryOperator
binary_operator (l.Mark mark.OrOr) = Some binary.LogicalOr
binary_operator (l.Mark mark.AndAnd) = Some binary.LogicalAnd
binary_operator (l.Mark mark.Or) = Some binary.Or
binary_operator (l.Mark mark.Xor) = Some binary.Xor
binary_operator (l.Mark mark.And) = Some binary.And
binary_operator (l.Mark mark.Equal) = Some binary.Equal
binary_operator (l.Mark mark.NotEqual) = Some binary.NotEqual
binary_operator (l.Mark mark.Less) = Some binary.Less
binary_operator (l.Mark mark.LessEqual) = Some binary.LessEqual
binary_operator (l.Mark mark.Greater) = Some binary.Greater
binary_operator (l.Mark mark.GreaterEqual) = Some binary.GreaterEqual
binary_operator (l.Mark mark.Shl) = Some binary.Shl
binary_operator (l.Mark mark.Shr) = Some binary.Shr
binary_operator (l.Mark mark.Plus) = Some binary.Add
binary_operator (l.Mark mark.Minus) = Some binary.Sub
binary_operator (l.Mark mark.Star) = Some binary.Mul
binary_operator (l.Mark mark.Slash) = Some binary.Div
binary_operator (l.Mark mark.Percent) = Some binary.Rem
binary_operator _ = None

-- "=" | "+=" | "-=" | "*=" | "/=" | "%=" | "&=" | "|=" | "^=" | "<<=" | ">>="
abbrev pub assignment_operator : Lead → Option AssignmentOperator
assignment_operator (l.Mark mark.Assign) = Some assign.Assign
assignment_operator (l.Mark mark.AddAssign) = Some assign.Add
assignment_operator (l.Mark mark.SubAssign) = Some assign.Sub
assignment_operator (l.Mark mark.MulAssign) = Some assign.Mul
assignment_operator (l.Mark mark.DivAssign) = Some assign.Div
assignment_operator (l.Mark mark.RemAssign) = Some assign.Rem
assignment_operator (l.Mark mark.AndAssign) = Some assign.And
assignment_operator (l.Mark mark.OrAssign) = Some assign.Or
assignment_operator (l.Mark mark.XorAssign) = Some assign.Xor
assignment_operator (l.Mark mark.ShlAssign) = Some assign.Shl
assignment_operator (l.Mark mark.ShrAssign) = Some assign.Shr
assignment_operator _ = None

-- "++" | "--"
abbrev pub step_operator : Lead → Option StepOperator
step_operator (l.Mark mark.Increment) = Some step.Increment
step_operator (l.Mark mark.Decrement) = Some step.Decrement
step_operator _ = None

-- "." | "->"
abbrev pub member_operator : Lead → Option MemberOperator
member_operator (l.Mark mark.Dot) = Some access.Dot
member_operator (l.Mark mark.Arrow) = Some access.Arrow
member_operator _ = None

-- "(" | "{"
abbrev pub opening : Lead → Option Brackets
opening (l.Mark mark.OpenParen) = Some brackets.Parentheses
opening (l.Mark mark.OpenBrace) = Some brackets.Braces
opening _ = None

-- INT | "true" | "false" | "nullptr" | "this"
abbrev pub literal : Lead → Span → Option Expression
literal (l.Int num value) at = Some (expr.Number num value at)
literal (l.Word word.True) at = Some (expr.Bool true at)
literal (l.Word word.False) at = Some (expr.Bool false at)
literal (l.Word word.Nullptr) at = Some (expr.Nullptr at)
literal (l.Word word.This) at = Some (expr.This at)
literal _ at = None

abbrev pub closing : Brackets → Mark
closing brackets.Parentheses = mark.CloseParen
closing brackets.Braces = mark.CloseBrace

-- what an expression begins with
abbrev pub begins_expression : Lead → Bool
begins_expression l.Name = true
begins_expression (l.Int num value) = true
begins_expression (l.Word word.CoAwait) = true
begins_expression (l.Word word.CoYield) = true
begins_expression (l.Word word.Throw) = true
begins_expression (l.Word word.New) = true
begins_expression (l.Word word.Delete) = true
begins_expression (l.Word word.StaticCast) = true
begins_expression (l.Word word.True) = true
begins_expression (l.Word word.False) = true
begins_expression (l.Word word.Nullptr) = true
begins_expression (l.Word word.This) = true
begins_expression (l.Word word.Void) = true
begins_expression (l.Word word.Bool) = true
begins_expression (l.Word word.Int) = true
begins_expression (l.Word word.Long) = true
begins_expression (l.Mark mark.Plus) = true
begins_expression (l.Mark mark.Minus) = true
begins_expression (l.Mark mark.Not) = true
begins_expression (l.Mark mark.Tilde) = true
begins_expression (l.Mark mark.Star) = true
begins_expression (l.Mark mark.And) = true
begins_expression (l.Mark mark.Increment) = true
begins_expression (l.Mark mark.Decrement) = true
begins_expression (l.Mark mark.Scope) = true
begins_expression (l.Mark mark.OpenParen) = true
begins_expression _ = false

-- what follows the base of a variable's type: the rest of the type, or the NAME
abbrev pub goes_on_as_type : Lead → Bool
goes_on_as_type l.Name = true
goes_on_as_type (l.Word word.Const) = true
goes_on_as_type (l.Mark mark.Star) = true
goes_on_as_type (l.Mark mark.And) = true
goes_on_as_type (l.Mark mark.AndAnd) = true
goes_on_as_type _ = false

-- "&" | "&&"
abbrev pub is_reference : Lead → Bool
is_reference (l.Mark mark.And) = true
is_reference (l.Mark mark.AndAnd) = true
is_reference _ = false

abbrev pub library_object : List ℕ → Option SimpleTypeKind
library_object text =
    if bytes_eq text (codes "size_t") then Some simple.Size else (if bytes_eq text (codes "exception_ptr") then Some simple.ExceptionPtr else (if bytes_eq text (codes "suspend_always") then Some simple.SuspendAlways else (if bytes_eq text (codes "suspend_never") then Some simple.SuspendNever else (None))))

abbrev pub library_function : List ℕ → Option StandardFunction
library_function text =
    if bytes_eq text (codes "move") then Some std_fn.Move else (if bytes_eq text (codes "exchange") then Some std_fn.Exchange else (if bytes_eq text (codes "noop_coroutine") then Some std_fn.NoopCoroutine else (if bytes_eq text (codes "terminate") then Some std_fn.Terminate else (if bytes_eq text (codes "current_exception") then Some std_fn.CurrentException else (if bytes_eq text (codes "rethrow_exception") then Some std_fn.RethrowException else (None))))))

abbrev pub handle_function : List ℕ → Option HandleFunction
handle_function text =
    if bytes_eq text (codes "from_address") then Some handle_fn.FromAddress else (if bytes_eq text (codes "from_promise") then Some handle_fn.FromPromise else (None))

abbrev pub run_function : List ℕ → Option CorunFunction
run_function text =
    if bytes_eq text (codes "print") then Some corun_fn.Print else (if bytes_eq text (codes "post") then Some corun_fn.Post else (if bytes_eq text (codes "input") then Some corun_fn.Input else (if bytes_eq text (codes "inputs") then Some corun_fn.Inputs else (None))))
