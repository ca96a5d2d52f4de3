-- The grammar read aloud: the sentence of a tree, one case for each alternative of each rule.
use Rattle.std.specs.Prelude.{ℕ, List, [], ◌∷◌, ◌++◌, Bool, true, false, codes}
use Rattle.co_lex.specs.declared.token.TokenKind.TheVariants as kind
use Rattle.co_lex.specs.declared.token.Word.TheVariants as word
use Rattle.co_lex.specs.declared.token.Mark.{Mark}
use Rattle.co_lex.specs.declared.token.Mark.TheVariants as mark
use Rattle.co_tree.specs.declared.expressions.AssignmentOperator.{AssignmentOperator}
use Rattle.co_tree.specs.declared.expressions.AssignmentOperator.TheVariants as assign
use Rattle.co_tree.specs.declared.expressions.BinaryOperator.{BinaryOperator}
use Rattle.co_tree.specs.declared.expressions.BinaryOperator.TheVariants as binary
use Rattle.co_tree.specs.declared.expressions.UnaryOperator.{UnaryOperator}
use Rattle.co_tree.specs.declared.expressions.UnaryOperator.TheVariants as unary
use Rattle.co_tree.specs.declared.expressions.StepOperator.{StepOperator}
use Rattle.co_tree.specs.declared.expressions.StepOperator.TheVariants as step
use Rattle.co_tree.specs.declared.expressions.MemberOperator.{MemberOperator}
use Rattle.co_tree.specs.declared.expressions.MemberOperator.TheVariants as access
use Rattle.co_tree.specs.declared.expressions.Brackets.{Brackets}
use Rattle.co_tree.specs.declared.expressions.Brackets.TheVariants.{Parentheses, Braces}
use Rattle.co_tree.specs.declared.expressions.HandleFunction.{HandleFunction}
use Rattle.co_tree.specs.declared.expressions.HandleFunction.TheVariants.{FromAddress, FromPromise}
use Rattle.co_tree.specs.declared.expressions.StandardFunction.{StandardFunction}
use Rattle.co_tree.specs.declared.expressions.StandardFunction.TheVariants as std_fn
use Rattle.co_tree.specs.declared.expressions.CorunFunction.{CorunFunction}
use Rattle.co_tree.specs.declared.expressions.CorunFunction.TheVariants as corun_fn
use Rattle.co_tree.specs.declared.expressions.Expression.{Expression, Row_of-Expression, end_of-Expression, more_of-Expression}
use Rattle.co_tree.specs.declared.expressions.Expression.TheVariants as expr
use Rattle.co_tree.specs.Piece.{Piece, token, node, opens, w, m, name, rule, in_parentheses, in_braces, if_said, standard, of_corun}
use Rattle.co_tree.specs.Types.{path, handle, simple_type, stars, type_id}

-- ---- operators

-- asop = "=" | "+=" | "-=" | "*=" | "/=" | "%=" | "&=" | "|=" | "^=" | "<<=" | ">>="
abbrev pub assignment_mark : AssignmentOperator → Mark
assignment_mark assign.Assign = mark.Assign
assignment_mark assign.Add = mark.AddAssign
assignment_mark assign.Sub = mark.SubAssign
assignment_mark assign.Mul = mark.MulAssign
assignment_mark assign.Div = mark.DivAssign
assignment_mark assign.Rem = mark.RemAssign
assignment_mark assign.And = mark.AndAssign
assignment_mark assign.Or = mark.OrAssign
assignment_mark assign.Xor = mark.XorAssign
assignment_mark assign.Shl = mark.ShlAssign
assignment_mark assign.Shr = mark.ShrAssign

-- binop = "||" | "&&" | "|" | "^" | "&" | "==" | "!=" | "<" | ">" | "<=" | ">=" | "<<" | ">>" | "+" | "-" | "*" | "/" | "%"
abbrev pub binary_mark : BinaryOperator → Mark
binary_mark binary.LogicalOr = mark.OrOr
binary_mark binary.LogicalAnd = mark.AndAnd
binary_mark binary.Or = mark.Or
binary_mark binary.Xor = mark.Xor
binary_mark binary.And = mark.And
binary_mark binary.Equal = mark.Equal
binary_mark binary.NotEqual = mark.NotEqual
binary_mark binary.Less = mark.Less
binary_mark binary.LessEqual = mark.LessEqual
binary_mark binary.Greater = mark.Greater
binary_mark binary.GreaterEqual = mark.GreaterEqual
binary_mark binary.Shl = mark.Shl
binary_mark binary.Shr = mark.Shr
binary_mark binary.Add = mark.Plus
binary_mark binary.Sub = mark.Minus
binary_mark binary.Mul = mark.Star
binary_mark binary.Div = mark.Slash
binary_mark binary.Rem = mark.Percent

-- "+" | "-" | "!" | "~" | "*" | "&" | "++" | "--" | "co_await"
abbrev pub unary_token : UnaryOperator → Piece
unary_token unary.Plus = m mark.Plus
unary_token unary.Minus = m mark.Minus
unary_token unary.Not = m mark.Not
unary_token unary.Complement = m mark.Tilde
unary_token unary.Dereference = m mark.Star
unary_token unary.AddressOf = m mark.And
unary_token unary.Increment = m mark.Increment
unary_token unary.Decrement = m mark.Decrement
unary_token unary.Await = w word.CoAwait

-- "++" | "--"
abbrev pub step_mark : StepOperator → Mark
step_mark step.Increment = mark.Increment
step_mark step.Decrement = mark.Decrement

-- "." | "->"
abbrev pub member_mark : MemberOperator → Mark
member_mark access.Dot = mark.Dot
member_mark access.Arrow = mark.Arrow

-- "true" | "false"
abbrev pub truth : Bool → Piece
truth true = w word.True
truth false = w word.False

-- "from_address" | "from_promise"
abbrev pub handle_function : HandleFunction → Piece
handle_function FromAddress = name (codes "from_address")
handle_function FromPromise = name (codes "from_promise")

-- "std" "::" ( "move" | "exchange" | "noop_coroutine" | "terminate" | "current_exception" | "rethrow_exception" )
abbrev pub standard_name : StandardFunction → List ℕ
standard_name std_fn.Move = codes "move"
standard_name std_fn.Exchange = codes "exchange"
standard_name std_fn.NoopCoroutine = codes "noop_coroutine"
standard_name std_fn.Terminate = codes "terminate"
standard_name std_fn.CurrentException = codes "current_exception"
standard_name std_fn.RethrowException = codes "rethrow_exception"

-- "corun" "::" ( "print" | "post" | "input" | "inputs" )
abbrev pub corun_name : CorunFunction → List ℕ
corun_name corun_fn.Print = codes "print"
corun_name corun_fn.Post = codes "post"
corun_name corun_fn.Input = codes "input"
corun_name corun_fn.Inputs = codes "inputs"

-- "(" .. ")" | "{" .. "}"
abbrev pub in_brackets : Brackets → List Piece → List Piece
in_brackets Parentheses pieces = in_parentheses pieces
in_brackets Braces pieces = in_braces pieces

-- ---- expressions

-- whether it is spelled by the rule `binary` with an operator
abbrev pub is_binary : Expression → Bool
is_binary (expr.Binary' s a op t b at) = true
is_binary e = false

-- whether it is spelled by the rule `postfix` with an operator
abbrev pub is_postfix : Expression → Bool
is_postfix (expr.Member' s a op n at) = true
is_postfix (expr.Call' s a t args at) = true
is_postfix (expr.Step' s a op at) = true
is_postfix e = false

-- A part that is spelled by the same rule as the whole is no rule of its own: the levels of both end together.
abbrev pub part : Bool → List Piece → List Piece
part true pieces = pieces
part false pieces = rule pieces

-- [ "::" ]
abbrev pub global : Bool → List Piece
global is_global = if_said is_global (m mark.Scope)

abbrev mutual
  pub expression : Expression → List Piece
  -- expr = "co_yield" expr | "throw" [ expr ] | binary asop expr | cond
  expression (expr.Yield' s (more_of-Expression e end_of-Expression) at) = node at ∷ opens ∷ w word.CoYield ∷ rule (expression e)
  expression (expr.Rethrow at) = node at ∷ opens ∷ w word.Throw ∷ []
  expression (expr.Throw' s (more_of-Expression e end_of-Expression) at) = node at ∷ opens ∷ w word.Throw ∷ rule (expression e)
  expression (expr.Assignment' s (more_of-Expression a end_of-Expression) op t (more_of-Expression b end_of-Expression) at) =
      node at ∷ (rule (expression a) ++ opens ∷ m (assignment_mark op) ∷ rule (expression b))
  -- cond = binary [ "?" expr ":" expr ]
  expression (expr.Conditional' s (more_of-Expression a end_of-Expression) t (more_of-Expression b end_of-Expression) u (more_of-Expression c end_of-Expression) at) =
      node at ∷ (rule (expression a) ++ opens ∷ m mark.Question ∷ (rule (expression b) ++ m mark.Colon ∷ rule (expression c)))
  -- binary = unary { binop unary }
  expression (expr.Binary' s (more_of-Expression a end_of-Expression) op t (more_of-Expression b end_of-Expression) at) =
      node at ∷ (part (is_binary a) (expression a) ++ opens ∷ m (binary_mark op) ∷ part (is_binary b) (expression b))
  -- unary = ( "+" | "-" | "!" | "~" | "*" | "&" | "++" | "--" | "co_await" ) unary
  --       | [ "::" ] "new" base { "*" } [ "(" [ args ] ")" | braces ] | [ "::" ] "delete" unary | postfix
  expression (expr.Unary' op s (more_of-Expression e end_of-Expression) at) = node at ∷ opens ∷ unary_token op ∷ rule (expression e)
  expression (expr.New is_global base pointers at) = node at ∷ (global is_global ++ opens ∷ w word.New ∷ (simple_type base ++ stars pointers))
  expression (expr.NewWith' is_global base pointers how s args at) =
      node at ∷ (global is_global ++ opens ∷ w word.New ∷ (simple_type base ++ (stars pointers ++ in_brackets how (row_arguments args))))
  expression (expr.Delete' is_global s (more_of-Expression e end_of-Expression) at) = node at ∷ (global is_global ++ opens ∷ w word.Delete ∷ rule (expression e))
  -- postfix = primary { ( "." | "->" ) NAME | "(" [ args ] ")" | "++" | "--" }
  expression (expr.Member' s (more_of-Expression e end_of-Expression) op n at) =
      node at ∷ (part (is_postfix e) (expression e) ++ opens ∷ m (member_mark op) ∷ name n ∷ [])
  expression (expr.Call' s (more_of-Expression e end_of-Expression) t args at) =
      node at ∷ (part (is_postfix e) (expression e) ++ opens ∷ m mark.OpenParen ∷ (row_arguments args ++ m mark.CloseParen ∷ []))
  expression (expr.Step' s (more_of-Expression e end_of-Expression) op at) = node at ∷ (part (is_postfix e) (expression e) ++ opens ∷ m (step_mark op) ∷ [])
  -- primary = INT | "true" | "false" | "nullptr" | "this" | path | "(" expr ")" | built | "corun" "::" "text" "(" TEXT ")"
  --         | "static_cast" "<" type ">" "(" expr ")" | "::" "operator" ( "new" | "delete" ) "(" args ")"
  --         | handle "::" ( "from_address" | "from_promise" ) | "std" "::" .. | "corun" "::" ..
  expression (expr.Number num value at) = node at ∷ token (kind.Int num value) ∷ []
  expression (expr.Bool value at) = node at ∷ truth value ∷ []
  expression (expr.Nullptr at) = node at ∷ w word.Nullptr ∷ []
  expression (expr.This at) = node at ∷ w word.This ∷ []
  expression (expr.Name p) = path p
  expression (expr.Parenthesized' s (more_of-Expression e end_of-Expression) at) = node at ∷ in_parentheses (rule (expression e))
  -- built = base ( braces | "(" [ args ] ")" )
  expression (expr.Construction' base how s args) = simple_type base ++ in_brackets how (row_arguments args)
  expression (expr.Text text at) = node at ∷ (of_corun (codes "text") ++ in_parentheses (token (kind.Lit text) ∷ []))
  expression (expr.StaticCast' of s (more_of-Expression e end_of-Expression) at) =
      node at ∷ w word.StaticCast ∷ m mark.Less ∷ (type_id of ++ m mark.Greater ∷ in_parentheses (rule (expression e)))
  expression (expr.OperatorNew' s args at) = node at ∷ m mark.Scope ∷ w word.Operator ∷ w word.New ∷ in_parentheses (row_arguments args)
  expression (expr.OperatorDelete' s args at) = node at ∷ m mark.Scope ∷ w word.Operator ∷ w word.Delete ∷ in_parentheses (row_arguments args)
  expression (expr.HandleFunction promise function at) = node at ∷ (handle promise ++ m mark.Scope ∷ handle_function function ∷ [])
  expression (expr.StandardFunction function at) = node at ∷ standard (standard_name function)
  expression (expr.CorunFunction function at) = node at ∷ of_corun (corun_name function)

  -- args = expr { "," expr }, or nothing
  pub row_arguments : {n : _} → Row_of-Expression n → List Piece
  row_arguments end_of-Expression = []
  row_arguments (more_of-Expression e rest) = rule (expression e) ++ row_arguments_after rest

  -- { "," expr }
  pub row_arguments_after : {n : _} → Row_of-Expression n → List Piece
  row_arguments_after end_of-Expression = []
  row_arguments_after (more_of-Expression e rest) = m mark.Comma ∷ (rule (expression e) ++ row_arguments_after rest)

-- { "," expr }
abbrev pub arguments_after : List Expression → List Piece
arguments_after [] = []
arguments_after (e ∷ es) = m mark.Comma ∷ (rule (expression e) ++ arguments_after es)

-- [ args ], where args = expr { "," expr }
abbrev pub arguments : List Expression → List Piece
arguments [] = []
arguments (e ∷ es) = rule (expression e) ++ arguments_after es
