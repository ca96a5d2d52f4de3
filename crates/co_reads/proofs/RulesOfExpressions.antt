-- The rules of expressions.
use Rattle.std.proofs.Common.{◌≡◌, List, [], ◌∷◌, refl}
use Rattle.co_lex.specs.declared.token.Mark.TheVariants as mark
use Rattle.co_lex.specs.declared.token.Word.TheVariants as word
use Rattle.co_rules.specs.declared.symbol.Known.TheVariants as known
use Rattle.co_rules.specs.declared.symbol.Nonterminal.TheVariants as n
use Rattle.co_rules.specs.declared.symbol.Pattern.TheVariants as pattern
use Rattle.co_rules.specs.declared.symbol.Symbol.TheVariants.{Token, One, Maybe, Greedy, Close}
use Rattle.co_rules.specs.Rule.{Rule, rule, rules, in_file, in_class, in_type, in_statement, in_head, in_local, in_value, in_argument, in_unary, in_operand, from_file, from_class, from_type, from_statement, from_head, from_local, from_value, from_argument, from_unary}
use Rattle.co_reads.proofs.Those.{those}

-- ---- Expression

abbrev pub of_expression : List Rule
of_expression =
    rule n.Expression (pattern.Keyword word.CoYield) (One n.Expression ∷ Close ∷ []) ∷
    rule n.Expression (pattern.Keyword word.Throw) (Maybe n.Expression ∷ Close ∷ []) ∷
    rule n.Expression pattern.UnaryOperator (One n.Unary ∷ Close ∷ Maybe n.Operators ∷ Maybe n.ExpressionRest ∷ []) ∷
    rule n.Expression (pattern.Keyword word.New) (One n.Base ∷ Greedy n.NewRest pattern.NewMark ∷ Close ∷ Maybe n.Operators ∷ Maybe n.ExpressionRest ∷ []) ∷
    rule n.Expression (pattern.Keyword word.Delete) (One n.Unary ∷ Close ∷ Maybe n.Operators ∷ Maybe n.ExpressionRest ∷ []) ∷
    rule n.Expression (pattern.Punctuator mark.Scope) (One n.GlobalScope ∷ Maybe n.Operators ∷ Maybe n.ExpressionRest ∷ []) ∷
    rule n.Expression (pattern.Punctuator mark.OpenParen) (One n.Expression ∷ Token (pattern.Punctuator mark.CloseParen) ∷ Close ∷ Maybe n.Postfix ∷ Maybe n.Operators ∷ Maybe n.ExpressionRest ∷ []) ∷
    rule n.Expression (pattern.Spelled known.Corun) (Token (pattern.Punctuator mark.Scope) ∷ One n.RunName ∷ Maybe n.Postfix ∷ Maybe n.Operators ∷ Maybe n.ExpressionRest ∷ []) ∷
    rule n.Expression (pattern.Keyword word.StaticCast) (Token (pattern.Punctuator mark.Less) ∷ One n.TypeId ∷ Token (pattern.Punctuator mark.Greater) ∷ One n.Condition ∷ Maybe n.Postfix ∷ Maybe n.Operators ∷ Maybe n.ExpressionRest ∷ []) ∷
    rule n.Expression pattern.Literal (Maybe n.Postfix ∷ Maybe n.Operators ∷ Maybe n.ExpressionRest ∷ []) ∷
    rule n.Expression pattern.BuiltinType (One n.Built ∷ Maybe n.Postfix ∷ Maybe n.Operators ∷ Maybe n.ExpressionRest ∷ []) ∷
    rule n.Expression (pattern.Spelled known.Std) (Token (pattern.Punctuator mark.Scope) ∷ One n.LibraryOperand ∷ Maybe n.Postfix ∷ Maybe n.Operators ∷ Maybe n.ExpressionRest ∷ []) ∷
    rule n.Expression pattern.ClassName (One n.ClassOperand ∷ Maybe n.Postfix ∷ Maybe n.Operators ∷ Maybe n.ExpressionRest ∷ []) ∷
    rule n.Expression pattern.OtherName (Maybe n.Scope ∷ Maybe n.Postfix ∷ Maybe n.Operators ∷ Maybe n.ExpressionRest ∷ []) ∷ []

pub those_expression : those n.Expression rules ≡ of_expression
unfolding in_file in_class in_type in_statement in_head in_local in_value in_argument in_unary in_operand from_file from_class from_type from_statement from_head from_local from_value from_argument from_unary
those_expression = refl

-- ---- Unary

abbrev pub of_unary : List Rule
of_unary =
    rule n.Unary pattern.UnaryOperator (One n.Unary ∷ Close ∷ []) ∷
    rule n.Unary (pattern.Keyword word.New) (One n.Base ∷ Greedy n.NewRest pattern.NewMark ∷ Close ∷ []) ∷
    rule n.Unary (pattern.Keyword word.Delete) (One n.Unary ∷ Close ∷ []) ∷
    rule n.Unary (pattern.Punctuator mark.Scope) (One n.GlobalScope ∷ []) ∷
    rule n.Unary (pattern.Punctuator mark.OpenParen) (One n.Expression ∷ Token (pattern.Punctuator mark.CloseParen) ∷ Close ∷ Maybe n.Postfix ∷ []) ∷
    rule n.Unary (pattern.Spelled known.Corun) (Token (pattern.Punctuator mark.Scope) ∷ One n.RunName ∷ Maybe n.Postfix ∷ []) ∷
    rule n.Unary (pattern.Keyword word.StaticCast) (Token (pattern.Punctuator mark.Less) ∷ One n.TypeId ∷ Token (pattern.Punctuator mark.Greater) ∷ One n.Condition ∷ Maybe n.Postfix ∷ []) ∷
    rule n.Unary pattern.Literal (Maybe n.Postfix ∷ []) ∷
    rule n.Unary pattern.BuiltinType (One n.Built ∷ Maybe n.Postfix ∷ []) ∷
    rule n.Unary (pattern.Spelled known.Std) (Token (pattern.Punctuator mark.Scope) ∷ One n.LibraryOperand ∷ Maybe n.Postfix ∷ []) ∷
    rule n.Unary pattern.ClassName (One n.ClassOperand ∷ Maybe n.Postfix ∷ []) ∷
    rule n.Unary pattern.OtherName (Maybe n.Scope ∷ Maybe n.Postfix ∷ []) ∷ []

pub those_unary : those n.Unary rules ≡ of_unary
unfolding in_file in_class in_type in_statement in_head in_local in_value in_argument in_unary in_operand from_file from_class from_type from_statement from_head from_local from_value from_argument from_unary
those_unary = refl

-- ---- GlobalScope

abbrev pub of_global_scope : List Rule
of_global_scope =
    rule n.GlobalScope (pattern.Keyword word.New) (One n.Base ∷ Greedy n.NewRest pattern.NewMark ∷ Close ∷ []) ∷
    rule n.GlobalScope (pattern.Keyword word.Delete) (One n.Unary ∷ Close ∷ []) ∷
    rule n.GlobalScope (pattern.Keyword word.Operator) (Token pattern.Allocation ∷ One n.GivenArguments ∷ Maybe n.Postfix ∷ []) ∷ []

pub those_global_scope : those n.GlobalScope rules ≡ of_global_scope
unfolding in_file in_class in_type in_statement in_head in_local in_value in_argument in_unary in_operand from_file from_class from_type from_statement from_head from_local from_value from_argument from_unary
those_global_scope = refl

-- ---- GivenArguments

abbrev pub of_given_arguments : List Rule
of_given_arguments =
    rule n.GivenArguments (pattern.Punctuator mark.OpenParen) (One n.Arguments ∷ Token (pattern.Punctuator mark.CloseParen) ∷ Close ∷ []) ∷ []

pub those_given_arguments : those n.GivenArguments rules ≡ of_given_arguments
unfolding in_file in_class in_type in_statement in_head in_local in_value in_argument in_unary in_operand from_file from_class from_type from_statement from_head from_local from_value from_argument from_unary
those_given_arguments = refl

-- ---- NewRest

abbrev pub of_new_rest : List Rule
of_new_rest =
    rule n.NewRest (pattern.Punctuator mark.Star) (Greedy n.NewRest pattern.NewMark ∷ Close ∷ []) ∷
    rule n.NewRest (pattern.Punctuator mark.OpenParen) (Maybe n.Arguments ∷ Token (pattern.Punctuator mark.CloseParen) ∷ Close ∷ []) ∷
    rule n.NewRest (pattern.Punctuator mark.OpenBrace) (Maybe n.Arguments ∷ Token (pattern.Punctuator mark.CloseBrace) ∷ Close ∷ []) ∷ []

pub those_new_rest : those n.NewRest rules ≡ of_new_rest
unfolding in_file in_class in_type in_statement in_head in_local in_value in_argument in_unary in_operand from_file from_class from_type from_statement from_head from_local from_value from_argument from_unary
those_new_rest = refl

-- ---- RunName

abbrev pub of_run_name : List Rule
of_run_name =
    rule n.RunName (pattern.Spelled known.Text) (One n.TextArgument ∷ []) ∷
    rule n.RunName pattern.RunFunction ([]) ∷ []

pub those_run_name : those n.RunName rules ≡ of_run_name
unfolding in_file in_class in_type in_statement in_head in_local in_value in_argument in_unary in_operand from_file from_class from_type from_statement from_head from_local from_value from_argument from_unary
those_run_name = refl

-- ---- TextArgument

abbrev pub of_text_argument : List Rule
of_text_argument =
    rule n.TextArgument (pattern.Punctuator mark.OpenParen) (Token pattern.Text ∷ Token (pattern.Punctuator mark.CloseParen) ∷ Close ∷ []) ∷ []

pub those_text_argument : those n.TextArgument rules ≡ of_text_argument
unfolding in_file in_class in_type in_statement in_head in_local in_value in_argument in_unary in_operand from_file from_class from_type from_statement from_head from_local from_value from_argument from_unary
those_text_argument = refl

-- ---- Built

abbrev pub of_built : List Rule
of_built =
    rule n.Built (pattern.Punctuator mark.OpenParen) (Maybe n.Arguments ∷ Token (pattern.Punctuator mark.CloseParen) ∷ Close ∷ []) ∷
    rule n.Built (pattern.Punctuator mark.OpenBrace) (Maybe n.Arguments ∷ Token (pattern.Punctuator mark.CloseBrace) ∷ Close ∷ []) ∷ []

pub those_built : those n.Built rules ≡ of_built
unfolding in_file in_class in_type in_statement in_head in_local in_value in_argument in_unary in_operand from_file from_class from_type from_statement from_head from_local from_value from_argument from_unary
those_built = refl

-- ---- LibraryOperand

abbrev pub of_library_operand : List Rule
of_library_operand =
    rule n.LibraryOperand pattern.LibraryFunction ([]) ∷
    rule n.LibraryOperand pattern.LibraryObject (One n.Built ∷ []) ∷
    rule n.LibraryOperand (pattern.Spelled known.Atomic) (Token (pattern.Punctuator mark.Less) ∷ One n.AtomicArgument ∷ One n.Built ∷ []) ∷
    rule n.LibraryOperand (pattern.Spelled known.CoroutineHandle) (Token (pattern.Punctuator mark.Less) ∷ Maybe n.ClassPath ∷ Token (pattern.Punctuator mark.Greater) ∷ One n.HandleOperand ∷ []) ∷ []

pub those_library_operand : those n.LibraryOperand rules ≡ of_library_operand
unfolding in_file in_class in_type in_statement in_head in_local in_value in_argument in_unary in_operand from_file from_class from_type from_statement from_head from_local from_value from_argument from_unary
those_library_operand = refl

-- ---- HandleOperand

abbrev pub of_handle_operand : List Rule
of_handle_operand =
    rule n.HandleOperand (pattern.Punctuator mark.Scope) (Token pattern.HandleFunction ∷ []) ∷
    rule n.HandleOperand (pattern.Punctuator mark.OpenParen) (Maybe n.Arguments ∷ Token (pattern.Punctuator mark.CloseParen) ∷ Close ∷ []) ∷
    rule n.HandleOperand (pattern.Punctuator mark.OpenBrace) (Maybe n.Arguments ∷ Token (pattern.Punctuator mark.CloseBrace) ∷ Close ∷ []) ∷ []

pub those_handle_operand : those n.HandleOperand rules ≡ of_handle_operand
unfolding in_file in_class in_type in_statement in_head in_local in_value in_argument in_unary in_operand from_file from_class from_type from_statement from_head from_local from_value from_argument from_unary
those_handle_operand = refl

-- ---- ClassOperand

abbrev pub of_class_operand : List Rule
of_class_operand =
    rule n.ClassOperand (pattern.Punctuator mark.Scope) (One n.Path ∷ []) ∷
    rule n.ClassOperand (pattern.Punctuator mark.OpenParen) (Maybe n.Arguments ∷ Token (pattern.Punctuator mark.CloseParen) ∷ Close ∷ []) ∷
    rule n.ClassOperand (pattern.Punctuator mark.OpenBrace) (Maybe n.Arguments ∷ Token (pattern.Punctuator mark.CloseBrace) ∷ Close ∷ []) ∷ []

pub those_class_operand : those n.ClassOperand rules ≡ of_class_operand
unfolding in_file in_class in_type in_statement in_head in_local in_value in_argument in_unary in_operand from_file from_class from_type from_statement from_head from_local from_value from_argument from_unary
those_class_operand = refl

-- ---- Scope

abbrev pub of_scope : List Rule
of_scope =
    rule n.Scope (pattern.Punctuator mark.Scope) (One n.Path ∷ []) ∷ []

pub those_scope : those n.Scope rules ≡ of_scope
unfolding in_file in_class in_type in_statement in_head in_local in_value in_argument in_unary in_operand from_file from_class from_type from_statement from_head from_local from_value from_argument from_unary
those_scope = refl

-- ---- Path

abbrev pub of_path : List Rule
of_path =
    rule n.Path pattern.ClassName (One n.ClassOperand ∷ []) ∷
    rule n.Path pattern.OtherName (Maybe n.Scope ∷ []) ∷ []

pub those_path : those n.Path rules ≡ of_path
unfolding in_file in_class in_type in_statement in_head in_local in_value in_argument in_unary in_operand from_file from_class from_type from_statement from_head from_local from_value from_argument from_unary
those_path = refl

-- ---- Postfix

abbrev pub of_postfix : List Rule
of_postfix =
    rule n.Postfix pattern.Access (Token pattern.Name ∷ Maybe n.Postfix ∷ Close ∷ []) ∷
    rule n.Postfix (pattern.Punctuator mark.OpenParen) (Maybe n.Arguments ∷ Token (pattern.Punctuator mark.CloseParen) ∷ Maybe n.Postfix ∷ Close ∷ []) ∷
    rule n.Postfix pattern.Increment (Maybe n.Postfix ∷ Close ∷ []) ∷ []

pub those_postfix : those n.Postfix rules ≡ of_postfix
unfolding in_file in_class in_type in_statement in_head in_local in_value in_argument in_unary in_operand from_file from_class from_type from_statement from_head from_local from_value from_argument from_unary
those_postfix = refl

-- ---- Operators

abbrev pub of_operators : List Rule
of_operators =
    rule n.Operators pattern.BinaryOperator (One n.Unary ∷ Maybe n.Operators ∷ Close ∷ []) ∷ []

pub those_operators : those n.Operators rules ≡ of_operators
unfolding in_file in_class in_type in_statement in_head in_local in_value in_argument in_unary in_operand from_file from_class from_type from_statement from_head from_local from_value from_argument from_unary
those_operators = refl

-- ---- ExpressionRest

abbrev pub of_expression_rest : List Rule
of_expression_rest =
    rule n.ExpressionRest pattern.Assignment (One n.Expression ∷ Close ∷ []) ∷
    rule n.ExpressionRest (pattern.Punctuator mark.Question) (One n.Expression ∷ Token (pattern.Punctuator mark.Colon) ∷ One n.Expression ∷ Close ∷ []) ∷ []

pub those_expression_rest : those n.ExpressionRest rules ≡ of_expression_rest
unfolding in_file in_class in_type in_statement in_head in_local in_value in_argument in_unary in_operand from_file from_class from_type from_statement from_head from_local from_value from_argument from_unary
those_expression_rest = refl

-- ---- Condition

abbrev pub of_condition : List Rule
of_condition =
    rule n.Condition (pattern.Punctuator mark.OpenParen) (One n.Expression ∷ Token (pattern.Punctuator mark.CloseParen) ∷ Close ∷ []) ∷ []

pub those_condition : those n.Condition rules ≡ of_condition
unfolding in_file in_class in_type in_statement in_head in_local in_value in_argument in_unary in_operand from_file from_class from_type from_statement from_head from_local from_value from_argument from_unary
those_condition = refl

-- ---- NextArgument

abbrev pub of_next_argument : List Rule
of_next_argument =
    rule n.NextArgument (pattern.Punctuator mark.Comma) (One n.Expression ∷ []) ∷ []

pub those_next_argument : those n.NextArgument rules ≡ of_next_argument
unfolding in_file in_class in_type in_statement in_head in_local in_value in_argument in_unary in_operand from_file from_class from_type from_statement from_head from_local from_value from_argument from_unary
those_next_argument = refl
