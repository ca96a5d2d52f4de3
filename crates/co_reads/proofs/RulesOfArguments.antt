-- The rules of arguments and values.
use Rattle.std.proofs.Common.{◌≡◌, List, [], ◌∷◌, refl}
use Rattle.co_lex.specs.declared.token.Mark.TheVariants as mark
use Rattle.co_lex.specs.declared.token.Word.TheVariants as word
use Rattle.co_rules.specs.declared.symbol.Known.TheVariants as known
use Rattle.co_rules.specs.declared.symbol.Nonterminal.TheVariants as n
use Rattle.co_rules.specs.declared.symbol.Pattern.TheVariants as pattern
use Rattle.co_rules.specs.declared.symbol.Symbol.TheVariants.{Token, One, Maybe, Many, Greedy, Close}
use Rattle.co_rules.specs.Rule.{Rule, rule, rules, in_file, in_class, in_type, in_statement, in_head, in_local, in_value, in_argument, in_unary, in_operand, from_file, from_class, from_type, from_statement, from_head, from_local, from_value, from_argument, from_unary}
use Rattle.co_reads.proofs.Those.{those}

-- ---- Arguments

abbrev pub of_arguments : List Rule
of_arguments =
    rule n.Arguments (pattern.Keyword word.CoYield) (One n.Expression ∷ Close ∷ Many n.NextArgument ∷ []) ∷
    rule n.Arguments (pattern.Keyword word.Throw) (Maybe n.Expression ∷ Close ∷ Many n.NextArgument ∷ []) ∷
    rule n.Arguments pattern.UnaryOperator (One n.Unary ∷ Close ∷ Maybe n.Operators ∷ Maybe n.ExpressionRest ∷ Many n.NextArgument ∷ []) ∷
    rule n.Arguments (pattern.Keyword word.New) (One n.Base ∷ Greedy n.NewRest pattern.NewMark ∷ Close ∷ Maybe n.Operators ∷ Maybe n.ExpressionRest ∷ Many n.NextArgument ∷ []) ∷
    rule n.Arguments (pattern.Keyword word.Delete) (One n.Unary ∷ Close ∷ Maybe n.Operators ∷ Maybe n.ExpressionRest ∷ Many n.NextArgument ∷ []) ∷
    rule n.Arguments (pattern.Punctuator mark.Scope) (One n.GlobalScope ∷ Maybe n.Operators ∷ Maybe n.ExpressionRest ∷ Many n.NextArgument ∷ []) ∷
    rule n.Arguments (pattern.Punctuator mark.OpenParen) (One n.Expression ∷ Token (pattern.Punctuator mark.CloseParen) ∷ Close ∷ Maybe n.Postfix ∷ Maybe n.Operators ∷ Maybe n.ExpressionRest ∷ Many n.NextArgument ∷ []) ∷
    rule n.Arguments (pattern.Spelled known.Corun) (Token (pattern.Punctuator mark.Scope) ∷ One n.RunName ∷ Maybe n.Postfix ∷ Maybe n.Operators ∷ Maybe n.ExpressionRest ∷ Many n.NextArgument ∷ []) ∷
    rule n.Arguments (pattern.Keyword word.StaticCast) (Token (pattern.Punctuator mark.Less) ∷ One n.TypeId ∷ Token (pattern.Punctuator mark.Greater) ∷ One n.Condition ∷ Maybe n.Postfix ∷ Maybe n.Operators ∷ Maybe n.ExpressionRest ∷ Many n.NextArgument ∷ []) ∷
    rule n.Arguments pattern.Literal (Maybe n.Postfix ∷ Maybe n.Operators ∷ Maybe n.ExpressionRest ∷ Many n.NextArgument ∷ []) ∷
    rule n.Arguments pattern.BuiltinType (One n.Built ∷ Maybe n.Postfix ∷ Maybe n.Operators ∷ Maybe n.ExpressionRest ∷ Many n.NextArgument ∷ []) ∷
    rule n.Arguments (pattern.Spelled known.Std) (Token (pattern.Punctuator mark.Scope) ∷ One n.LibraryOperand ∷ Maybe n.Postfix ∷ Maybe n.Operators ∷ Maybe n.ExpressionRest ∷ Many n.NextArgument ∷ []) ∷
    rule n.Arguments pattern.ClassName (One n.ClassOperand ∷ Maybe n.Postfix ∷ Maybe n.Operators ∷ Maybe n.ExpressionRest ∷ Many n.NextArgument ∷ []) ∷
    rule n.Arguments pattern.OtherName (Maybe n.Scope ∷ Maybe n.Postfix ∷ Maybe n.Operators ∷ Maybe n.ExpressionRest ∷ Many n.NextArgument ∷ []) ∷ []

pub those_arguments : those n.Arguments rules ≡ of_arguments
unfolding in_file in_class in_type in_statement in_head in_local in_value in_argument in_unary in_operand from_file from_class from_type from_statement from_head from_local from_value from_argument from_unary
those_arguments = refl

-- ---- FirstArgument

abbrev pub of_first_argument : List Rule
of_first_argument =
    rule n.FirstArgument (pattern.Keyword word.CoYield) (One n.Expression ∷ Close ∷ []) ∷
    rule n.FirstArgument (pattern.Keyword word.Throw) (Maybe n.Expression ∷ Close ∷ []) ∷
    rule n.FirstArgument pattern.UnaryOperator (One n.Unary ∷ Close ∷ Maybe n.Operators ∷ Maybe n.ExpressionRest ∷ []) ∷
    rule n.FirstArgument (pattern.Keyword word.New) (One n.Base ∷ Greedy n.NewRest pattern.NewMark ∷ Close ∷ Maybe n.Operators ∷ Maybe n.ExpressionRest ∷ []) ∷
    rule n.FirstArgument (pattern.Keyword word.Delete) (One n.Unary ∷ Close ∷ Maybe n.Operators ∷ Maybe n.ExpressionRest ∷ []) ∷
    rule n.FirstArgument (pattern.Punctuator mark.Scope) (One n.GlobalScope ∷ Maybe n.Operators ∷ Maybe n.ExpressionRest ∷ []) ∷
    rule n.FirstArgument (pattern.Punctuator mark.OpenParen) (One n.Expression ∷ Token (pattern.Punctuator mark.CloseParen) ∷ Close ∷ Maybe n.Postfix ∷ Maybe n.Operators ∷ Maybe n.ExpressionRest ∷ []) ∷
    rule n.FirstArgument (pattern.Spelled known.Corun) (Token (pattern.Punctuator mark.Scope) ∷ One n.RunName ∷ Maybe n.Postfix ∷ Maybe n.Operators ∷ Maybe n.ExpressionRest ∷ []) ∷
    rule n.FirstArgument (pattern.Keyword word.StaticCast) (Token (pattern.Punctuator mark.Less) ∷ One n.TypeId ∷ Token (pattern.Punctuator mark.Greater) ∷ One n.Condition ∷ Maybe n.Postfix ∷ Maybe n.Operators ∷ Maybe n.ExpressionRest ∷ []) ∷
    rule n.FirstArgument pattern.Literal (Maybe n.Postfix ∷ Maybe n.Operators ∷ Maybe n.ExpressionRest ∷ []) ∷
    rule n.FirstArgument (pattern.Spelled known.Std) (Token (pattern.Punctuator mark.Scope) ∷ Token pattern.LibraryFunction ∷ Maybe n.Postfix ∷ Maybe n.Operators ∷ Maybe n.ExpressionRest ∷ []) ∷
    rule n.FirstArgument pattern.ClassName (Token (pattern.Punctuator mark.Scope) ∷ One n.FirstPath ∷ Maybe n.Postfix ∷ Maybe n.Operators ∷ Maybe n.ExpressionRest ∷ []) ∷
    rule n.FirstArgument pattern.OtherName (Maybe n.FirstScope ∷ Maybe n.Postfix ∷ Maybe n.Operators ∷ Maybe n.ExpressionRest ∷ []) ∷ []

pub those_first_argument : those n.FirstArgument rules ≡ of_first_argument
unfolding in_file in_class in_type in_statement in_head in_local in_value in_argument in_unary in_operand from_file from_class from_type from_statement from_head from_local from_value from_argument from_unary
those_first_argument = refl

-- ---- FirstScope

abbrev pub of_first_scope : List Rule
of_first_scope =
    rule n.FirstScope (pattern.Punctuator mark.Scope) (One n.FirstPath ∷ []) ∷ []

pub those_first_scope : those n.FirstScope rules ≡ of_first_scope
unfolding in_file in_class in_type in_statement in_head in_local in_value in_argument in_unary in_operand from_file from_class from_type from_statement from_head from_local from_value from_argument from_unary
those_first_scope = refl

-- ---- FirstPath

abbrev pub of_first_path : List Rule
of_first_path =
    rule n.FirstPath pattern.ClassName (Token (pattern.Punctuator mark.Scope) ∷ One n.FirstPath ∷ []) ∷
    rule n.FirstPath pattern.OtherName (Maybe n.FirstScope ∷ []) ∷ []

pub those_first_path : those n.FirstPath rules ≡ of_first_path
unfolding in_file in_class in_type in_statement in_head in_local in_value in_argument in_unary in_operand from_file from_class from_type from_statement from_head from_local from_value from_argument from_unary
those_first_path = refl

-- ---- Value

abbrev pub of_value : List Rule
of_value =
    rule n.Value (pattern.Keyword word.CoYield) (One n.Expression ∷ Close ∷ []) ∷
    rule n.Value (pattern.Keyword word.Throw) (Maybe n.Expression ∷ Close ∷ []) ∷
    rule n.Value pattern.UnaryOperator (One n.Unary ∷ Close ∷ Maybe n.Operators ∷ Maybe n.ExpressionRest ∷ []) ∷
    rule n.Value (pattern.Keyword word.New) (One n.Base ∷ Greedy n.NewRest pattern.NewMark ∷ Close ∷ Maybe n.Operators ∷ Maybe n.ExpressionRest ∷ []) ∷
    rule n.Value (pattern.Keyword word.Delete) (One n.Unary ∷ Close ∷ Maybe n.Operators ∷ Maybe n.ExpressionRest ∷ []) ∷
    rule n.Value (pattern.Punctuator mark.Scope) (One n.GlobalScope ∷ Maybe n.Operators ∷ Maybe n.ExpressionRest ∷ []) ∷
    rule n.Value (pattern.Punctuator mark.OpenParen) (One n.Expression ∷ Token (pattern.Punctuator mark.CloseParen) ∷ Close ∷ Maybe n.Postfix ∷ Maybe n.Operators ∷ Maybe n.ExpressionRest ∷ []) ∷
    rule n.Value (pattern.Spelled known.Corun) (Token (pattern.Punctuator mark.Scope) ∷ One n.RunName ∷ Maybe n.Postfix ∷ Maybe n.Operators ∷ Maybe n.ExpressionRest ∷ []) ∷
    rule n.Value (pattern.Keyword word.StaticCast) (Token (pattern.Punctuator mark.Less) ∷ One n.TypeId ∷ Token (pattern.Punctuator mark.Greater) ∷ One n.Condition ∷ Maybe n.Postfix ∷ Maybe n.Operators ∷ Maybe n.ExpressionRest ∷ []) ∷
    rule n.Value pattern.Literal (Maybe n.Postfix ∷ Maybe n.Operators ∷ Maybe n.ExpressionRest ∷ []) ∷
    rule n.Value pattern.BuiltinType (One n.Built ∷ Maybe n.Postfix ∷ Maybe n.Operators ∷ Maybe n.ExpressionRest ∷ []) ∷
    rule n.Value (pattern.Spelled known.Std) (Token (pattern.Punctuator mark.Scope) ∷ One n.LibraryOperand ∷ Maybe n.Postfix ∷ Maybe n.Operators ∷ Maybe n.ExpressionRest ∷ []) ∷
    rule n.Value pattern.ClassName (One n.ClassOperand ∷ Maybe n.Postfix ∷ Maybe n.Operators ∷ Maybe n.ExpressionRest ∷ []) ∷
    rule n.Value pattern.OtherName (Maybe n.Scope ∷ Maybe n.Postfix ∷ Maybe n.Operators ∷ Maybe n.ExpressionRest ∷ []) ∷
    rule n.Value (pattern.Punctuator mark.OpenBrace) (Maybe n.Arguments ∷ Token (pattern.Punctuator mark.CloseBrace) ∷ Close ∷ []) ∷ []

pub those_value : those n.Value rules ≡ of_value
unfolding in_file in_class in_type in_statement in_head in_local in_value in_argument in_unary in_operand from_file from_class from_type from_statement from_head from_local from_value from_argument from_unary
those_value = refl
