-- The rules of statements.
use Rattle.std.proofs.Common.{◌≡◌, List, [], ◌∷◌, refl}
use Rattle.co_lex.specs.declared.token.Mark.TheVariants as mark
use Rattle.co_lex.specs.declared.token.Word.TheVariants as word
use Rattle.co_rules.specs.declared.symbol.Known.TheVariants as known
use Rattle.co_rules.specs.declared.symbol.Nonterminal.TheVariants as n
use Rattle.co_rules.specs.declared.symbol.Pattern.TheVariants as pattern
use Rattle.co_rules.specs.declared.symbol.Symbol.TheVariants.{Token, One, Maybe, Many, Greedy, Close}
use Rattle.co_rules.specs.Rule.{Rule, rule, rules, in_file, in_class, in_type, in_statement, in_head, in_local, in_value, in_argument, in_unary, in_operand, from_file, from_class, from_type, from_statement, from_head, from_local, from_value, from_argument, from_unary}
use Rattle.co_reads.proofs.Those.{those}

-- ---- Block

abbrev pub of_block : List Rule
of_block =
    rule n.Block (pattern.Punctuator mark.OpenBrace) (Many n.Statement ∷ Token (pattern.Punctuator mark.CloseBrace) ∷ Close ∷ []) ∷ []

pub those_block : those n.Block rules ≡ of_block
unfolding in_file in_class in_type in_statement in_head in_local in_value in_argument in_unary in_operand from_file from_class from_type from_statement from_head from_local from_value from_argument from_unary
those_block = refl

-- ---- Statement

abbrev pub of_statement : List Rule
of_statement =
    rule n.Statement (pattern.Punctuator mark.OpenBrace) (Many n.Statement ∷ Token (pattern.Punctuator mark.CloseBrace) ∷ Close ∷ []) ∷
    rule n.Statement (pattern.Punctuator mark.Semicolon) ([]) ∷
    rule n.Statement (pattern.Keyword word.Try) (One n.Block ∷ One n.Catch ∷ Many n.Catch ∷ []) ∷
    rule n.Statement (pattern.Keyword word.If) (One n.Condition ∷ One n.Statement ∷ Greedy n.Else (pattern.Keyword word.Else) ∷ Close ∷ []) ∷
    rule n.Statement (pattern.Keyword word.While) (One n.Condition ∷ One n.Statement ∷ Close ∷ []) ∷
    rule n.Statement (pattern.Keyword word.For) (One n.ForHead ∷ One n.Statement ∷ Close ∷ []) ∷
    rule n.Statement (pattern.Keyword word.Break) (Token (pattern.Punctuator mark.Semicolon) ∷ []) ∷
    rule n.Statement (pattern.Keyword word.Continue) (Token (pattern.Punctuator mark.Semicolon) ∷ []) ∷
    rule n.Statement (pattern.Keyword word.Return) (Maybe n.Value ∷ Token (pattern.Punctuator mark.Semicolon) ∷ []) ∷
    rule n.Statement (pattern.Keyword word.CoReturn) (Maybe n.Expression ∷ Token (pattern.Punctuator mark.Semicolon) ∷ []) ∷
    rule n.Statement (pattern.Keyword word.CoYield) (One n.Expression ∷ Close ∷ Token (pattern.Punctuator mark.Semicolon) ∷ []) ∷
    rule n.Statement (pattern.Keyword word.Throw) (Maybe n.Expression ∷ Close ∷ Token (pattern.Punctuator mark.Semicolon) ∷ []) ∷
    rule n.Statement pattern.UnaryOperator (One n.Unary ∷ Close ∷ Maybe n.Operators ∷ Maybe n.ExpressionRest ∷ Token (pattern.Punctuator mark.Semicolon) ∷ []) ∷
    rule n.Statement (pattern.Keyword word.New) (One n.Base ∷ Greedy n.NewRest pattern.NewMark ∷ Close ∷ Maybe n.Operators ∷ Maybe n.ExpressionRest ∷ Token (pattern.Punctuator mark.Semicolon) ∷ []) ∷
    rule n.Statement (pattern.Keyword word.Delete) (One n.Unary ∷ Close ∷ Maybe n.Operators ∷ Maybe n.ExpressionRest ∷ Token (pattern.Punctuator mark.Semicolon) ∷ []) ∷
    rule n.Statement (pattern.Punctuator mark.Scope) (One n.GlobalScope ∷ Maybe n.Operators ∷ Maybe n.ExpressionRest ∷ Token (pattern.Punctuator mark.Semicolon) ∷ []) ∷
    rule n.Statement (pattern.Punctuator mark.OpenParen) (One n.Expression ∷ Token (pattern.Punctuator mark.CloseParen) ∷ Close ∷ Maybe n.Postfix ∷ Maybe n.Operators ∷ Maybe n.ExpressionRest ∷ Token (pattern.Punctuator mark.Semicolon) ∷ []) ∷
    rule n.Statement (pattern.Spelled known.Corun) (Token (pattern.Punctuator mark.Scope) ∷ One n.RunName ∷ Maybe n.Postfix ∷ Maybe n.Operators ∷ Maybe n.ExpressionRest ∷ Token (pattern.Punctuator mark.Semicolon) ∷ []) ∷
    rule n.Statement (pattern.Keyword word.StaticCast) (Token (pattern.Punctuator mark.Less) ∷ One n.TypeId ∷ Token (pattern.Punctuator mark.Greater) ∷ One n.Condition ∷ Maybe n.Postfix ∷ Maybe n.Operators ∷ Maybe n.ExpressionRest ∷ Token (pattern.Punctuator mark.Semicolon) ∷ []) ∷
    rule n.Statement pattern.Literal (Maybe n.Postfix ∷ Maybe n.Operators ∷ Maybe n.ExpressionRest ∷ Token (pattern.Punctuator mark.Semicolon) ∷ []) ∷
    rule n.Statement (pattern.Keyword word.Const) (One n.Base ∷ Maybe n.TypeRest ∷ Token pattern.Name ∷ Maybe n.LocalRest ∷ Token (pattern.Punctuator mark.Semicolon) ∷ []) ∷
    rule n.Statement (pattern.Keyword word.Auto) (Maybe n.Reference ∷ Token pattern.Name ∷ Maybe n.LocalRest ∷ Token (pattern.Punctuator mark.Semicolon) ∷ []) ∷
    rule n.Statement pattern.BuiltinType (One n.AfterBuiltin ∷ Token (pattern.Punctuator mark.Semicolon) ∷ []) ∷
    rule n.Statement (pattern.Spelled known.Std) (Token (pattern.Punctuator mark.Scope) ∷ One n.LibraryStatement ∷ Token (pattern.Punctuator mark.Semicolon) ∷ []) ∷
    rule n.Statement pattern.ClassName (One n.AfterClass ∷ Token (pattern.Punctuator mark.Semicolon) ∷ []) ∷
    rule n.Statement pattern.OtherName (Maybe n.AfterOther ∷ Token (pattern.Punctuator mark.Semicolon) ∷ []) ∷ []

pub those_statement : those n.Statement rules ≡ of_statement
unfolding in_file in_class in_type in_statement in_head in_local in_value in_argument in_unary in_operand from_file from_class from_type from_statement from_head from_local from_value from_argument from_unary
those_statement = refl

-- ---- Else

abbrev pub of_else : List Rule
of_else =
    rule n.Else (pattern.Keyword word.Else) (One n.Statement ∷ []) ∷ []

pub those_else : those n.Else rules ≡ of_else
unfolding in_file in_class in_type in_statement in_head in_local in_value in_argument in_unary in_operand from_file from_class from_type from_statement from_head from_local from_value from_argument from_unary
those_else = refl

-- ---- ForHead

abbrev pub of_for_head : List Rule
of_for_head =
    rule n.ForHead (pattern.Punctuator mark.OpenParen) (One n.ForInit ∷ Maybe n.Expression ∷ Token (pattern.Punctuator mark.Semicolon) ∷ Maybe n.Expression ∷ Token (pattern.Punctuator mark.CloseParen) ∷ Close ∷ []) ∷ []

pub those_for_head : those n.ForHead rules ≡ of_for_head
unfolding in_file in_class in_type in_statement in_head in_local in_value in_argument in_unary in_operand from_file from_class from_type from_statement from_head from_local from_value from_argument from_unary
those_for_head = refl

-- ---- ForInit

abbrev pub of_for_init : List Rule
of_for_init =
    rule n.ForInit (pattern.Punctuator mark.Semicolon) ([]) ∷
    rule n.ForInit (pattern.Keyword word.CoYield) (One n.Expression ∷ Close ∷ Token (pattern.Punctuator mark.Semicolon) ∷ []) ∷
    rule n.ForInit (pattern.Keyword word.Throw) (Maybe n.Expression ∷ Close ∷ Token (pattern.Punctuator mark.Semicolon) ∷ []) ∷
    rule n.ForInit pattern.UnaryOperator (One n.Unary ∷ Close ∷ Maybe n.Operators ∷ Maybe n.ExpressionRest ∷ Token (pattern.Punctuator mark.Semicolon) ∷ []) ∷
    rule n.ForInit (pattern.Keyword word.New) (One n.Base ∷ Greedy n.NewRest pattern.NewMark ∷ Close ∷ Maybe n.Operators ∷ Maybe n.ExpressionRest ∷ Token (pattern.Punctuator mark.Semicolon) ∷ []) ∷
    rule n.ForInit (pattern.Keyword word.Delete) (One n.Unary ∷ Close ∷ Maybe n.Operators ∷ Maybe n.ExpressionRest ∷ Token (pattern.Punctuator mark.Semicolon) ∷ []) ∷
    rule n.ForInit (pattern.Punctuator mark.Scope) (One n.GlobalScope ∷ Maybe n.Operators ∷ Maybe n.ExpressionRest ∷ Token (pattern.Punctuator mark.Semicolon) ∷ []) ∷
    rule n.ForInit (pattern.Punctuator mark.OpenParen) (One n.Expression ∷ Token (pattern.Punctuator mark.CloseParen) ∷ Close ∷ Maybe n.Postfix ∷ Maybe n.Operators ∷ Maybe n.ExpressionRest ∷ Token (pattern.Punctuator mark.Semicolon) ∷ []) ∷
    rule n.ForInit (pattern.Spelled known.Corun) (Token (pattern.Punctuator mark.Scope) ∷ One n.RunName ∷ Maybe n.Postfix ∷ Maybe n.Operators ∷ Maybe n.ExpressionRest ∷ Token (pattern.Punctuator mark.Semicolon) ∷ []) ∷
    rule n.ForInit (pattern.Keyword word.StaticCast) (Token (pattern.Punctuator mark.Less) ∷ One n.TypeId ∷ Token (pattern.Punctuator mark.Greater) ∷ One n.Condition ∷ Maybe n.Postfix ∷ Maybe n.Operators ∷ Maybe n.ExpressionRest ∷ Token (pattern.Punctuator mark.Semicolon) ∷ []) ∷
    rule n.ForInit pattern.Literal (Maybe n.Postfix ∷ Maybe n.Operators ∷ Maybe n.ExpressionRest ∷ Token (pattern.Punctuator mark.Semicolon) ∷ []) ∷
    rule n.ForInit (pattern.Keyword word.Const) (One n.Base ∷ Maybe n.TypeRest ∷ Token pattern.Name ∷ Maybe n.LocalRest ∷ Token (pattern.Punctuator mark.Semicolon) ∷ []) ∷
    rule n.ForInit (pattern.Keyword word.Auto) (Maybe n.Reference ∷ Token pattern.Name ∷ Maybe n.LocalRest ∷ Token (pattern.Punctuator mark.Semicolon) ∷ []) ∷
    rule n.ForInit pattern.BuiltinType (One n.AfterBuiltin ∷ Token (pattern.Punctuator mark.Semicolon) ∷ []) ∷
    rule n.ForInit (pattern.Spelled known.Std) (Token (pattern.Punctuator mark.Scope) ∷ One n.LibraryStatement ∷ Token (pattern.Punctuator mark.Semicolon) ∷ []) ∷
    rule n.ForInit pattern.ClassName (One n.AfterClass ∷ Token (pattern.Punctuator mark.Semicolon) ∷ []) ∷
    rule n.ForInit pattern.OtherName (Maybe n.AfterOther ∷ Token (pattern.Punctuator mark.Semicolon) ∷ []) ∷ []

pub those_for_init : those n.ForInit rules ≡ of_for_init
unfolding in_file in_class in_type in_statement in_head in_local in_value in_argument in_unary in_operand from_file from_class from_type from_statement from_head from_local from_value from_argument from_unary
those_for_init = refl

-- ---- Catch

abbrev pub of_catch : List Rule
of_catch =
    rule n.Catch (pattern.Keyword word.Catch) (One n.CatchHead ∷ One n.Block ∷ []) ∷ []

pub those_catch : those n.Catch rules ≡ of_catch
unfolding in_file in_class in_type in_statement in_head in_local in_value in_argument in_unary in_operand from_file from_class from_type from_statement from_head from_local from_value from_argument from_unary
those_catch = refl

-- ---- CatchHead

abbrev pub of_catch_head : List Rule
of_catch_head =
    rule n.CatchHead (pattern.Punctuator mark.OpenParen) (One n.CatchParameter ∷ Token (pattern.Punctuator mark.CloseParen) ∷ Close ∷ []) ∷ []

pub those_catch_head : those n.CatchHead rules ≡ of_catch_head
unfolding in_file in_class in_type in_statement in_head in_local in_value in_argument in_unary in_operand from_file from_class from_type from_statement from_head from_local from_value from_argument from_unary
those_catch_head = refl

-- ---- CatchParameter

abbrev pub of_catch_parameter : List Rule
of_catch_parameter =
    rule n.CatchParameter (pattern.Punctuator mark.Ellipsis) ([]) ∷
    rule n.CatchParameter (pattern.Keyword word.Const) (One n.Base ∷ Maybe n.TypeRest ∷ Maybe n.ParameterName ∷ []) ∷
    rule n.CatchParameter pattern.BuiltinType (Maybe n.TypeRest ∷ Maybe n.ParameterName ∷ []) ∷
    rule n.CatchParameter (pattern.Spelled known.Std) (Token (pattern.Punctuator mark.Scope) ∷ One n.LibraryType ∷ Maybe n.TypeRest ∷ Maybe n.ParameterName ∷ []) ∷
    rule n.CatchParameter pattern.ClassName (Maybe n.InnerClass ∷ Maybe n.TypeRest ∷ Maybe n.ParameterName ∷ []) ∷
    rule n.CatchParameter pattern.OtherName (Token (pattern.Punctuator mark.Scope) ∷ One n.ClassPath ∷ Maybe n.TypeRest ∷ Maybe n.ParameterName ∷ []) ∷ []

pub those_catch_parameter : those n.CatchParameter rules ≡ of_catch_parameter
unfolding in_file in_class in_type in_statement in_head in_local in_value in_argument in_unary in_operand from_file from_class from_type from_statement from_head from_local from_value from_argument from_unary
those_catch_parameter = refl

-- ---- LocalRest

abbrev pub of_local_rest : List Rule
of_local_rest =
    rule n.LocalRest (pattern.Punctuator mark.Assign) (One n.Value ∷ []) ∷
    rule n.LocalRest (pattern.Punctuator mark.OpenParen) (One n.FirstArgument ∷ Many n.NextArgument ∷ Token (pattern.Punctuator mark.CloseParen) ∷ Close ∷ []) ∷
    rule n.LocalRest (pattern.Punctuator mark.OpenBrace) (Maybe n.Arguments ∷ Token (pattern.Punctuator mark.CloseBrace) ∷ Close ∷ []) ∷ []

pub those_local_rest : those n.LocalRest rules ≡ of_local_rest
unfolding in_file in_class in_type in_statement in_head in_local in_value in_argument in_unary in_operand from_file from_class from_type from_statement from_head from_local from_value from_argument from_unary
those_local_rest = refl

-- ---- AfterBuiltin

abbrev pub of_after_builtin : List Rule
of_after_builtin =
    rule n.AfterBuiltin (pattern.Keyword word.Const) (Maybe n.Pointers ∷ Token pattern.Name ∷ Maybe n.LocalRest ∷ []) ∷
    rule n.AfterBuiltin (pattern.Punctuator mark.Star) (Maybe n.Pointers ∷ Close ∷ Token pattern.Name ∷ Maybe n.LocalRest ∷ []) ∷
    rule n.AfterBuiltin pattern.ReferenceMark (Token pattern.Name ∷ Maybe n.LocalRest ∷ []) ∷
    rule n.AfterBuiltin pattern.Name (Maybe n.LocalRest ∷ []) ∷
    rule n.AfterBuiltin (pattern.Punctuator mark.OpenParen) (Maybe n.Arguments ∷ Token (pattern.Punctuator mark.CloseParen) ∷ Close ∷ Maybe n.Postfix ∷ Maybe n.Operators ∷ Maybe n.ExpressionRest ∷ []) ∷
    rule n.AfterBuiltin (pattern.Punctuator mark.OpenBrace) (Maybe n.Arguments ∷ Token (pattern.Punctuator mark.CloseBrace) ∷ Close ∷ Maybe n.Postfix ∷ Maybe n.Operators ∷ Maybe n.ExpressionRest ∷ []) ∷ []

pub those_after_builtin : those n.AfterBuiltin rules ≡ of_after_builtin
unfolding in_file in_class in_type in_statement in_head in_local in_value in_argument in_unary in_operand from_file from_class from_type from_statement from_head from_local from_value from_argument from_unary
those_after_builtin = refl

-- ---- AfterClass

abbrev pub of_after_class : List Rule
of_after_class =
    rule n.AfterClass (pattern.Punctuator mark.Scope) (One n.StatementPath ∷ []) ∷
    rule n.AfterClass (pattern.Keyword word.Const) (Maybe n.Pointers ∷ Token pattern.Name ∷ Maybe n.LocalRest ∷ []) ∷
    rule n.AfterClass (pattern.Punctuator mark.Star) (Maybe n.Pointers ∷ Close ∷ Token pattern.Name ∷ Maybe n.LocalRest ∷ []) ∷
    rule n.AfterClass pattern.ReferenceMark (Token pattern.Name ∷ Maybe n.LocalRest ∷ []) ∷
    rule n.AfterClass pattern.Name (Maybe n.LocalRest ∷ []) ∷
    rule n.AfterClass (pattern.Punctuator mark.OpenBrace) (Maybe n.Arguments ∷ Token (pattern.Punctuator mark.CloseBrace) ∷ Close ∷ Maybe n.Postfix ∷ Maybe n.Operators ∷ Maybe n.ExpressionRest ∷ []) ∷ []

pub those_after_class : those n.AfterClass rules ≡ of_after_class
unfolding in_file in_class in_type in_statement in_head in_local in_value in_argument in_unary in_operand from_file from_class from_type from_statement from_head from_local from_value from_argument from_unary
those_after_class = refl

-- ---- AfterHandle

abbrev pub of_after_handle : List Rule
of_after_handle =
    rule n.AfterHandle (pattern.Punctuator mark.Scope) (Token pattern.HandleFunction ∷ Maybe n.Postfix ∷ Maybe n.Operators ∷ Maybe n.ExpressionRest ∷ []) ∷
    rule n.AfterHandle (pattern.Keyword word.Const) (Maybe n.Pointers ∷ Token pattern.Name ∷ Maybe n.LocalRest ∷ []) ∷
    rule n.AfterHandle (pattern.Punctuator mark.Star) (Maybe n.Pointers ∷ Close ∷ Token pattern.Name ∷ Maybe n.LocalRest ∷ []) ∷
    rule n.AfterHandle pattern.ReferenceMark (Token pattern.Name ∷ Maybe n.LocalRest ∷ []) ∷
    rule n.AfterHandle pattern.Name (Maybe n.LocalRest ∷ []) ∷
    rule n.AfterHandle (pattern.Punctuator mark.OpenParen) (Maybe n.Arguments ∷ Token (pattern.Punctuator mark.CloseParen) ∷ Close ∷ Maybe n.Postfix ∷ Maybe n.Operators ∷ Maybe n.ExpressionRest ∷ []) ∷
    rule n.AfterHandle (pattern.Punctuator mark.OpenBrace) (Maybe n.Arguments ∷ Token (pattern.Punctuator mark.CloseBrace) ∷ Close ∷ Maybe n.Postfix ∷ Maybe n.Operators ∷ Maybe n.ExpressionRest ∷ []) ∷ []

pub those_after_handle : those n.AfterHandle rules ≡ of_after_handle
unfolding in_file in_class in_type in_statement in_head in_local in_value in_argument in_unary in_operand from_file from_class from_type from_statement from_head from_local from_value from_argument from_unary
those_after_handle = refl

-- ---- LibraryStatement

abbrev pub of_library_statement : List Rule
of_library_statement =
    rule n.LibraryStatement pattern.LibraryFunction (Maybe n.Postfix ∷ Maybe n.Operators ∷ Maybe n.ExpressionRest ∷ []) ∷
    rule n.LibraryStatement pattern.LibraryObject (One n.AfterBuiltin ∷ []) ∷
    rule n.LibraryStatement (pattern.Spelled known.Atomic) (Token (pattern.Punctuator mark.Less) ∷ One n.AtomicArgument ∷ One n.AfterBuiltin ∷ []) ∷
    rule n.LibraryStatement (pattern.Spelled known.CoroutineHandle) (Token (pattern.Punctuator mark.Less) ∷ Maybe n.ClassPath ∷ Token (pattern.Punctuator mark.Greater) ∷ One n.AfterHandle ∷ []) ∷ []

pub those_library_statement : those n.LibraryStatement rules ≡ of_library_statement
unfolding in_file in_class in_type in_statement in_head in_local in_value in_argument in_unary in_operand from_file from_class from_type from_statement from_head from_local from_value from_argument from_unary
those_library_statement = refl

-- ---- StatementPath

abbrev pub of_statement_path : List Rule
of_statement_path =
    rule n.StatementPath pattern.ClassName (One n.AfterClass ∷ []) ∷
    rule n.StatementPath pattern.OtherName (Maybe n.AfterOther ∷ []) ∷ []

pub those_statement_path : those n.StatementPath rules ≡ of_statement_path
unfolding in_file in_class in_type in_statement in_head in_local in_value in_argument in_unary in_operand from_file from_class from_type from_statement from_head from_local from_value from_argument from_unary
those_statement_path = refl

-- ---- AfterOther

abbrev pub of_after_other : List Rule
of_after_other =
    rule n.AfterOther (pattern.Punctuator mark.Scope) (One n.StatementPath ∷ []) ∷
    rule n.AfterOther pattern.Access (Token pattern.Name ∷ Maybe n.Postfix ∷ Close ∷ Maybe n.Operators ∷ Maybe n.ExpressionRest ∷ []) ∷
    rule n.AfterOther (pattern.Punctuator mark.OpenParen) (Maybe n.Arguments ∷ Token (pattern.Punctuator mark.CloseParen) ∷ Maybe n.Postfix ∷ Close ∷ Maybe n.Operators ∷ Maybe n.ExpressionRest ∷ []) ∷
    rule n.AfterOther pattern.Increment (Maybe n.Postfix ∷ Close ∷ Maybe n.Operators ∷ Maybe n.ExpressionRest ∷ []) ∷
    rule n.AfterOther pattern.BinaryOperator (One n.Unary ∷ Maybe n.Operators ∷ Close ∷ Maybe n.ExpressionRest ∷ []) ∷
    rule n.AfterOther pattern.Assignment (One n.Expression ∷ Close ∷ []) ∷
    rule n.AfterOther (pattern.Punctuator mark.Question) (One n.Expression ∷ Token (pattern.Punctuator mark.Colon) ∷ One n.Expression ∷ Close ∷ []) ∷ []

pub those_after_other : those n.AfterOther rules ≡ of_after_other
unfolding in_file in_class in_type in_statement in_head in_local in_value in_argument in_unary in_operand from_file from_class from_type from_statement from_head from_local from_value from_argument from_unary
those_after_other = refl
