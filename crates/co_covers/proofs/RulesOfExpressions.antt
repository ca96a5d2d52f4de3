-- The rules of expressions.
use Rattle.std.proofs.Common.{◌≡◌, true, List, [], ◌∷◌, refl, inl, inr}
use Rattle.co_lex.specs.declared.token.Mark.TheVariants as mark
use Rattle.co_lex.specs.declared.token.Word.TheVariants as word
use Rattle.co_rules.specs.declared.symbol.Known.TheVariants as known
use Rattle.co_rules.specs.declared.symbol.Nonterminal.TheVariants as n
use Rattle.co_rules.specs.declared.symbol.Pattern.TheVariants as pattern
use Rattle.co_rules.specs.declared.symbol.Symbol.TheVariants.{Token, One, Maybe, Greedy, Close}
use Rattle.co_rules.specs.declared.symbol.Terminal.{Terminal}
use Rattle.co_rules.specs.Derives.{Begins}
use Rattle.co_rules.specs.Pattern.{admits}
use Rattle.co_rules.specs.Rule.{Rule, rule, rules, in_file, in_class, in_type, in_statement, in_head, in_local, in_value, in_argument, in_unary, in_operand, from_file, from_class, from_type, from_statement, from_head, from_local, from_value, from_argument, from_unary}
use Rattle.co_covers.proofs.Those.{those, begins}

-- ---- Expression

abbrev pub of_expression : List Rule
of_expression =
    rule n.Expression (pattern.Keyword word.CoYield) (One n.Expression ∷ Close ∷ []) ∷
    rule n.Expression (pattern.Keyword word.Throw) (Maybe n.Expression ∷ Close ∷ []) ∷
    rule n.Expression pattern.UnaryOperator (One n.Unary ∷ Close ∷ Maybe n.Operators ∷ Maybe n.ExpressionRest ∷ []) ∷
    rule n.Expression (pattern.Keyword word.New) (One n.Base ∷ Greedy n.NewRest pattern.NewMark ∷ Close ∷ Maybe n.Operators ∷ Maybe n.ExpressionRest ∷ []) ∷
    rule n.Expression (pattern.Keyword word.Delete) (One n.Unary ∷ Close ∷ Maybe n.Operators ∷ Maybe n.ExpressionRest ∷ []) ∷
    rule n.Expression (pattern.Punctuator mark.Scope) (One n.GlobalScope ∷ Maybe n.Operators ∷ Maybe n.ExpressionRest ∷ []) ∷
    rule n.Expression (pattern.Punctuator mark.OpenParen) (One n.Expression ∷ Token (pattern.Punctuator mark.CloseParen) ∷ Close ∷ Maybe n.Postfix ∷ Maybe n.Operators ∷ Maybe n.ExpressionRest ∷ []) ∷
    rule n.Expression (pattern.Spelled known.Corun) (Token (pattern.Punctuator mark.Scope) ∷ One n.RunName ∷ Maybe n.Postfix ∷ Maybe n.Operators ∷ Maybe n.ExpressionRest ∷ []) ∷
    rule n.Expression (pattern.Keyword word.StaticCast) (Token (pattern.Punctuator mark.Less) ∷ One n.TypeId ∷ Token (pattern.Punctuator mark.Greater) ∷ One n.Condition ∷ Maybe n.Postfix ∷ Maybe n.Operators ∷ Maybe n.ExpressionRest ∷ []) ∷
    rule n.Expression pattern.Literal (Maybe n.Postfix ∷ Maybe n.Operators ∷ Maybe n.ExpressionRest ∷ []) ∷
    rule n.Expression pattern.BuiltinType (One n.Built ∷ Maybe n.Postfix ∷ Maybe n.Operators ∷ Maybe n.ExpressionRest ∷ []) ∷
    rule n.Expression (pattern.Spelled known.Std) (Token (pattern.Punctuator mark.Scope) ∷ One n.LibraryOperand ∷ Maybe n.Postfix ∷ Maybe n.Operators ∷ Maybe n.ExpressionRest ∷ []) ∷
    rule n.Expression pattern.ClassName (One n.ClassOperand ∷ Maybe n.Postfix ∷ Maybe n.Operators ∷ Maybe n.ExpressionRest ∷ []) ∷
    rule n.Expression pattern.OtherName (Maybe n.Scope ∷ Maybe n.Postfix ∷ Maybe n.Operators ∷ Maybe n.ExpressionRest ∷ []) ∷ []

pub those_expression : those n.Expression rules ≡ of_expression
unfolding in_file in_class in_type in_statement in_head in_local in_value in_argument in_unary in_operand from_file from_class from_type from_statement from_head from_local from_value from_argument from_unary
those_expression = refl

pub expression-co_yield : (t : Terminal) → admits (pattern.Keyword word.CoYield) t ≡ true → Begins n.Expression t (One n.Expression ∷ Close ∷ [])
expression-co_yield t h = begins n.Expression of_expression those_expression t (pattern.Keyword word.CoYield) (One n.Expression ∷ Close ∷ []) (inl refl) h

pub expression-throw : (t : Terminal) → admits (pattern.Keyword word.Throw) t ≡ true → Begins n.Expression t (Maybe n.Expression ∷ Close ∷ [])
expression-throw t h = begins n.Expression of_expression those_expression t (pattern.Keyword word.Throw) (Maybe n.Expression ∷ Close ∷ []) (inr (inl refl)) h

-- ---- Unary

abbrev pub of_unary : List Rule
of_unary =
    rule n.Unary pattern.UnaryOperator (One n.Unary ∷ Close ∷ []) ∷
    rule n.Unary (pattern.Keyword word.New) (One n.Base ∷ Greedy n.NewRest pattern.NewMark ∷ Close ∷ []) ∷
    rule n.Unary (pattern.Keyword word.Delete) (One n.Unary ∷ Close ∷ []) ∷
    rule n.Unary (pattern.Punctuator mark.Scope) (One n.GlobalScope ∷ []) ∷
    rule n.Unary (pattern.Punctuator mark.OpenParen) (One n.Expression ∷ Token (pattern.Punctuator mark.CloseParen) ∷ Close ∷ Maybe n.Postfix ∷ []) ∷
    rule n.Unary (pattern.Spelled known.Corun) (Token (pattern.Punctuator mark.Scope) ∷ One n.RunName ∷ Maybe n.Postfix ∷ []) ∷
    rule n.Unary (pattern.Keyword word.StaticCast) (Token (pattern.Punctuator mark.Less) ∷ One n.TypeId ∷ Token (pattern.Punctuator mark.Greater) ∷ One n.Condition ∷ Maybe n.Postfix ∷ []) ∷
    rule n.Unary pattern.Literal (Maybe n.Postfix ∷ []) ∷
    rule n.Unary pattern.BuiltinType (One n.Built ∷ Maybe n.Postfix ∷ []) ∷
    rule n.Unary (pattern.Spelled known.Std) (Token (pattern.Punctuator mark.Scope) ∷ One n.LibraryOperand ∷ Maybe n.Postfix ∷ []) ∷
    rule n.Unary pattern.ClassName (One n.ClassOperand ∷ Maybe n.Postfix ∷ []) ∷
    rule n.Unary pattern.OtherName (Maybe n.Scope ∷ Maybe n.Postfix ∷ []) ∷ []

pub those_unary : those n.Unary rules ≡ of_unary
unfolding in_file in_class in_type in_statement in_head in_local in_value in_argument in_unary in_operand from_file from_class from_type from_statement from_head from_local from_value from_argument from_unary
those_unary = refl

pub unary-unary_operator : (t : Terminal) → admits pattern.UnaryOperator t ≡ true → Begins n.Unary t (One n.Unary ∷ Close ∷ [])
unary-unary_operator t h = begins n.Unary of_unary those_unary t pattern.UnaryOperator (One n.Unary ∷ Close ∷ []) (inl refl) h

pub unary-new : (t : Terminal) → admits (pattern.Keyword word.New) t ≡ true → Begins n.Unary t (One n.Base ∷ Greedy n.NewRest pattern.NewMark ∷ Close ∷ [])
unary-new t h = begins n.Unary of_unary those_unary t (pattern.Keyword word.New) (One n.Base ∷ Greedy n.NewRest pattern.NewMark ∷ Close ∷ []) (inr (inl refl)) h

pub unary-delete : (t : Terminal) → admits (pattern.Keyword word.Delete) t ≡ true → Begins n.Unary t (One n.Unary ∷ Close ∷ [])
unary-delete t h = begins n.Unary of_unary those_unary t (pattern.Keyword word.Delete) (One n.Unary ∷ Close ∷ []) (inr (inr (inl refl))) h

pub unary-scope : (t : Terminal) → admits (pattern.Punctuator mark.Scope) t ≡ true → Begins n.Unary t (One n.GlobalScope ∷ [])
unary-scope t h = begins n.Unary of_unary those_unary t (pattern.Punctuator mark.Scope) (One n.GlobalScope ∷ []) (inr (inr (inr (inl refl)))) h

pub unary-paren : (t : Terminal) → admits (pattern.Punctuator mark.OpenParen) t ≡ true → Begins n.Unary t (One n.Expression ∷ Token (pattern.Punctuator mark.CloseParen) ∷ Close ∷ Maybe n.Postfix ∷ [])
unary-paren t h = begins n.Unary of_unary those_unary t (pattern.Punctuator mark.OpenParen) (One n.Expression ∷ Token (pattern.Punctuator mark.CloseParen) ∷ Close ∷ Maybe n.Postfix ∷ []) (inr (inr (inr (inr (inl refl))))) h

pub unary-corun : (t : Terminal) → admits (pattern.Spelled known.Corun) t ≡ true → Begins n.Unary t (Token (pattern.Punctuator mark.Scope) ∷ One n.RunName ∷ Maybe n.Postfix ∷ [])
unary-corun t h = begins n.Unary of_unary those_unary t (pattern.Spelled known.Corun) (Token (pattern.Punctuator mark.Scope) ∷ One n.RunName ∷ Maybe n.Postfix ∷ []) (inr (inr (inr (inr (inr (inl refl)))))) h

pub unary-static_cast : (t : Terminal) → admits (pattern.Keyword word.StaticCast) t ≡ true → Begins n.Unary t (Token (pattern.Punctuator mark.Less) ∷ One n.TypeId ∷ Token (pattern.Punctuator mark.Greater) ∷ One n.Condition ∷ Maybe n.Postfix ∷ [])
unary-static_cast t h = begins n.Unary of_unary those_unary t (pattern.Keyword word.StaticCast) (Token (pattern.Punctuator mark.Less) ∷ One n.TypeId ∷ Token (pattern.Punctuator mark.Greater) ∷ One n.Condition ∷ Maybe n.Postfix ∷ []) (inr (inr (inr (inr (inr (inr (inl refl))))))) h

pub unary-literal : (t : Terminal) → admits pattern.Literal t ≡ true → Begins n.Unary t (Maybe n.Postfix ∷ [])
unary-literal t h = begins n.Unary of_unary those_unary t pattern.Literal (Maybe n.Postfix ∷ []) (inr (inr (inr (inr (inr (inr (inr (inl refl)))))))) h

pub unary-built_in_type : (t : Terminal) → admits pattern.BuiltinType t ≡ true → Begins n.Unary t (One n.Built ∷ Maybe n.Postfix ∷ [])
unary-built_in_type t h = begins n.Unary of_unary those_unary t pattern.BuiltinType (One n.Built ∷ Maybe n.Postfix ∷ []) (inr (inr (inr (inr (inr (inr (inr (inr (inl refl))))))))) h

pub unary-std : (t : Terminal) → admits (pattern.Spelled known.Std) t ≡ true → Begins n.Unary t (Token (pattern.Punctuator mark.Scope) ∷ One n.LibraryOperand ∷ Maybe n.Postfix ∷ [])
unary-std t h = begins n.Unary of_unary those_unary t (pattern.Spelled known.Std) (Token (pattern.Punctuator mark.Scope) ∷ One n.LibraryOperand ∷ Maybe n.Postfix ∷ []) (inr (inr (inr (inr (inr (inr (inr (inr (inr (inl refl)))))))))) h

pub unary-class_name : (t : Terminal) → admits pattern.ClassName t ≡ true → Begins n.Unary t (One n.ClassOperand ∷ Maybe n.Postfix ∷ [])
unary-class_name t h = begins n.Unary of_unary those_unary t pattern.ClassName (One n.ClassOperand ∷ Maybe n.Postfix ∷ []) (inr (inr (inr (inr (inr (inr (inr (inr (inr (inr (inl refl))))))))))) h

pub unary-other_name : (t : Terminal) → admits pattern.OtherName t ≡ true → Begins n.Unary t (Maybe n.Scope ∷ Maybe n.Postfix ∷ [])
unary-other_name t h = begins n.Unary of_unary those_unary t pattern.OtherName (Maybe n.Scope ∷ Maybe n.Postfix ∷ []) (inr (inr (inr (inr (inr (inr (inr (inr (inr (inr (inr (inl refl)))))))))))) h

-- ---- GlobalScope

abbrev pub of_global_scope : List Rule
of_global_scope =
    rule n.GlobalScope (pattern.Keyword word.New) (One n.Base ∷ Greedy n.NewRest pattern.NewMark ∷ Close ∷ []) ∷
    rule n.GlobalScope (pattern.Keyword word.Delete) (One n.Unary ∷ Close ∷ []) ∷
    rule n.GlobalScope (pattern.Keyword word.Operator) (Token pattern.Allocation ∷ One n.GivenArguments ∷ Maybe n.Postfix ∷ []) ∷ []

pub those_global_scope : those n.GlobalScope rules ≡ of_global_scope
unfolding in_file in_class in_type in_statement in_head in_local in_value in_argument in_unary in_operand from_file from_class from_type from_statement from_head from_local from_value from_argument from_unary
those_global_scope = refl

pub global_scope-new : (t : Terminal) → admits (pattern.Keyword word.New) t ≡ true → Begins n.GlobalScope t (One n.Base ∷ Greedy n.NewRest pattern.NewMark ∷ Close ∷ [])
global_scope-new t h = begins n.GlobalScope of_global_scope those_global_scope t (pattern.Keyword word.New) (One n.Base ∷ Greedy n.NewRest pattern.NewMark ∷ Close ∷ []) (inl refl) h

pub global_scope-delete : (t : Terminal) → admits (pattern.Keyword word.Delete) t ≡ true → Begins n.GlobalScope t (One n.Unary ∷ Close ∷ [])
global_scope-delete t h = begins n.GlobalScope of_global_scope those_global_scope t (pattern.Keyword word.Delete) (One n.Unary ∷ Close ∷ []) (inr (inl refl)) h

pub global_scope-operator : (t : Terminal) → admits (pattern.Keyword word.Operator) t ≡ true → Begins n.GlobalScope t (Token pattern.Allocation ∷ One n.GivenArguments ∷ Maybe n.Postfix ∷ [])
global_scope-operator t h = begins n.GlobalScope of_global_scope those_global_scope t (pattern.Keyword word.Operator) (Token pattern.Allocation ∷ One n.GivenArguments ∷ Maybe n.Postfix ∷ []) (inr (inr (inl refl))) h

-- ---- GivenArguments

abbrev pub of_given_arguments : List Rule
of_given_arguments =
    rule n.GivenArguments (pattern.Punctuator mark.OpenParen) (One n.Arguments ∷ Token (pattern.Punctuator mark.CloseParen) ∷ Close ∷ []) ∷ []

pub those_given_arguments : those n.GivenArguments rules ≡ of_given_arguments
unfolding in_file in_class in_type in_statement in_head in_local in_value in_argument in_unary in_operand from_file from_class from_type from_statement from_head from_local from_value from_argument from_unary
those_given_arguments = refl

pub given_arguments-paren : (t : Terminal) → admits (pattern.Punctuator mark.OpenParen) t ≡ true → Begins n.GivenArguments t (One n.Arguments ∷ Token (pattern.Punctuator mark.CloseParen) ∷ Close ∷ [])
given_arguments-paren t h = begins n.GivenArguments of_given_arguments those_given_arguments t (pattern.Punctuator mark.OpenParen) (One n.Arguments ∷ Token (pattern.Punctuator mark.CloseParen) ∷ Close ∷ []) (inl refl) h

-- ---- NewRest

abbrev pub of_new_rest : List Rule
of_new_rest =
    rule n.NewRest (pattern.Punctuator mark.Star) (Greedy n.NewRest pattern.NewMark ∷ Close ∷ []) ∷
    rule n.NewRest (pattern.Punctuator mark.OpenParen) (Maybe n.Arguments ∷ Token (pattern.Punctuator mark.CloseParen) ∷ Close ∷ []) ∷
    rule n.NewRest (pattern.Punctuator mark.OpenBrace) (Maybe n.Arguments ∷ Token (pattern.Punctuator mark.CloseBrace) ∷ Close ∷ []) ∷ []

pub those_new_rest : those n.NewRest rules ≡ of_new_rest
unfolding in_file in_class in_type in_statement in_head in_local in_value in_argument in_unary in_operand from_file from_class from_type from_statement from_head from_local from_value from_argument from_unary
those_new_rest = refl

pub new_rest-star : (t : Terminal) → admits (pattern.Punctuator mark.Star) t ≡ true → Begins n.NewRest t (Greedy n.NewRest pattern.NewMark ∷ Close ∷ [])
new_rest-star t h = begins n.NewRest of_new_rest those_new_rest t (pattern.Punctuator mark.Star) (Greedy n.NewRest pattern.NewMark ∷ Close ∷ []) (inl refl) h

pub new_rest-paren : (t : Terminal) → admits (pattern.Punctuator mark.OpenParen) t ≡ true → Begins n.NewRest t (Maybe n.Arguments ∷ Token (pattern.Punctuator mark.CloseParen) ∷ Close ∷ [])
new_rest-paren t h = begins n.NewRest of_new_rest those_new_rest t (pattern.Punctuator mark.OpenParen) (Maybe n.Arguments ∷ Token (pattern.Punctuator mark.CloseParen) ∷ Close ∷ []) (inr (inl refl)) h

pub new_rest-brace : (t : Terminal) → admits (pattern.Punctuator mark.OpenBrace) t ≡ true → Begins n.NewRest t (Maybe n.Arguments ∷ Token (pattern.Punctuator mark.CloseBrace) ∷ Close ∷ [])
new_rest-brace t h = begins n.NewRest of_new_rest those_new_rest t (pattern.Punctuator mark.OpenBrace) (Maybe n.Arguments ∷ Token (pattern.Punctuator mark.CloseBrace) ∷ Close ∷ []) (inr (inr (inl refl))) h

-- ---- RunName

abbrev pub of_run_name : List Rule
of_run_name =
    rule n.RunName (pattern.Spelled known.Text) (One n.TextArgument ∷ []) ∷
    rule n.RunName pattern.RunFunction ([]) ∷ []

pub those_run_name : those n.RunName rules ≡ of_run_name
unfolding in_file in_class in_type in_statement in_head in_local in_value in_argument in_unary in_operand from_file from_class from_type from_statement from_head from_local from_value from_argument from_unary
those_run_name = refl

pub run_name-text : (t : Terminal) → admits (pattern.Spelled known.Text) t ≡ true → Begins n.RunName t (One n.TextArgument ∷ [])
run_name-text t h = begins n.RunName of_run_name those_run_name t (pattern.Spelled known.Text) (One n.TextArgument ∷ []) (inl refl) h

pub run_name-run_function : (t : Terminal) → admits pattern.RunFunction t ≡ true → Begins n.RunName t ([])
run_name-run_function t h = begins n.RunName of_run_name those_run_name t pattern.RunFunction ([]) (inr (inl refl)) h

-- ---- TextArgument

abbrev pub of_text_argument : List Rule
of_text_argument =
    rule n.TextArgument (pattern.Punctuator mark.OpenParen) (Token pattern.Text ∷ Token (pattern.Punctuator mark.CloseParen) ∷ Close ∷ []) ∷ []

pub those_text_argument : those n.TextArgument rules ≡ of_text_argument
unfolding in_file in_class in_type in_statement in_head in_local in_value in_argument in_unary in_operand from_file from_class from_type from_statement from_head from_local from_value from_argument from_unary
those_text_argument = refl

pub text_argument-paren : (t : Terminal) → admits (pattern.Punctuator mark.OpenParen) t ≡ true → Begins n.TextArgument t (Token pattern.Text ∷ Token (pattern.Punctuator mark.CloseParen) ∷ Close ∷ [])
text_argument-paren t h = begins n.TextArgument of_text_argument those_text_argument t (pattern.Punctuator mark.OpenParen) (Token pattern.Text ∷ Token (pattern.Punctuator mark.CloseParen) ∷ Close ∷ []) (inl refl) h

-- ---- Built

abbrev pub of_built : List Rule
of_built =
    rule n.Built (pattern.Punctuator mark.OpenParen) (Maybe n.Arguments ∷ Token (pattern.Punctuator mark.CloseParen) ∷ Close ∷ []) ∷
    rule n.Built (pattern.Punctuator mark.OpenBrace) (Maybe n.Arguments ∷ Token (pattern.Punctuator mark.CloseBrace) ∷ Close ∷ []) ∷ []

pub those_built : those n.Built rules ≡ of_built
unfolding in_file in_class in_type in_statement in_head in_local in_value in_argument in_unary in_operand from_file from_class from_type from_statement from_head from_local from_value from_argument from_unary
those_built = refl

pub built-paren : (t : Terminal) → admits (pattern.Punctuator mark.OpenParen) t ≡ true → Begins n.Built t (Maybe n.Arguments ∷ Token (pattern.Punctuator mark.CloseParen) ∷ Close ∷ [])
built-paren t h = begins n.Built of_built those_built t (pattern.Punctuator mark.OpenParen) (Maybe n.Arguments ∷ Token (pattern.Punctuator mark.CloseParen) ∷ Close ∷ []) (inl refl) h

pub built-brace : (t : Terminal) → admits (pattern.Punctuator mark.OpenBrace) t ≡ true → Begins n.Built t (Maybe n.Arguments ∷ Token (pattern.Punctuator mark.CloseBrace) ∷ Close ∷ [])
built-brace t h = begins n.Built of_built those_built t (pattern.Punctuator mark.OpenBrace) (Maybe n.Arguments ∷ Token (pattern.Punctuator mark.CloseBrace) ∷ Close ∷ []) (inr (inl refl)) h

-- ---- LibraryOperand

abbrev pub of_library_operand : List Rule
of_library_operand =
    rule n.LibraryOperand pattern.LibraryFunction ([]) ∷
    rule n.LibraryOperand pattern.LibraryObject (One n.Built ∷ []) ∷
    rule n.LibraryOperand (pattern.Spelled known.Atomic) (Token (pattern.Punctuator mark.Less) ∷ One n.AtomicArgument ∷ One n.Built ∷ []) ∷
    rule n.LibraryOperand (pattern.Spelled known.CoroutineHandle) (Token (pattern.Punctuator mark.Less) ∷ Maybe n.ClassPath ∷ Token (pattern.Punctuator mark.Greater) ∷ One n.HandleOperand ∷ []) ∷ []

pub those_library_operand : those n.LibraryOperand rules ≡ of_library_operand
unfolding in_file in_class in_type in_statement in_head in_local in_value in_argument in_unary in_operand from_file from_class from_type from_statement from_head from_local from_value from_argument from_unary
those_library_operand = refl

pub library_operand-library_function : (t : Terminal) → admits pattern.LibraryFunction t ≡ true → Begins n.LibraryOperand t ([])
library_operand-library_function t h = begins n.LibraryOperand of_library_operand those_library_operand t pattern.LibraryFunction ([]) (inl refl) h

pub library_operand-library_object : (t : Terminal) → admits pattern.LibraryObject t ≡ true → Begins n.LibraryOperand t (One n.Built ∷ [])
library_operand-library_object t h = begins n.LibraryOperand of_library_operand those_library_operand t pattern.LibraryObject (One n.Built ∷ []) (inr (inl refl)) h

pub library_operand-atomic : (t : Terminal) → admits (pattern.Spelled known.Atomic) t ≡ true → Begins n.LibraryOperand t (Token (pattern.Punctuator mark.Less) ∷ One n.AtomicArgument ∷ One n.Built ∷ [])
library_operand-atomic t h = begins n.LibraryOperand of_library_operand those_library_operand t (pattern.Spelled known.Atomic) (Token (pattern.Punctuator mark.Less) ∷ One n.AtomicArgument ∷ One n.Built ∷ []) (inr (inr (inl refl))) h

pub library_operand-coroutine_handle : (t : Terminal) → admits (pattern.Spelled known.CoroutineHandle) t ≡ true → Begins n.LibraryOperand t (Token (pattern.Punctuator mark.Less) ∷ Maybe n.ClassPath ∷ Token (pattern.Punctuator mark.Greater) ∷ One n.HandleOperand ∷ [])
library_operand-coroutine_handle t h = begins n.LibraryOperand of_library_operand those_library_operand t (pattern.Spelled known.CoroutineHandle) (Token (pattern.Punctuator mark.Less) ∷ Maybe n.ClassPath ∷ Token (pattern.Punctuator mark.Greater) ∷ One n.HandleOperand ∷ []) (inr (inr (inr (inl refl)))) h

-- ---- HandleOperand

abbrev pub of_handle_operand : List Rule
of_handle_operand =
    rule n.HandleOperand (pattern.Punctuator mark.Scope) (Token pattern.HandleFunction ∷ []) ∷
    rule n.HandleOperand (pattern.Punctuator mark.OpenParen) (Maybe n.Arguments ∷ Token (pattern.Punctuator mark.CloseParen) ∷ Close ∷ []) ∷
    rule n.HandleOperand (pattern.Punctuator mark.OpenBrace) (Maybe n.Arguments ∷ Token (pattern.Punctuator mark.CloseBrace) ∷ Close ∷ []) ∷ []

pub those_handle_operand : those n.HandleOperand rules ≡ of_handle_operand
unfolding in_file in_class in_type in_statement in_head in_local in_value in_argument in_unary in_operand from_file from_class from_type from_statement from_head from_local from_value from_argument from_unary
those_handle_operand = refl

pub handle_operand-scope : (t : Terminal) → admits (pattern.Punctuator mark.Scope) t ≡ true → Begins n.HandleOperand t (Token pattern.HandleFunction ∷ [])
handle_operand-scope t h = begins n.HandleOperand of_handle_operand those_handle_operand t (pattern.Punctuator mark.Scope) (Token pattern.HandleFunction ∷ []) (inl refl) h

pub handle_operand-paren : (t : Terminal) → admits (pattern.Punctuator mark.OpenParen) t ≡ true → Begins n.HandleOperand t (Maybe n.Arguments ∷ Token (pattern.Punctuator mark.CloseParen) ∷ Close ∷ [])
handle_operand-paren t h = begins n.HandleOperand of_handle_operand those_handle_operand t (pattern.Punctuator mark.OpenParen) (Maybe n.Arguments ∷ Token (pattern.Punctuator mark.CloseParen) ∷ Close ∷ []) (inr (inl refl)) h

pub handle_operand-brace : (t : Terminal) → admits (pattern.Punctuator mark.OpenBrace) t ≡ true → Begins n.HandleOperand t (Maybe n.Arguments ∷ Token (pattern.Punctuator mark.CloseBrace) ∷ Close ∷ [])
handle_operand-brace t h = begins n.HandleOperand of_handle_operand those_handle_operand t (pattern.Punctuator mark.OpenBrace) (Maybe n.Arguments ∷ Token (pattern.Punctuator mark.CloseBrace) ∷ Close ∷ []) (inr (inr (inl refl))) h

-- ---- ClassOperand

abbrev pub of_class_operand : List Rule
of_class_operand =
    rule n.ClassOperand (pattern.Punctuator mark.Scope) (One n.Path ∷ []) ∷
    rule n.ClassOperand (pattern.Punctuator mark.OpenParen) (Maybe n.Arguments ∷ Token (pattern.Punctuator mark.CloseParen) ∷ Close ∷ []) ∷
    rule n.ClassOperand (pattern.Punctuator mark.OpenBrace) (Maybe n.Arguments ∷ Token (pattern.Punctuator mark.CloseBrace) ∷ Close ∷ []) ∷ []

pub those_class_operand : those n.ClassOperand rules ≡ of_class_operand
unfolding in_file in_class in_type in_statement in_head in_local in_value in_argument in_unary in_operand from_file from_class from_type from_statement from_head from_local from_value from_argument from_unary
those_class_operand = refl

pub class_operand-scope : (t : Terminal) → admits (pattern.Punctuator mark.Scope) t ≡ true → Begins n.ClassOperand t (One n.Path ∷ [])
class_operand-scope t h = begins n.ClassOperand of_class_operand those_class_operand t (pattern.Punctuator mark.Scope) (One n.Path ∷ []) (inl refl) h

pub class_operand-paren : (t : Terminal) → admits (pattern.Punctuator mark.OpenParen) t ≡ true → Begins n.ClassOperand t (Maybe n.Arguments ∷ Token (pattern.Punctuator mark.CloseParen) ∷ Close ∷ [])
class_operand-paren t h = begins n.ClassOperand of_class_operand those_class_operand t (pattern.Punctuator mark.OpenParen) (Maybe n.Arguments ∷ Token (pattern.Punctuator mark.CloseParen) ∷ Close ∷ []) (inr (inl refl)) h

pub class_operand-brace : (t : Terminal) → admits (pattern.Punctuator mark.OpenBrace) t ≡ true → Begins n.ClassOperand t (Maybe n.Arguments ∷ Token (pattern.Punctuator mark.CloseBrace) ∷ Close ∷ [])
class_operand-brace t h = begins n.ClassOperand of_class_operand those_class_operand t (pattern.Punctuator mark.OpenBrace) (Maybe n.Arguments ∷ Token (pattern.Punctuator mark.CloseBrace) ∷ Close ∷ []) (inr (inr (inl refl))) h

-- ---- Scope

abbrev pub of_scope : List Rule
of_scope =
    rule n.Scope (pattern.Punctuator mark.Scope) (One n.Path ∷ []) ∷ []

pub those_scope : those n.Scope rules ≡ of_scope
unfolding in_file in_class in_type in_statement in_head in_local in_value in_argument in_unary in_operand from_file from_class from_type from_statement from_head from_local from_value from_argument from_unary
those_scope = refl

pub scope-scope : (t : Terminal) → admits (pattern.Punctuator mark.Scope) t ≡ true → Begins n.Scope t (One n.Path ∷ [])
scope-scope t h = begins n.Scope of_scope those_scope t (pattern.Punctuator mark.Scope) (One n.Path ∷ []) (inl refl) h

-- ---- Path

abbrev pub of_path : List Rule
of_path =
    rule n.Path pattern.ClassName (One n.ClassOperand ∷ []) ∷
    rule n.Path pattern.OtherName (Maybe n.Scope ∷ []) ∷ []

pub those_path : those n.Path rules ≡ of_path
unfolding in_file in_class in_type in_statement in_head in_local in_value in_argument in_unary in_operand from_file from_class from_type from_statement from_head from_local from_value from_argument from_unary
those_path = refl

pub path-class_name : (t : Terminal) → admits pattern.ClassName t ≡ true → Begins n.Path t (One n.ClassOperand ∷ [])
path-class_name t h = begins n.Path of_path those_path t pattern.ClassName (One n.ClassOperand ∷ []) (inl refl) h

pub path-other_name : (t : Terminal) → admits pattern.OtherName t ≡ true → Begins n.Path t (Maybe n.Scope ∷ [])
path-other_name t h = begins n.Path of_path those_path t pattern.OtherName (Maybe n.Scope ∷ []) (inr (inl refl)) h

-- ---- Postfix

abbrev pub of_postfix : List Rule
of_postfix =
    rule n.Postfix pattern.Access (Token pattern.Name ∷ Maybe n.Postfix ∷ Close ∷ []) ∷
    rule n.Postfix (pattern.Punctuator mark.OpenParen) (Maybe n.Arguments ∷ Token (pattern.Punctuator mark.CloseParen) ∷ Maybe n.Postfix ∷ Close ∷ []) ∷
    rule n.Postfix pattern.Increment (Maybe n.Postfix ∷ Close ∷ []) ∷ []

pub those_postfix : those n.Postfix rules ≡ of_postfix
unfolding in_file in_class in_type in_statement in_head in_local in_value in_argument in_unary in_operand from_file from_class from_type from_statement from_head from_local from_value from_argument from_unary
those_postfix = refl

pub postfix-access : (t : Terminal) → admits pattern.Access t ≡ true → Begins n.Postfix t (Token pattern.Name ∷ Maybe n.Postfix ∷ Close ∷ [])
postfix-access t h = begins n.Postfix of_postfix those_postfix t pattern.Access (Token pattern.Name ∷ Maybe n.Postfix ∷ Close ∷ []) (inl refl) h

pub postfix-paren : (t : Terminal) → admits (pattern.Punctuator mark.OpenParen) t ≡ true → Begins n.Postfix t (Maybe n.Arguments ∷ Token (pattern.Punctuator mark.CloseParen) ∷ Maybe n.Postfix ∷ Close ∷ [])
postfix-paren t h = begins n.Postfix of_postfix those_postfix t (pattern.Punctuator mark.OpenParen) (Maybe n.Arguments ∷ Token (pattern.Punctuator mark.CloseParen) ∷ Maybe n.Postfix ∷ Close ∷ []) (inr (inl refl)) h

pub postfix-increment : (t : Terminal) → admits pattern.Increment t ≡ true → Begins n.Postfix t (Maybe n.Postfix ∷ Close ∷ [])
postfix-increment t h = begins n.Postfix of_postfix those_postfix t pattern.Increment (Maybe n.Postfix ∷ Close ∷ []) (inr (inr (inl refl))) h

-- ---- Operators

abbrev pub of_operators : List Rule
of_operators =
    rule n.Operators pattern.BinaryOperator (One n.Unary ∷ Maybe n.Operators ∷ Close ∷ []) ∷ []

pub those_operators : those n.Operators rules ≡ of_operators
unfolding in_file in_class in_type in_statement in_head in_local in_value in_argument in_unary in_operand from_file from_class from_type from_statement from_head from_local from_value from_argument from_unary
those_operators = refl

pub operators-binary_operator : (t : Terminal) → admits pattern.BinaryOperator t ≡ true → Begins n.Operators t (One n.Unary ∷ Maybe n.Operators ∷ Close ∷ [])
operators-binary_operator t h = begins n.Operators of_operators those_operators t pattern.BinaryOperator (One n.Unary ∷ Maybe n.Operators ∷ Close ∷ []) (inl refl) h

-- ---- ExpressionRest

abbrev pub of_expression_rest : List Rule
of_expression_rest =
    rule n.ExpressionRest pattern.Assignment (One n.Expression ∷ Close ∷ []) ∷
    rule n.ExpressionRest (pattern.Punctuator mark.Question) (One n.Expression ∷ Token (pattern.Punctuator mark.Colon) ∷ One n.Expression ∷ Close ∷ []) ∷ []

pub those_expression_rest : those n.ExpressionRest rules ≡ of_expression_rest
unfolding in_file in_class in_type in_statement in_head in_local in_value in_argument in_unary in_operand from_file from_class from_type from_statement from_head from_local from_value from_argument from_unary
those_expression_rest = refl

pub expression_rest-assignment : (t : Terminal) → admits pattern.Assignment t ≡ true → Begins n.ExpressionRest t (One n.Expression ∷ Close ∷ [])
expression_rest-assignment t h = begins n.ExpressionRest of_expression_rest those_expression_rest t pattern.Assignment (One n.Expression ∷ Close ∷ []) (inl refl) h

pub expression_rest-question : (t : Terminal) → admits (pattern.Punctuator mark.Question) t ≡ true → Begins n.ExpressionRest t (One n.Expression ∷ Token (pattern.Punctuator mark.Colon) ∷ One n.Expression ∷ Close ∷ [])
expression_rest-question t h = begins n.ExpressionRest of_expression_rest those_expression_rest t (pattern.Punctuator mark.Question) (One n.Expression ∷ Token (pattern.Punctuator mark.Colon) ∷ One n.Expression ∷ Close ∷ []) (inr (inl refl)) h

-- ---- Condition

abbrev pub of_condition : List Rule
of_condition =
    rule n.Condition (pattern.Punctuator mark.OpenParen) (One n.Expression ∷ Token (pattern.Punctuator mark.CloseParen) ∷ Close ∷ []) ∷ []

pub those_condition : those n.Condition rules ≡ of_condition
unfolding in_file in_class in_type in_statement in_head in_local in_value in_argument in_unary in_operand from_file from_class from_type from_statement from_head from_local from_value from_argument from_unary
those_condition = refl

pub condition-paren : (t : Terminal) → admits (pattern.Punctuator mark.OpenParen) t ≡ true → Begins n.Condition t (One n.Expression ∷ Token (pattern.Punctuator mark.CloseParen) ∷ Close ∷ [])
condition-paren t h = begins n.Condition of_condition those_condition t (pattern.Punctuator mark.OpenParen) (One n.Expression ∷ Token (pattern.Punctuator mark.CloseParen) ∷ Close ∷ []) (inl refl) h

-- ---- NextArgument

abbrev pub of_next_argument : List Rule
of_next_argument =
    rule n.NextArgument (pattern.Punctuator mark.Comma) (One n.Expression ∷ []) ∷ []

pub those_next_argument : those n.NextArgument rules ≡ of_next_argument
unfolding in_file in_class in_type in_statement in_head in_local in_value in_argument in_unary in_operand from_file from_class from_type from_statement from_head from_local from_value from_argument from_unary
those_next_argument = refl

pub next_argument-comma : (t : Terminal) → admits (pattern.Punctuator mark.Comma) t ≡ true → Begins n.NextArgument t (One n.Expression ∷ [])
next_argument-comma t h = begins n.NextArgument of_next_argument those_next_argument t (pattern.Punctuator mark.Comma) (One n.Expression ∷ []) (inl refl) h
