-- The rules of statements.
use Rattle.std.proofs.Common.{◌≡◌, true, List, [], ◌∷◌, refl, inl, inr}
use Rattle.co_lex.specs.declared.token.Mark.TheVariants as mark
use Rattle.co_lex.specs.declared.token.Word.TheVariants as word
use Rattle.co_rules.specs.declared.symbol.Known.TheVariants as known
use Rattle.co_rules.specs.declared.symbol.Nonterminal.TheVariants as n
use Rattle.co_rules.specs.declared.symbol.Pattern.TheVariants as pattern
use Rattle.co_rules.specs.declared.symbol.Symbol.TheVariants.{Token, One, Maybe, Many, Greedy, Close}
use Rattle.co_rules.specs.declared.symbol.Terminal.{Terminal}
use Rattle.co_rules.specs.Derives.{Begins}
use Rattle.co_rules.specs.Pattern.{admits}
use Rattle.co_rules.specs.Rule.{Rule, rule, rules, in_file, in_class, in_type, in_statement, in_head, in_local, in_value, in_argument, in_unary, in_operand, from_file, from_class, from_type, from_statement, from_head, from_local, from_value, from_argument, from_unary}
use Rattle.co_covers.proofs.Those.{those, begins}

-- ---- Block

abbrev pub of_block : List Rule
of_block =
    rule n.Block (pattern.Punctuator mark.OpenBrace) (Many n.Statement ∷ Token (pattern.Punctuator mark.CloseBrace) ∷ Close ∷ []) ∷ []

pub those_block : those n.Block rules ≡ of_block
unfolding in_file in_class in_type in_statement in_head in_local in_value in_argument in_unary in_operand from_file from_class from_type from_statement from_head from_local from_value from_argument from_unary
those_block = refl

pub block-brace : (t : Terminal) → admits (pattern.Punctuator mark.OpenBrace) t ≡ true → Begins n.Block t (Many n.Statement ∷ Token (pattern.Punctuator mark.CloseBrace) ∷ Close ∷ [])
block-brace t h = begins n.Block of_block those_block t (pattern.Punctuator mark.OpenBrace) (Many n.Statement ∷ Token (pattern.Punctuator mark.CloseBrace) ∷ Close ∷ []) (inl refl) h

-- ---- Statement

abbrev pub of_statement : List Rule
of_statement =
    rule n.Statement (pattern.Punctuator mark.OpenBrace) (Many n.Statement ∷ Token (pattern.Punctuator mark.CloseBrace) ∷ Close ∷ []) ∷
    rule n.Statement (pattern.Punctuator mark.Semicolon) ([]) ∷
    rule n.Statement (pattern.Keyword word.Try) (One n.Block ∷ One n.Catch ∷ Many n.Catch ∷ []) ∷
    rule n.Statement (pattern.Keyword word.If) (One n.Condition ∷ One n.Statement ∷ Greedy n.Else (pattern.Keyword word.Else) ∷ Close ∷ []) ∷
    rule n.Statement (pattern.Keyword word.While) (One n.Condition ∷ One n.Statement ∷ Close ∷ []) ∷
    rule n.Statement (pattern.Keyword word.For) (One n.ForHead ∷ One n.Statement ∷ Close ∷ []) ∷
    rule n.Statement (pattern.Keyword word.Break) (Token (pattern.Punctuator mark.Semicolon) ∷ []) ∷
    rule n.Statement (pattern.Keyword word.Continue) (Token (pattern.Punctuator mark.Semicolon) ∷ []) ∷
    rule n.Statement (pattern.Keyword word.Return) (Maybe n.Value ∷ Token (pattern.Punctuator mark.Semicolon) ∷ []) ∷
    rule n.Statement (pattern.Keyword word.CoReturn) (Maybe n.Expression ∷ Token (pattern.Punctuator mark.Semicolon) ∷ []) ∷
    rule n.Statement (pattern.Keyword word.CoYield) (One n.Expression ∷ Close ∷ Token (pattern.Punctuator mark.Semicolon) ∷ []) ∷
    rule n.Statement (pattern.Keyword word.Throw) (Maybe n.Expression ∷ Close ∷ Token (pattern.Punctuator mark.Semicolon) ∷ []) ∷
    rule n.Statement pattern.UnaryOperator (One n.Unary ∷ Close ∷ Maybe n.Operators ∷ Maybe n.ExpressionRest ∷ Token (pattern.Punctuator mark.Semicolon) ∷ []) ∷
    rule n.Statement (pattern.Keyword word.New) (One n.Base ∷ Greedy n.NewRest pattern.NewMark ∷ Close ∷ Maybe n.Operators ∷ Maybe n.ExpressionRest ∷ Token (pattern.Punctuator mark.Semicolon) ∷ []) ∷
    rule n.Statement (pattern.Keyword word.Delete) (One n.Unary ∷ Close ∷ Maybe n.Operators ∷ Maybe n.ExpressionRest ∷ Token (pattern.Punctuator mark.Semicolon) ∷ []) ∷
    rule n.Statement (pattern.Punctuator mark.Scope) (One n.GlobalScope ∷ Maybe n.Operators ∷ Maybe n.ExpressionRest ∷ Token (pattern.Punctuator mark.Semicolon) ∷ []) ∷
    rule n.Statement (pattern.Punctuator mark.OpenParen) (One n.Expression ∷ Token (pattern.Punctuator mark.CloseParen) ∷ Close ∷ Maybe n.Postfix ∷ Maybe n.Operators ∷ Maybe n.ExpressionRest ∷ Token (pattern.Punctuator mark.Semicolon) ∷ []) ∷
    rule n.Statement (pattern.Spelled known.Corun) (Token (pattern.Punctuator mark.Scope) ∷ One n.RunName ∷ Maybe n.Postfix ∷ Maybe n.Operators ∷ Maybe n.ExpressionRest ∷ Token (pattern.Punctuator mark.Semicolon) ∷ []) ∷
    rule n.Statement (pattern.Keyword word.StaticCast) (Token (pattern.Punctuator mark.Less) ∷ One n.TypeId ∷ Token (pattern.Punctuator mark.Greater) ∷ One n.Condition ∷ Maybe n.Postfix ∷ Maybe n.Operators ∷ Maybe n.ExpressionRest ∷ Token (pattern.Punctuator mark.Semicolon) ∷ []) ∷
    rule n.Statement pattern.Literal (Maybe n.Postfix ∷ Maybe n.Operators ∷ Maybe n.ExpressionRest ∷ Token (pattern.Punctuator mark.Semicolon) ∷ []) ∷
    rule n.Statement (pattern.Keyword word.Const) (One n.Base ∷ Maybe n.TypeRest ∷ Token pattern.Name ∷ Maybe n.LocalRest ∷ Token (pattern.Punctuator mark.Semicolon) ∷ []) ∷
    rule n.Statement (pattern.Keyword word.Auto) (Maybe n.Reference ∷ Token pattern.Name ∷ Maybe n.LocalRest ∷ Token (pattern.Punctuator mark.Semicolon) ∷ []) ∷
    rule n.Statement pattern.BuiltinType (One n.AfterBuiltin ∷ Token (pattern.Punctuator mark.Semicolon) ∷ []) ∷
    rule n.Statement (pattern.Spelled known.Std) (Token (pattern.Punctuator mark.Scope) ∷ One n.LibraryStatement ∷ Token (pattern.Punctuator mark.Semicolon) ∷ []) ∷
    rule n.Statement pattern.ClassName (One n.AfterClass ∷ Token (pattern.Punctuator mark.Semicolon) ∷ []) ∷
    rule n.Statement pattern.OtherName (Maybe n.AfterOther ∷ Token (pattern.Punctuator mark.Semicolon) ∷ []) ∷ []

pub those_statement : those n.Statement rules ≡ of_statement
unfolding in_file in_class in_type in_statement in_head in_local in_value in_argument in_unary in_operand from_file from_class from_type from_statement from_head from_local from_value from_argument from_unary
those_statement = refl

pub statement-brace : (t : Terminal) → admits (pattern.Punctuator mark.OpenBrace) t ≡ true → Begins n.Statement t (Many n.Statement ∷ Token (pattern.Punctuator mark.CloseBrace) ∷ Close ∷ [])
statement-brace t h = begins n.Statement of_statement those_statement t (pattern.Punctuator mark.OpenBrace) (Many n.Statement ∷ Token (pattern.Punctuator mark.CloseBrace) ∷ Close ∷ []) (inl refl) h

pub statement-semicolon : (t : Terminal) → admits (pattern.Punctuator mark.Semicolon) t ≡ true → Begins n.Statement t ([])
statement-semicolon t h = begins n.Statement of_statement those_statement t (pattern.Punctuator mark.Semicolon) ([]) (inr (inl refl)) h

pub statement-try : (t : Terminal) → admits (pattern.Keyword word.Try) t ≡ true → Begins n.Statement t (One n.Block ∷ One n.Catch ∷ Many n.Catch ∷ [])
statement-try t h = begins n.Statement of_statement those_statement t (pattern.Keyword word.Try) (One n.Block ∷ One n.Catch ∷ Many n.Catch ∷ []) (inr (inr (inl refl))) h

pub statement-if : (t : Terminal) → admits (pattern.Keyword word.If) t ≡ true → Begins n.Statement t (One n.Condition ∷ One n.Statement ∷ Greedy n.Else (pattern.Keyword word.Else) ∷ Close ∷ [])
statement-if t h = begins n.Statement of_statement those_statement t (pattern.Keyword word.If) (One n.Condition ∷ One n.Statement ∷ Greedy n.Else (pattern.Keyword word.Else) ∷ Close ∷ []) (inr (inr (inr (inl refl)))) h

pub statement-while : (t : Terminal) → admits (pattern.Keyword word.While) t ≡ true → Begins n.Statement t (One n.Condition ∷ One n.Statement ∷ Close ∷ [])
statement-while t h = begins n.Statement of_statement those_statement t (pattern.Keyword word.While) (One n.Condition ∷ One n.Statement ∷ Close ∷ []) (inr (inr (inr (inr (inl refl))))) h

pub statement-for : (t : Terminal) → admits (pattern.Keyword word.For) t ≡ true → Begins n.Statement t (One n.ForHead ∷ One n.Statement ∷ Close ∷ [])
statement-for t h = begins n.Statement of_statement those_statement t (pattern.Keyword word.For) (One n.ForHead ∷ One n.Statement ∷ Close ∷ []) (inr (inr (inr (inr (inr (inl refl)))))) h

pub statement-break : (t : Terminal) → admits (pattern.Keyword word.Break) t ≡ true → Begins n.Statement t (Token (pattern.Punctuator mark.Semicolon) ∷ [])
statement-break t h = begins n.Statement of_statement those_statement t (pattern.Keyword word.Break) (Token (pattern.Punctuator mark.Semicolon) ∷ []) (inr (inr (inr (inr (inr (inr (inl refl))))))) h

pub statement-continue : (t : Terminal) → admits (pattern.Keyword word.Continue) t ≡ true → Begins n.Statement t (Token (pattern.Punctuator mark.Semicolon) ∷ [])
statement-continue t h = begins n.Statement of_statement those_statement t (pattern.Keyword word.Continue) (Token (pattern.Punctuator mark.Semicolon) ∷ []) (inr (inr (inr (inr (inr (inr (inr (inl refl)))))))) h

pub statement-return : (t : Terminal) → admits (pattern.Keyword word.Return) t ≡ true → Begins n.Statement t (Maybe n.Value ∷ Token (pattern.Punctuator mark.Semicolon) ∷ [])
statement-return t h = begins n.Statement of_statement those_statement t (pattern.Keyword word.Return) (Maybe n.Value ∷ Token (pattern.Punctuator mark.Semicolon) ∷ []) (inr (inr (inr (inr (inr (inr (inr (inr (inl refl))))))))) h

pub statement-co_return : (t : Terminal) → admits (pattern.Keyword word.CoReturn) t ≡ true → Begins n.Statement t (Maybe n.Expression ∷ Token (pattern.Punctuator mark.Semicolon) ∷ [])
statement-co_return t h = begins n.Statement of_statement those_statement t (pattern.Keyword word.CoReturn) (Maybe n.Expression ∷ Token (pattern.Punctuator mark.Semicolon) ∷ []) (inr (inr (inr (inr (inr (inr (inr (inr (inr (inl refl)))))))))) h

pub statement-co_yield : (t : Terminal) → admits (pattern.Keyword word.CoYield) t ≡ true → Begins n.Statement t (One n.Expression ∷ Close ∷ Token (pattern.Punctuator mark.Semicolon) ∷ [])
statement-co_yield t h = begins n.Statement of_statement those_statement t (pattern.Keyword word.CoYield) (One n.Expression ∷ Close ∷ Token (pattern.Punctuator mark.Semicolon) ∷ []) (inr (inr (inr (inr (inr (inr (inr (inr (inr (inr (inl refl))))))))))) h

pub statement-throw : (t : Terminal) → admits (pattern.Keyword word.Throw) t ≡ true → Begins n.Statement t (Maybe n.Expression ∷ Close ∷ Token (pattern.Punctuator mark.Semicolon) ∷ [])
statement-throw t h = begins n.Statement of_statement those_statement t (pattern.Keyword word.Throw) (Maybe n.Expression ∷ Close ∷ Token (pattern.Punctuator mark.Semicolon) ∷ []) (inr (inr (inr (inr (inr (inr (inr (inr (inr (inr (inr (inl refl)))))))))))) h

pub statement-const : (t : Terminal) → admits (pattern.Keyword word.Const) t ≡ true → Begins n.Statement t (One n.Base ∷ Maybe n.TypeRest ∷ Token pattern.Name ∷ Maybe n.LocalRest ∷ Token (pattern.Punctuator mark.Semicolon) ∷ [])
statement-const t h = begins n.Statement of_statement those_statement t (pattern.Keyword word.Const) (One n.Base ∷ Maybe n.TypeRest ∷ Token pattern.Name ∷ Maybe n.LocalRest ∷ Token (pattern.Punctuator mark.Semicolon) ∷ []) (inr (inr (inr (inr (inr (inr (inr (inr (inr (inr (inr (inr (inr (inr (inr (inr (inr (inr (inr (inr (inl refl))))))))))))))))))))) h

pub statement-auto : (t : Terminal) → admits (pattern.Keyword word.Auto) t ≡ true → Begins n.Statement t (Maybe n.Reference ∷ Token pattern.Name ∷ Maybe n.LocalRest ∷ Token (pattern.Punctuator mark.Semicolon) ∷ [])
statement-auto t h = begins n.Statement of_statement those_statement t (pattern.Keyword word.Auto) (Maybe n.Reference ∷ Token pattern.Name ∷ Maybe n.LocalRest ∷ Token (pattern.Punctuator mark.Semicolon) ∷ []) (inr (inr (inr (inr (inr (inr (inr (inr (inr (inr (inr (inr (inr (inr (inr (inr (inr (inr (inr (inr (inr (inl refl)))))))))))))))))))))) h

pub statement-built_in_type : (t : Terminal) → admits pattern.BuiltinType t ≡ true → Begins n.Statement t (One n.AfterBuiltin ∷ Token (pattern.Punctuator mark.Semicolon) ∷ [])
statement-built_in_type t h = begins n.Statement of_statement those_statement t pattern.BuiltinType (One n.AfterBuiltin ∷ Token (pattern.Punctuator mark.Semicolon) ∷ []) (inr (inr (inr (inr (inr (inr (inr (inr (inr (inr (inr (inr (inr (inr (inr (inr (inr (inr (inr (inr (inr (inr (inl refl))))))))))))))))))))))) h

pub statement-std : (t : Terminal) → admits (pattern.Spelled known.Std) t ≡ true → Begins n.Statement t (Token (pattern.Punctuator mark.Scope) ∷ One n.LibraryStatement ∷ Token (pattern.Punctuator mark.Semicolon) ∷ [])
statement-std t h = begins n.Statement of_statement those_statement t (pattern.Spelled known.Std) (Token (pattern.Punctuator mark.Scope) ∷ One n.LibraryStatement ∷ Token (pattern.Punctuator mark.Semicolon) ∷ []) (inr (inr (inr (inr (inr (inr (inr (inr (inr (inr (inr (inr (inr (inr (inr (inr (inr (inr (inr (inr (inr (inr (inr (inl refl)))))))))))))))))))))))) h

pub statement-class_name : (t : Terminal) → admits pattern.ClassName t ≡ true → Begins n.Statement t (One n.AfterClass ∷ Token (pattern.Punctuator mark.Semicolon) ∷ [])
statement-class_name t h = begins n.Statement of_statement those_statement t pattern.ClassName (One n.AfterClass ∷ Token (pattern.Punctuator mark.Semicolon) ∷ []) (inr (inr (inr (inr (inr (inr (inr (inr (inr (inr (inr (inr (inr (inr (inr (inr (inr (inr (inr (inr (inr (inr (inr (inr (inl refl))))))))))))))))))))))))) h

pub statement-other_name : (t : Terminal) → admits pattern.OtherName t ≡ true → Begins n.Statement t (Maybe n.AfterOther ∷ Token (pattern.Punctuator mark.Semicolon) ∷ [])
statement-other_name t h = begins n.Statement of_statement those_statement t pattern.OtherName (Maybe n.AfterOther ∷ Token (pattern.Punctuator mark.Semicolon) ∷ []) (inr (inr (inr (inr (inr (inr (inr (inr (inr (inr (inr (inr (inr (inr (inr (inr (inr (inr (inr (inr (inr (inr (inr (inr (inr (inl refl)))))))))))))))))))))))))) h

-- ---- Else

abbrev pub of_else : List Rule
of_else =
    rule n.Else (pattern.Keyword word.Else) (One n.Statement ∷ []) ∷ []

pub those_else : those n.Else rules ≡ of_else
unfolding in_file in_class in_type in_statement in_head in_local in_value in_argument in_unary in_operand from_file from_class from_type from_statement from_head from_local from_value from_argument from_unary
those_else = refl

pub else-else : (t : Terminal) → admits (pattern.Keyword word.Else) t ≡ true → Begins n.Else t (One n.Statement ∷ [])
else-else t h = begins n.Else of_else those_else t (pattern.Keyword word.Else) (One n.Statement ∷ []) (inl refl) h

-- ---- ForHead

abbrev pub of_for_head : List Rule
of_for_head =
    rule n.ForHead (pattern.Punctuator mark.OpenParen) (One n.ForInit ∷ Maybe n.Expression ∷ Token (pattern.Punctuator mark.Semicolon) ∷ Maybe n.Expression ∷ Token (pattern.Punctuator mark.CloseParen) ∷ Close ∷ []) ∷ []

pub those_for_head : those n.ForHead rules ≡ of_for_head
unfolding in_file in_class in_type in_statement in_head in_local in_value in_argument in_unary in_operand from_file from_class from_type from_statement from_head from_local from_value from_argument from_unary
those_for_head = refl

pub for_head-paren : (t : Terminal) → admits (pattern.Punctuator mark.OpenParen) t ≡ true → Begins n.ForHead t (One n.ForInit ∷ Maybe n.Expression ∷ Token (pattern.Punctuator mark.Semicolon) ∷ Maybe n.Expression ∷ Token (pattern.Punctuator mark.CloseParen) ∷ Close ∷ [])
for_head-paren t h = begins n.ForHead of_for_head those_for_head t (pattern.Punctuator mark.OpenParen) (One n.ForInit ∷ Maybe n.Expression ∷ Token (pattern.Punctuator mark.Semicolon) ∷ Maybe n.Expression ∷ Token (pattern.Punctuator mark.CloseParen) ∷ Close ∷ []) (inl refl) h

-- ---- ForInit

abbrev pub of_for_init : List Rule
of_for_init =
    rule n.ForInit (pattern.Punctuator mark.Semicolon) ([]) ∷
    rule n.ForInit (pattern.Keyword word.CoYield) (One n.Expression ∷ Close ∷ Token (pattern.Punctuator mark.Semicolon) ∷ []) ∷
    rule n.ForInit (pattern.Keyword word.Throw) (Maybe n.Expression ∷ Close ∷ Token (pattern.Punctuator mark.Semicolon) ∷ []) ∷
    rule n.ForInit pattern.UnaryOperator (One n.Unary ∷ Close ∷ Maybe n.Operators ∷ Maybe n.ExpressionRest ∷ Token (pattern.Punctuator mark.Semicolon) ∷ []) ∷
    rule n.ForInit (pattern.Keyword word.New) (One n.Base ∷ Greedy n.NewRest pattern.NewMark ∷ Close ∷ Maybe n.Operators ∷ Maybe n.ExpressionRest ∷ Token (pattern.Punctuator mark.Semicolon) ∷ []) ∷
    rule n.ForInit (pattern.Keyword word.Delete) (One n.Unary ∷ Close ∷ Maybe n.Operators ∷ Maybe n.ExpressionRest ∷ Token (pattern.Punctuator mark.Semicolon) ∷ []) ∷
    rule n.ForInit (pattern.Punctuator mark.Scope) (One n.GlobalScope ∷ Maybe n.Operators ∷ Maybe n.ExpressionRest ∷ Token (pattern.Punctuator mark.Semicolon) ∷ []) ∷
    rule n.ForInit (pattern.Punctuator mark.OpenParen) (One n.Expression ∷ Token (pattern.Punctuator mark.CloseParen) ∷ Close ∷ Maybe n.Postfix ∷ Maybe n.Operators ∷ Maybe n.ExpressionRest ∷ Token (pattern.Punctuator mark.Semicolon) ∷ []) ∷
    rule n.ForInit (pattern.Spelled known.Corun) (Token (pattern.Punctuator mark.Scope) ∷ One n.RunName ∷ Maybe n.Postfix ∷ Maybe n.Operators ∷ Maybe n.ExpressionRest ∷ Token (pattern.Punctuator mark.Semicolon) ∷ []) ∷
    rule n.ForInit (pattern.Keyword word.StaticCast) (Token (pattern.Punctuator mark.Less) ∷ One n.TypeId ∷ Token (pattern.Punctuator mark.Greater) ∷ One n.Condition ∷ Maybe n.Postfix ∷ Maybe n.Operators ∷ Maybe n.ExpressionRest ∷ Token (pattern.Punctuator mark.Semicolon) ∷ []) ∷
    rule n.ForInit pattern.Literal (Maybe n.Postfix ∷ Maybe n.Operators ∷ Maybe n.ExpressionRest ∷ Token (pattern.Punctuator mark.Semicolon) ∷ []) ∷
    rule n.ForInit (pattern.Keyword word.Const) (One n.Base ∷ Maybe n.TypeRest ∷ Token pattern.Name ∷ Maybe n.LocalRest ∷ Token (pattern.Punctuator mark.Semicolon) ∷ []) ∷
    rule n.ForInit (pattern.Keyword word.Auto) (Maybe n.Reference ∷ Token pattern.Name ∷ Maybe n.LocalRest ∷ Token (pattern.Punctuator mark.Semicolon) ∷ []) ∷
    rule n.ForInit pattern.BuiltinType (One n.AfterBuiltin ∷ Token (pattern.Punctuator mark.Semicolon) ∷ []) ∷
    rule n.ForInit (pattern.Spelled known.Std) (Token (pattern.Punctuator mark.Scope) ∷ One n.LibraryStatement ∷ Token (pattern.Punctuator mark.Semicolon) ∷ []) ∷
    rule n.ForInit pattern.ClassName (One n.AfterClass ∷ Token (pattern.Punctuator mark.Semicolon) ∷ []) ∷
    rule n.ForInit pattern.OtherName (Maybe n.AfterOther ∷ Token (pattern.Punctuator mark.Semicolon) ∷ []) ∷ []

pub those_for_init : those n.ForInit rules ≡ of_for_init
unfolding in_file in_class in_type in_statement in_head in_local in_value in_argument in_unary in_operand from_file from_class from_type from_statement from_head from_local from_value from_argument from_unary
those_for_init = refl

pub for_init-semicolon : (t : Terminal) → admits (pattern.Punctuator mark.Semicolon) t ≡ true → Begins n.ForInit t ([])
for_init-semicolon t h = begins n.ForInit of_for_init those_for_init t (pattern.Punctuator mark.Semicolon) ([]) (inl refl) h

pub for_init-co_yield : (t : Terminal) → admits (pattern.Keyword word.CoYield) t ≡ true → Begins n.ForInit t (One n.Expression ∷ Close ∷ Token (pattern.Punctuator mark.Semicolon) ∷ [])
for_init-co_yield t h = begins n.ForInit of_for_init those_for_init t (pattern.Keyword word.CoYield) (One n.Expression ∷ Close ∷ Token (pattern.Punctuator mark.Semicolon) ∷ []) (inr (inl refl)) h

pub for_init-throw : (t : Terminal) → admits (pattern.Keyword word.Throw) t ≡ true → Begins n.ForInit t (Maybe n.Expression ∷ Close ∷ Token (pattern.Punctuator mark.Semicolon) ∷ [])
for_init-throw t h = begins n.ForInit of_for_init those_for_init t (pattern.Keyword word.Throw) (Maybe n.Expression ∷ Close ∷ Token (pattern.Punctuator mark.Semicolon) ∷ []) (inr (inr (inl refl))) h

pub for_init-const : (t : Terminal) → admits (pattern.Keyword word.Const) t ≡ true → Begins n.ForInit t (One n.Base ∷ Maybe n.TypeRest ∷ Token pattern.Name ∷ Maybe n.LocalRest ∷ Token (pattern.Punctuator mark.Semicolon) ∷ [])
for_init-const t h = begins n.ForInit of_for_init those_for_init t (pattern.Keyword word.Const) (One n.Base ∷ Maybe n.TypeRest ∷ Token pattern.Name ∷ Maybe n.LocalRest ∷ Token (pattern.Punctuator mark.Semicolon) ∷ []) (inr (inr (inr (inr (inr (inr (inr (inr (inr (inr (inr (inl refl)))))))))))) h

pub for_init-auto : (t : Terminal) → admits (pattern.Keyword word.Auto) t ≡ true → Begins n.ForInit t (Maybe n.Reference ∷ Token pattern.Name ∷ Maybe n.LocalRest ∷ Token (pattern.Punctuator mark.Semicolon) ∷ [])
for_init-auto t h = begins n.ForInit of_for_init those_for_init t (pattern.Keyword word.Auto) (Maybe n.Reference ∷ Token pattern.Name ∷ Maybe n.LocalRest ∷ Token (pattern.Punctuator mark.Semicolon) ∷ []) (inr (inr (inr (inr (inr (inr (inr (inr (inr (inr (inr (inr (inl refl))))))))))))) h

pub for_init-built_in_type : (t : Terminal) → admits pattern.BuiltinType t ≡ true → Begins n.ForInit t (One n.AfterBuiltin ∷ Token (pattern.Punctuator mark.Semicolon) ∷ [])
for_init-built_in_type t h = begins n.ForInit of_for_init those_for_init t pattern.BuiltinType (One n.AfterBuiltin ∷ Token (pattern.Punctuator mark.Semicolon) ∷ []) (inr (inr (inr (inr (inr (inr (inr (inr (inr (inr (inr (inr (inr (inl refl)))))))))))))) h

pub for_init-std : (t : Terminal) → admits (pattern.Spelled known.Std) t ≡ true → Begins n.ForInit t (Token (pattern.Punctuator mark.Scope) ∷ One n.LibraryStatement ∷ Token (pattern.Punctuator mark.Semicolon) ∷ [])
for_init-std t h = begins n.ForInit of_for_init those_for_init t (pattern.Spelled known.Std) (Token (pattern.Punctuator mark.Scope) ∷ One n.LibraryStatement ∷ Token (pattern.Punctuator mark.Semicolon) ∷ []) (inr (inr (inr (inr (inr (inr (inr (inr (inr (inr (inr (inr (inr (inr (inl refl))))))))))))))) h

pub for_init-class_name : (t : Terminal) → admits pattern.ClassName t ≡ true → Begins n.ForInit t (One n.AfterClass ∷ Token (pattern.Punctuator mark.Semicolon) ∷ [])
for_init-class_name t h = begins n.ForInit of_for_init those_for_init t pattern.ClassName (One n.AfterClass ∷ Token (pattern.Punctuator mark.Semicolon) ∷ []) (inr (inr (inr (inr (inr (inr (inr (inr (inr (inr (inr (inr (inr (inr (inr (inl refl)))))))))))))))) h

pub for_init-other_name : (t : Terminal) → admits pattern.OtherName t ≡ true → Begins n.ForInit t (Maybe n.AfterOther ∷ Token (pattern.Punctuator mark.Semicolon) ∷ [])
for_init-other_name t h = begins n.ForInit of_for_init those_for_init t pattern.OtherName (Maybe n.AfterOther ∷ Token (pattern.Punctuator mark.Semicolon) ∷ []) (inr (inr (inr (inr (inr (inr (inr (inr (inr (inr (inr (inr (inr (inr (inr (inr (inl refl))))))))))))))))) h

-- ---- Catch

abbrev pub of_catch : List Rule
of_catch =
    rule n.Catch (pattern.Keyword word.Catch) (One n.CatchHead ∷ One n.Block ∷ []) ∷ []

pub those_catch : those n.Catch rules ≡ of_catch
unfolding in_file in_class in_type in_statement in_head in_local in_value in_argument in_unary in_operand from_file from_class from_type from_statement from_head from_local from_value from_argument from_unary
those_catch = refl

pub catch-catch : (t : Terminal) → admits (pattern.Keyword word.Catch) t ≡ true → Begins n.Catch t (One n.CatchHead ∷ One n.Block ∷ [])
catch-catch t h = begins n.Catch of_catch those_catch t (pattern.Keyword word.Catch) (One n.CatchHead ∷ One n.Block ∷ []) (inl refl) h

-- ---- CatchHead

abbrev pub of_catch_head : List Rule
of_catch_head =
    rule n.CatchHead (pattern.Punctuator mark.OpenParen) (One n.CatchParameter ∷ Token (pattern.Punctuator mark.CloseParen) ∷ Close ∷ []) ∷ []

pub those_catch_head : those n.CatchHead rules ≡ of_catch_head
unfolding in_file in_class in_type in_statement in_head in_local in_value in_argument in_unary in_operand from_file from_class from_type from_statement from_head from_local from_value from_argument from_unary
those_catch_head = refl

pub catch_head-paren : (t : Terminal) → admits (pattern.Punctuator mark.OpenParen) t ≡ true → Begins n.CatchHead t (One n.CatchParameter ∷ Token (pattern.Punctuator mark.CloseParen) ∷ Close ∷ [])
catch_head-paren t h = begins n.CatchHead of_catch_head those_catch_head t (pattern.Punctuator mark.OpenParen) (One n.CatchParameter ∷ Token (pattern.Punctuator mark.CloseParen) ∷ Close ∷ []) (inl refl) h

-- ---- CatchParameter

abbrev pub of_catch_parameter : List Rule
of_catch_parameter =
    rule n.CatchParameter (pattern.Punctuator mark.Ellipsis) ([]) ∷
    rule n.CatchParameter (pattern.Keyword word.Const) (One n.Base ∷ Maybe n.TypeRest ∷ Maybe n.ParameterName ∷ []) ∷
    rule n.CatchParameter pattern.BuiltinType (Maybe n.TypeRest ∷ Maybe n.ParameterName ∷ []) ∷
    rule n.CatchParameter (pattern.Spelled known.Std) (Token (pattern.Punctuator mark.Scope) ∷ One n.LibraryType ∷ Maybe n.TypeRest ∷ Maybe n.ParameterName ∷ []) ∷
    rule n.CatchParameter pattern.ClassName (Maybe n.InnerClass ∷ Maybe n.TypeRest ∷ Maybe n.ParameterName ∷ []) ∷
    rule n.CatchParameter pattern.OtherName (Token (pattern.Punctuator mark.Scope) ∷ One n.ClassPath ∷ Maybe n.TypeRest ∷ Maybe n.ParameterName ∷ []) ∷ []

pub those_catch_parameter : those n.CatchParameter rules ≡ of_catch_parameter
unfolding in_file in_class in_type in_statement in_head in_local in_value in_argument in_unary in_operand from_file from_class from_type from_statement from_head from_local from_value from_argument from_unary
those_catch_parameter = refl

pub catch_parameter-ellipsis : (t : Terminal) → admits (pattern.Punctuator mark.Ellipsis) t ≡ true → Begins n.CatchParameter t ([])
catch_parameter-ellipsis t h = begins n.CatchParameter of_catch_parameter those_catch_parameter t (pattern.Punctuator mark.Ellipsis) ([]) (inl refl) h

pub catch_parameter-const : (t : Terminal) → admits (pattern.Keyword word.Const) t ≡ true → Begins n.CatchParameter t (One n.Base ∷ Maybe n.TypeRest ∷ Maybe n.ParameterName ∷ [])
catch_parameter-const t h = begins n.CatchParameter of_catch_parameter those_catch_parameter t (pattern.Keyword word.Const) (One n.Base ∷ Maybe n.TypeRest ∷ Maybe n.ParameterName ∷ []) (inr (inl refl)) h

pub catch_parameter-built_in_type : (t : Terminal) → admits pattern.BuiltinType t ≡ true → Begins n.CatchParameter t (Maybe n.TypeRest ∷ Maybe n.ParameterName ∷ [])
catch_parameter-built_in_type t h = begins n.CatchParameter of_catch_parameter those_catch_parameter t pattern.BuiltinType (Maybe n.TypeRest ∷ Maybe n.ParameterName ∷ []) (inr (inr (inl refl))) h

pub catch_parameter-std : (t : Terminal) → admits (pattern.Spelled known.Std) t ≡ true → Begins n.CatchParameter t (Token (pattern.Punctuator mark.Scope) ∷ One n.LibraryType ∷ Maybe n.TypeRest ∷ Maybe n.ParameterName ∷ [])
catch_parameter-std t h = begins n.CatchParameter of_catch_parameter those_catch_parameter t (pattern.Spelled known.Std) (Token (pattern.Punctuator mark.Scope) ∷ One n.LibraryType ∷ Maybe n.TypeRest ∷ Maybe n.ParameterName ∷ []) (inr (inr (inr (inl refl)))) h

pub catch_parameter-class_name : (t : Terminal) → admits pattern.ClassName t ≡ true → Begins n.CatchParameter t (Maybe n.InnerClass ∷ Maybe n.TypeRest ∷ Maybe n.ParameterName ∷ [])
catch_parameter-class_name t h = begins n.CatchParameter of_catch_parameter those_catch_parameter t pattern.ClassName (Maybe n.InnerClass ∷ Maybe n.TypeRest ∷ Maybe n.ParameterName ∷ []) (inr (inr (inr (inr (inl refl))))) h

pub catch_parameter-other_name : (t : Terminal) → admits pattern.OtherName t ≡ true → Begins n.CatchParameter t (Token (pattern.Punctuator mark.Scope) ∷ One n.ClassPath ∷ Maybe n.TypeRest ∷ Maybe n.ParameterName ∷ [])
catch_parameter-other_name t h = begins n.CatchParameter of_catch_parameter those_catch_parameter t pattern.OtherName (Token (pattern.Punctuator mark.Scope) ∷ One n.ClassPath ∷ Maybe n.TypeRest ∷ Maybe n.ParameterName ∷ []) (inr (inr (inr (inr (inr (inl refl)))))) h

-- ---- LocalRest

abbrev pub of_local_rest : List Rule
of_local_rest =
    rule n.LocalRest (pattern.Punctuator mark.Assign) (One n.Value ∷ []) ∷
    rule n.LocalRest (pattern.Punctuator mark.OpenParen) (One n.FirstArgument ∷ Many n.NextArgument ∷ Token (pattern.Punctuator mark.CloseParen) ∷ Close ∷ []) ∷
    rule n.LocalRest (pattern.Punctuator mark.OpenBrace) (Maybe n.Arguments ∷ Token (pattern.Punctuator mark.CloseBrace) ∷ Close ∷ []) ∷ []

pub those_local_rest : those n.LocalRest rules ≡ of_local_rest
unfolding in_file in_class in_type in_statement in_head in_local in_value in_argument in_unary in_operand from_file from_class from_type from_statement from_head from_local from_value from_argument from_unary
those_local_rest = refl

pub local_rest-assign : (t : Terminal) → admits (pattern.Punctuator mark.Assign) t ≡ true → Begins n.LocalRest t (One n.Value ∷ [])
local_rest-assign t h = begins n.LocalRest of_local_rest those_local_rest t (pattern.Punctuator mark.Assign) (One n.Value ∷ []) (inl refl) h

pub local_rest-paren : (t : Terminal) → admits (pattern.Punctuator mark.OpenParen) t ≡ true → Begins n.LocalRest t (One n.FirstArgument ∷ Many n.NextArgument ∷ Token (pattern.Punctuator mark.CloseParen) ∷ Close ∷ [])
local_rest-paren t h = begins n.LocalRest of_local_rest those_local_rest t (pattern.Punctuator mark.OpenParen) (One n.FirstArgument ∷ Many n.NextArgument ∷ Token (pattern.Punctuator mark.CloseParen) ∷ Close ∷ []) (inr (inl refl)) h

pub local_rest-brace : (t : Terminal) → admits (pattern.Punctuator mark.OpenBrace) t ≡ true → Begins n.LocalRest t (Maybe n.Arguments ∷ Token (pattern.Punctuator mark.CloseBrace) ∷ Close ∷ [])
local_rest-brace t h = begins n.LocalRest of_local_rest those_local_rest t (pattern.Punctuator mark.OpenBrace) (Maybe n.Arguments ∷ Token (pattern.Punctuator mark.CloseBrace) ∷ Close ∷ []) (inr (inr (inl refl))) h

-- ---- AfterBuiltin

abbrev pub of_after_builtin : List Rule
of_after_builtin =
    rule n.AfterBuiltin (pattern.Keyword word.Const) (Maybe n.Pointers ∷ Token pattern.Name ∷ Maybe n.LocalRest ∷ []) ∷
    rule n.AfterBuiltin (pattern.Punctuator mark.Star) (Maybe n.Pointers ∷ Close ∷ Token pattern.Name ∷ Maybe n.LocalRest ∷ []) ∷
    rule n.AfterBuiltin pattern.ReferenceMark (Token pattern.Name ∷ Maybe n.LocalRest ∷ []) ∷
    rule n.AfterBuiltin pattern.Name (Maybe n.LocalRest ∷ []) ∷
    rule n.AfterBuiltin (pattern.Punctuator mark.OpenParen) (Maybe n.Arguments ∷ Token (pattern.Punctuator mark.CloseParen) ∷ Close ∷ Maybe n.Postfix ∷ Maybe n.Operators ∷ Maybe n.ExpressionRest ∷ []) ∷
    rule n.AfterBuiltin (pattern.Punctuator mark.OpenBrace) (Maybe n.Arguments ∷ Token (pattern.Punctuator mark.CloseBrace) ∷ Close ∷ Maybe n.Postfix ∷ Maybe n.Operators ∷ Maybe n.ExpressionRest ∷ []) ∷ []

pub those_after_builtin : those n.AfterBuiltin rules ≡ of_after_builtin
unfolding in_file in_class in_type in_statement in_head in_local in_value in_argument in_unary in_operand from_file from_class from_type from_statement from_head from_local from_value from_argument from_unary
those_after_builtin = refl

pub after_builtin-const : (t : Terminal) → admits (pattern.Keyword word.Const) t ≡ true → Begins n.AfterBuiltin t (Maybe n.Pointers ∷ Token pattern.Name ∷ Maybe n.LocalRest ∷ [])
after_builtin-const t h = begins n.AfterBuiltin of_after_builtin those_after_builtin t (pattern.Keyword word.Const) (Maybe n.Pointers ∷ Token pattern.Name ∷ Maybe n.LocalRest ∷ []) (inl refl) h

pub after_builtin-star : (t : Terminal) → admits (pattern.Punctuator mark.Star) t ≡ true → Begins n.AfterBuiltin t (Maybe n.Pointers ∷ Close ∷ Token pattern.Name ∷ Maybe n.LocalRest ∷ [])
after_builtin-star t h = begins n.AfterBuiltin of_after_builtin those_after_builtin t (pattern.Punctuator mark.Star) (Maybe n.Pointers ∷ Close ∷ Token pattern.Name ∷ Maybe n.LocalRest ∷ []) (inr (inl refl)) h

pub after_builtin-reference : (t : Terminal) → admits pattern.ReferenceMark t ≡ true → Begins n.AfterBuiltin t (Token pattern.Name ∷ Maybe n.LocalRest ∷ [])
after_builtin-reference t h = begins n.AfterBuiltin of_after_builtin those_after_builtin t pattern.ReferenceMark (Token pattern.Name ∷ Maybe n.LocalRest ∷ []) (inr (inr (inl refl))) h

pub after_builtin-name : (t : Terminal) → admits pattern.Name t ≡ true → Begins n.AfterBuiltin t (Maybe n.LocalRest ∷ [])
after_builtin-name t h = begins n.AfterBuiltin of_after_builtin those_after_builtin t pattern.Name (Maybe n.LocalRest ∷ []) (inr (inr (inr (inl refl)))) h

pub after_builtin-paren : (t : Terminal) → admits (pattern.Punctuator mark.OpenParen) t ≡ true → Begins n.AfterBuiltin t (Maybe n.Arguments ∷ Token (pattern.Punctuator mark.CloseParen) ∷ Close ∷ Maybe n.Postfix ∷ Maybe n.Operators ∷ Maybe n.ExpressionRest ∷ [])
after_builtin-paren t h = begins n.AfterBuiltin of_after_builtin those_after_builtin t (pattern.Punctuator mark.OpenParen) (Maybe n.Arguments ∷ Token (pattern.Punctuator mark.CloseParen) ∷ Close ∷ Maybe n.Postfix ∷ Maybe n.Operators ∷ Maybe n.ExpressionRest ∷ []) (inr (inr (inr (inr (inl refl))))) h

pub after_builtin-brace : (t : Terminal) → admits (pattern.Punctuator mark.OpenBrace) t ≡ true → Begins n.AfterBuiltin t (Maybe n.Arguments ∷ Token (pattern.Punctuator mark.CloseBrace) ∷ Close ∷ Maybe n.Postfix ∷ Maybe n.Operators ∷ Maybe n.ExpressionRest ∷ [])
after_builtin-brace t h = begins n.AfterBuiltin of_after_builtin those_after_builtin t (pattern.Punctuator mark.OpenBrace) (Maybe n.Arguments ∷ Token (pattern.Punctuator mark.CloseBrace) ∷ Close ∷ Maybe n.Postfix ∷ Maybe n.Operators ∷ Maybe n.ExpressionRest ∷ []) (inr (inr (inr (inr (inr (inl refl)))))) h

-- ---- AfterClass

abbrev pub of_after_class : List Rule
of_after_class =
    rule n.AfterClass (pattern.Punctuator mark.Scope) (One n.StatementPath ∷ []) ∷
    rule n.AfterClass (pattern.Keyword word.Const) (Maybe n.Pointers ∷ Token pattern.Name ∷ Maybe n.LocalRest ∷ []) ∷
    rule n.AfterClass (pattern.Punctuator mark.Star) (Maybe n.Pointers ∷ Close ∷ Token pattern.Name ∷ Maybe n.LocalRest ∷ []) ∷
    rule n.AfterClass pattern.ReferenceMark (Token pattern.Name ∷ Maybe n.LocalRest ∷ []) ∷
    rule n.AfterClass pattern.Name (Maybe n.LocalRest ∷ []) ∷
    rule n.AfterClass (pattern.Punctuator mark.OpenBrace) (Maybe n.Arguments ∷ Token (pattern.Punctuator mark.CloseBrace) ∷ Close ∷ Maybe n.Postfix ∷ Maybe n.Operators ∷ Maybe n.ExpressionRest ∷ []) ∷ []

pub those_after_class : those n.AfterClass rules ≡ of_after_class
unfolding in_file in_class in_type in_statement in_head in_local in_value in_argument in_unary in_operand from_file from_class from_type from_statement from_head from_local from_value from_argument from_unary
those_after_class = refl

pub after_class-scope : (t : Terminal) → admits (pattern.Punctuator mark.Scope) t ≡ true → Begins n.AfterClass t (One n.StatementPath ∷ [])
after_class-scope t h = begins n.AfterClass of_after_class those_after_class t (pattern.Punctuator mark.Scope) (One n.StatementPath ∷ []) (inl refl) h

pub after_class-const : (t : Terminal) → admits (pattern.Keyword word.Const) t ≡ true → Begins n.AfterClass t (Maybe n.Pointers ∷ Token pattern.Name ∷ Maybe n.LocalRest ∷ [])
after_class-const t h = begins n.AfterClass of_after_class those_after_class t (pattern.Keyword word.Const) (Maybe n.Pointers ∷ Token pattern.Name ∷ Maybe n.LocalRest ∷ []) (inr (inl refl)) h

pub after_class-star : (t : Terminal) → admits (pattern.Punctuator mark.Star) t ≡ true → Begins n.AfterClass t (Maybe n.Pointers ∷ Close ∷ Token pattern.Name ∷ Maybe n.LocalRest ∷ [])
after_class-star t h = begins n.AfterClass of_after_class those_after_class t (pattern.Punctuator mark.Star) (Maybe n.Pointers ∷ Close ∷ Token pattern.Name ∷ Maybe n.LocalRest ∷ []) (inr (inr (inl refl))) h

pub after_class-reference : (t : Terminal) → admits pattern.ReferenceMark t ≡ true → Begins n.AfterClass t (Token pattern.Name ∷ Maybe n.LocalRest ∷ [])
after_class-reference t h = begins n.AfterClass of_after_class those_after_class t pattern.ReferenceMark (Token pattern.Name ∷ Maybe n.LocalRest ∷ []) (inr (inr (inr (inl refl)))) h

pub after_class-name : (t : Terminal) → admits pattern.Name t ≡ true → Begins n.AfterClass t (Maybe n.LocalRest ∷ [])
after_class-name t h = begins n.AfterClass of_after_class those_after_class t pattern.Name (Maybe n.LocalRest ∷ []) (inr (inr (inr (inr (inl refl))))) h

pub after_class-brace : (t : Terminal) → admits (pattern.Punctuator mark.OpenBrace) t ≡ true → Begins n.AfterClass t (Maybe n.Arguments ∷ Token (pattern.Punctuator mark.CloseBrace) ∷ Close ∷ Maybe n.Postfix ∷ Maybe n.Operators ∷ Maybe n.ExpressionRest ∷ [])
after_class-brace t h = begins n.AfterClass of_after_class those_after_class t (pattern.Punctuator mark.OpenBrace) (Maybe n.Arguments ∷ Token (pattern.Punctuator mark.CloseBrace) ∷ Close ∷ Maybe n.Postfix ∷ Maybe n.Operators ∷ Maybe n.ExpressionRest ∷ []) (inr (inr (inr (inr (inr (inl refl)))))) h

-- ---- AfterHandle

abbrev pub of_after_handle : List Rule
of_after_handle =
    rule n.AfterHandle (pattern.Punctuator mark.Scope) (Token pattern.HandleFunction ∷ Maybe n.Postfix ∷ Maybe n.Operators ∷ Maybe n.ExpressionRest ∷ []) ∷
    rule n.AfterHandle (pattern.Keyword word.Const) (Maybe n.Pointers ∷ Token pattern.Name ∷ Maybe n.LocalRest ∷ []) ∷
    rule n.AfterHandle (pattern.Punctuator mark.Star) (Maybe n.Pointers ∷ Close ∷ Token pattern.Name ∷ Maybe n.LocalRest ∷ []) ∷
    rule n.AfterHandle pattern.ReferenceMark (Token pattern.Name ∷ Maybe n.LocalRest ∷ []) ∷
    rule n.AfterHandle pattern.Name (Maybe n.LocalRest ∷ []) ∷
    rule n.AfterHandle (pattern.Punctuator mark.OpenParen) (Maybe n.Arguments ∷ Token (pattern.Punctuator mark.CloseParen) ∷ Close ∷ Maybe n.Postfix ∷ Maybe n.Operators ∷ Maybe n.ExpressionRest ∷ []) ∷
    rule n.AfterHandle (pattern.Punctuator mark.OpenBrace) (Maybe n.Arguments ∷ Token (pattern.Punctuator mark.CloseBrace) ∷ Close ∷ Maybe n.Postfix ∷ Maybe n.Operators ∷ Maybe n.ExpressionRest ∷ []) ∷ []

pub those_after_handle : those n.AfterHandle rules ≡ of_after_handle
unfolding in_file in_class in_type in_statement in_head in_local in_value in_argument in_unary in_operand from_file from_class from_type from_statement from_head from_local from_value from_argument from_unary
those_after_handle = refl

pub after_handle-scope : (t : Terminal) → admits (pattern.Punctuator mark.Scope) t ≡ true → Begins n.AfterHandle t (Token pattern.HandleFunction ∷ Maybe n.Postfix ∷ Maybe n.Operators ∷ Maybe n.ExpressionRest ∷ [])
after_handle-scope t h = begins n.AfterHandle of_after_handle those_after_handle t (pattern.Punctuator mark.Scope) (Token pattern.HandleFunction ∷ Maybe n.Postfix ∷ Maybe n.Operators ∷ Maybe n.ExpressionRest ∷ []) (inl refl) h

pub after_handle-const : (t : Terminal) → admits (pattern.Keyword word.Const) t ≡ true → Begins n.AfterHandle t (Maybe n.Pointers ∷ Token pattern.Name ∷ Maybe n.LocalRest ∷ [])
after_handle-const t h = begins n.AfterHandle of_after_handle those_after_handle t (pattern.Keyword word.Const) (Maybe n.Pointers ∷ Token pattern.Name ∷ Maybe n.LocalRest ∷ []) (inr (inl refl)) h

pub after_handle-star : (t : Terminal) → admits (pattern.Punctuator mark.Star) t ≡ true → Begins n.AfterHandle t (Maybe n.Pointers ∷ Close ∷ Token pattern.Name ∷ Maybe n.LocalRest ∷ [])
after_handle-star t h = begins n.AfterHandle of_after_handle those_after_handle t (pattern.Punctuator mark.Star) (Maybe n.Pointers ∷ Close ∷ Token pattern.Name ∷ Maybe n.LocalRest ∷ []) (inr (inr (inl refl))) h

pub after_handle-reference : (t : Terminal) → admits pattern.ReferenceMark t ≡ true → Begins n.AfterHandle t (Token pattern.Name ∷ Maybe n.LocalRest ∷ [])
after_handle-reference t h = begins n.AfterHandle of_after_handle those_after_handle t pattern.ReferenceMark (Token pattern.Name ∷ Maybe n.LocalRest ∷ []) (inr (inr (inr (inl refl)))) h

pub after_handle-name : (t : Terminal) → admits pattern.Name t ≡ true → Begins n.AfterHandle t (Maybe n.LocalRest ∷ [])
after_handle-name t h = begins n.AfterHandle of_after_handle those_after_handle t pattern.Name (Maybe n.LocalRest ∷ []) (inr (inr (inr (inr (inl refl))))) h

pub after_handle-paren : (t : Terminal) → admits (pattern.Punctuator mark.OpenParen) t ≡ true → Begins n.AfterHandle t (Maybe n.Arguments ∷ Token (pattern.Punctuator mark.CloseParen) ∷ Close ∷ Maybe n.Postfix ∷ Maybe n.Operators ∷ Maybe n.ExpressionRest ∷ [])
after_handle-paren t h = begins n.AfterHandle of_after_handle those_after_handle t (pattern.Punctuator mark.OpenParen) (Maybe n.Arguments ∷ Token (pattern.Punctuator mark.CloseParen) ∷ Close ∷ Maybe n.Postfix ∷ Maybe n.Operators ∷ Maybe n.ExpressionRest ∷ []) (inr (inr (inr (inr (inr (inl refl)))))) h

pub after_handle-brace : (t : Terminal) → admits (pattern.Punctuator mark.OpenBrace) t ≡ true → Begins n.AfterHandle t (Maybe n.Arguments ∷ Token (pattern.Punctuator mark.CloseBrace) ∷ Close ∷ Maybe n.Postfix ∷ Maybe n.Operators ∷ Maybe n.ExpressionRest ∷ [])
after_handle-brace t h = begins n.AfterHandle of_after_handle those_after_handle t (pattern.Punctuator mark.OpenBrace) (Maybe n.Arguments ∷ Token (pattern.Punctuator mark.CloseBrace) ∷ Close ∷ Maybe n.Postfix ∷ Maybe n.Operators ∷ Maybe n.ExpressionRest ∷ []) (inr (inr (inr (inr (inr (inr (inl refl))))))) h

-- ---- LibraryStatement

abbrev pub of_library_statement : List Rule
of_library_statement =
    rule n.LibraryStatement pattern.LibraryFunction (Maybe n.Postfix ∷ Maybe n.Operators ∷ Maybe n.ExpressionRest ∷ []) ∷
    rule n.LibraryStatement pattern.LibraryObject (One n.AfterBuiltin ∷ []) ∷
    rule n.LibraryStatement (pattern.Spelled known.Atomic) (Token (pattern.Punctuator mark.Less) ∷ One n.AtomicArgument ∷ One n.AfterBuiltin ∷ []) ∷
    rule n.LibraryStatement (pattern.Spelled known.CoroutineHandle) (Token (pattern.Punctuator mark.Less) ∷ Maybe n.ClassPath ∷ Token (pattern.Punctuator mark.Greater) ∷ One n.AfterHandle ∷ []) ∷ []

pub those_library_statement : those n.LibraryStatement rules ≡ of_library_statement
unfolding in_file in_class in_type in_statement in_head in_local in_value in_argument in_unary in_operand from_file from_class from_type from_statement from_head from_local from_value from_argument from_unary
those_library_statement = refl

pub library_statement-library_function : (t : Terminal) → admits pattern.LibraryFunction t ≡ true → Begins n.LibraryStatement t (Maybe n.Postfix ∷ Maybe n.Operators ∷ Maybe n.ExpressionRest ∷ [])
library_statement-library_function t h = begins n.LibraryStatement of_library_statement those_library_statement t pattern.LibraryFunction (Maybe n.Postfix ∷ Maybe n.Operators ∷ Maybe n.ExpressionRest ∷ []) (inl refl) h

pub library_statement-library_object : (t : Terminal) → admits pattern.LibraryObject t ≡ true → Begins n.LibraryStatement t (One n.AfterBuiltin ∷ [])
library_statement-library_object t h = begins n.LibraryStatement of_library_statement those_library_statement t pattern.LibraryObject (One n.AfterBuiltin ∷ []) (inr (inl refl)) h

pub library_statement-atomic : (t : Terminal) → admits (pattern.Spelled known.Atomic) t ≡ true → Begins n.LibraryStatement t (Token (pattern.Punctuator mark.Less) ∷ One n.AtomicArgument ∷ One n.AfterBuiltin ∷ [])
library_statement-atomic t h = begins n.LibraryStatement of_library_statement those_library_statement t (pattern.Spelled known.Atomic) (Token (pattern.Punctuator mark.Less) ∷ One n.AtomicArgument ∷ One n.AfterBuiltin ∷ []) (inr (inr (inl refl))) h

pub library_statement-coroutine_handle : (t : Terminal) → admits (pattern.Spelled known.CoroutineHandle) t ≡ true → Begins n.LibraryStatement t (Token (pattern.Punctuator mark.Less) ∷ Maybe n.ClassPath ∷ Token (pattern.Punctuator mark.Greater) ∷ One n.AfterHandle ∷ [])
library_statement-coroutine_handle t h = begins n.LibraryStatement of_library_statement those_library_statement t (pattern.Spelled known.CoroutineHandle) (Token (pattern.Punctuator mark.Less) ∷ Maybe n.ClassPath ∷ Token (pattern.Punctuator mark.Greater) ∷ One n.AfterHandle ∷ []) (inr (inr (inr (inl refl)))) h

-- ---- StatementPath

abbrev pub of_statement_path : List Rule
of_statement_path =
    rule n.StatementPath pattern.ClassName (One n.AfterClass ∷ []) ∷
    rule n.StatementPath pattern.OtherName (Maybe n.AfterOther ∷ []) ∷ []

pub those_statement_path : those n.StatementPath rules ≡ of_statement_path
unfolding in_file in_class in_type in_statement in_head in_local in_value in_argument in_unary in_operand from_file from_class from_type from_statement from_head from_local from_value from_argument from_unary
those_statement_path = refl

pub statement_path-class_name : (t : Terminal) → admits pattern.ClassName t ≡ true → Begins n.StatementPath t (One n.AfterClass ∷ [])
statement_path-class_name t h = begins n.StatementPath of_statement_path those_statement_path t pattern.ClassName (One n.AfterClass ∷ []) (inl refl) h

pub statement_path-other_name : (t : Terminal) → admits pattern.OtherName t ≡ true → Begins n.StatementPath t (Maybe n.AfterOther ∷ [])
statement_path-other_name t h = begins n.StatementPath of_statement_path those_statement_path t pattern.OtherName (Maybe n.AfterOther ∷ []) (inr (inl refl)) h

-- ---- AfterOther

abbrev pub of_after_other : List Rule
of_after_other =
    rule n.AfterOther (pattern.Punctuator mark.Scope) (One n.StatementPath ∷ []) ∷
    rule n.AfterOther pattern.Access (Token pattern.Name ∷ Maybe n.Postfix ∷ Close ∷ Maybe n.Operators ∷ Maybe n.ExpressionRest ∷ []) ∷
    rule n.AfterOther (pattern.Punctuator mark.OpenParen) (Maybe n.Arguments ∷ Token (pattern.Punctuator mark.CloseParen) ∷ Maybe n.Postfix ∷ Close ∷ Maybe n.Operators ∷ Maybe n.ExpressionRest ∷ []) ∷
    rule n.AfterOther pattern.Increment (Maybe n.Postfix ∷ Close ∷ Maybe n.Operators ∷ Maybe n.ExpressionRest ∷ []) ∷
    rule n.AfterOther pattern.BinaryOperator (One n.Unary ∷ Maybe n.Operators ∷ Close ∷ Maybe n.ExpressionRest ∷ []) ∷
    rule n.AfterOther pattern.Assignment (One n.Expression ∷ Close ∷ []) ∷
    rule n.AfterOther (pattern.Punctuator mark.Question) (One n.Expression ∷ Token (pattern.Punctuator mark.Colon) ∷ One n.Expression ∷ Close ∷ []) ∷ []

pub those_after_other : those n.AfterOther rules ≡ of_after_other
unfolding in_file in_class in_type in_statement in_head in_local in_value in_argument in_unary in_operand from_file from_class from_type from_statement from_head from_local from_value from_argument from_unary
those_after_other = refl

pub after_other-scope : (t : Terminal) → admits (pattern.Punctuator mark.Scope) t ≡ true → Begins n.AfterOther t (One n.StatementPath ∷ [])
after_other-scope t h = begins n.AfterOther of_after_other those_after_other t (pattern.Punctuator mark.Scope) (One n.StatementPath ∷ []) (inl refl) h
