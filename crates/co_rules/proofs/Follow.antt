-- What may follow each nonterminal, and the test of the table.
use Rattle.std.specs.Prelude.{ℕ, ◌+◌, Bool, true, false, not, ◌&&◌, ◌||◌, if◌then◌else◌, nat_eq, List, [], ◌∷◌, ◌++◌, map}
use Rattle.co_lex.specs.declared.token.Mark.TheVariants as mark
use Rattle.co_lex.specs.declared.token.Word.TheVariants as word
use Rattle.co_rules.specs.declared.symbol.Known.{Known}
use Rattle.co_rules.specs.declared.symbol.Known.TheVariants as known
use Rattle.co_rules.specs.declared.symbol.Nonterminal.{Nonterminal}
use Rattle.co_rules.specs.declared.symbol.Nonterminal.TheVariants as nonterminal
use Rattle.co_rules.specs.declared.symbol.Pattern.{Pattern}
use Rattle.co_rules.specs.declared.symbol.Pattern.TheVariants as pattern
use Rattle.co_rules.specs.declared.symbol.Symbol.{Symbol}
use Rattle.co_rules.specs.declared.symbol.Symbol.TheVariants.{Token, One, Maybe, Many, Greedy, Close}
use Rattle.co_rules.specs.declared.symbol.Terminal.{Terminal}
use Rattle.co_rules.specs.declared.symbol.Terminal.TheVariants as terminal
use Rattle.co_rules.specs.Pattern.{admits_word, admits_mark, words, marks, names, suits, is_literal, is_text, is_end, word_number, mark_number, known_number, nonterminal_number}
use Rattle.co_rules.specs.Rule.{Rule, rules}

-- the number of a terminal
abbrev pub number : Terminal → ℕ
number (terminal.Word w) = word_number w
number (terminal.Mark m) = 100 + mark_number m
number terminal.Number = 200
number terminal.Text = 201
number terminal.End = 202
number (terminal.Name true k) = 300 + known_number k
number (terminal.Name false k) = 400 + known_number k

abbrev pub single : Bool → ℕ → List ℕ
single true n = n ∷ []
single false n = []

abbrev pub under : Bool → ℕ → List Known → List ℕ
under true base ks = map (λ k. base + known_number k) ks
under false base ks = []

-- the numbers of the terminals of a pattern
unfoldable pub numbers : Pattern → List ℕ
numbers p = map word_number (words p) ++ (map (λ m. 100 + mark_number m) (marks p) ++ (single (is_literal p) 200 ++ (single (is_text p) 201 ++ (single (is_end p) 202 ++ (under (suits p true) 300 (names p) ++ under (suits p false) 400 (names p))))))

abbrev pub has : ℕ → List ℕ → Bool
has a [] = false
has a (b ∷ bs) = nat_eq b a || has a bs

-- any terminal, or those of these numbers
pub data Set : Type 0 where
  anything : Set
  among : List ℕ → Set

abbrev pub add : List ℕ → Set → Set
add xs anything = anything
add xs (among ys) = among (xs ++ ys)

abbrev pub heads_among : Nonterminal → List Rule → List ℕ
heads_among n [] = []
heads_among n (r ∷ rs) = if nat_eq (nonterminal_number r.of) (nonterminal_number n) then numbers r.head ++ heads_among n rs else heads_among n rs

-- the terminals that the rules of a nonterminal begin with
unfoldable pub heads : Nonterminal → List ℕ
heads n = heads_among n rules

-- what the symbols can begin with, before what is told
abbrev pub firsts : List Symbol → Set → Set
firsts [] after = after
firsts (Token p ∷ rest) after = among (numbers p)
firsts (Close ∷ rest) after = firsts rest after
firsts (One n ∷ rest) after = among (heads n)
firsts (Maybe n ∷ rest) after = add (heads n) (firsts rest after)
firsts (Many n ∷ rest) after = add (heads n) (firsts rest after)
firsts (Greedy n p ∷ rest) after = add (heads n) (firsts rest after)

abbrev pub all_in : List ℕ → List ℕ → Bool
all_in [] ys = true
all_in (x ∷ xs) ys = has x ys && all_in xs ys

abbrev pub none_in : List ℕ → List ℕ → Bool
none_in [] ys = true
none_in (x ∷ xs) ys = not (has x ys) && none_in xs ys

abbrev pub within : Set → Set → Bool
within x anything = true
within anything (among ys) = false
within (among xs) (among ys) = all_in xs ys

abbrev pub apart : Set → List ℕ → Bool
apart anything ys = false
apart (among xs) ys = none_in xs ys

abbrev pub numbers_of : List Pattern → List ℕ
numbers_of [] = []
numbers_of (p ∷ ps) = numbers p ++ numbers_of ps

-- what may follow each nonterminal that can end with a part that may be left out
unfoldable pub follow : Nonterminal → Set
follow nonterminal.ResultType = among (numbers_of (pattern.Name ∷ (pattern.Keyword word.Operator) ∷ []))
follow nonterminal.Parameters = among (numbers_of ((pattern.Punctuator mark.CloseParen) ∷ []))
follow nonterminal.NextParameter = among (numbers_of ((pattern.Punctuator mark.CloseParen) ∷ (pattern.Punctuator mark.Comma) ∷ []))
follow nonterminal.TypeId = among (numbers_of ((pattern.Punctuator mark.CloseParen) ∷ (pattern.Punctuator mark.Comma) ∷ (pattern.Punctuator mark.Semicolon) ∷ (pattern.Punctuator mark.Greater) ∷ pattern.Name ∷ []))
follow nonterminal.Base = among (numbers_of ((pattern.Punctuator mark.OpenParen) ∷ (pattern.Punctuator mark.CloseParen) ∷ (pattern.Punctuator mark.Star) ∷ (pattern.Punctuator mark.Comma) ∷ (pattern.Punctuator mark.Colon) ∷ (pattern.Punctuator mark.Semicolon) ∷ (pattern.Punctuator mark.Greater) ∷ (pattern.Punctuator mark.Question) ∷ pattern.Assignment ∷ pattern.BinaryOperator ∷ pattern.Name ∷ pattern.ReferenceMark ∷ (pattern.Keyword word.Const) ∷ (pattern.Keyword word.Operator) ∷ (pattern.Punctuator mark.OpenBrace) ∷ (pattern.Punctuator mark.CloseBrace) ∷ []))
follow nonterminal.InnerClass = among (numbers_of ((pattern.Punctuator mark.OpenParen) ∷ (pattern.Punctuator mark.CloseParen) ∷ (pattern.Punctuator mark.Star) ∷ (pattern.Punctuator mark.Comma) ∷ (pattern.Punctuator mark.Colon) ∷ (pattern.Punctuator mark.Semicolon) ∷ (pattern.Punctuator mark.Greater) ∷ (pattern.Punctuator mark.Question) ∷ pattern.Assignment ∷ pattern.BinaryOperator ∷ pattern.Name ∷ pattern.ReferenceMark ∷ (pattern.Keyword word.Const) ∷ (pattern.Keyword word.Operator) ∷ (pattern.Punctuator mark.OpenBrace) ∷ (pattern.Punctuator mark.CloseBrace) ∷ []))
follow nonterminal.ClassPath = among (numbers_of ((pattern.Punctuator mark.OpenParen) ∷ (pattern.Punctuator mark.CloseParen) ∷ (pattern.Punctuator mark.Star) ∷ (pattern.Punctuator mark.Comma) ∷ (pattern.Punctuator mark.Colon) ∷ (pattern.Punctuator mark.Semicolon) ∷ (pattern.Punctuator mark.Greater) ∷ (pattern.Punctuator mark.Question) ∷ pattern.Assignment ∷ pattern.BinaryOperator ∷ pattern.Name ∷ pattern.ReferenceMark ∷ (pattern.Keyword word.Const) ∷ (pattern.Keyword word.Operator) ∷ (pattern.Punctuator mark.OpenBrace) ∷ (pattern.Punctuator mark.CloseBrace) ∷ []))
follow nonterminal.TypeRest = among (numbers_of ((pattern.Punctuator mark.CloseParen) ∷ (pattern.Punctuator mark.Comma) ∷ (pattern.Punctuator mark.Semicolon) ∷ (pattern.Punctuator mark.Greater) ∷ pattern.Name ∷ (pattern.Keyword word.Operator) ∷ []))
follow nonterminal.Pointers = among (numbers_of ((pattern.Punctuator mark.CloseParen) ∷ (pattern.Punctuator mark.Comma) ∷ (pattern.Punctuator mark.Semicolon) ∷ (pattern.Punctuator mark.Greater) ∷ pattern.Name ∷ (pattern.Keyword word.Operator) ∷ []))
follow nonterminal.Statement = among (numbers_of ((pattern.Punctuator mark.OpenParen) ∷ (pattern.Punctuator mark.Scope) ∷ (pattern.Punctuator mark.Semicolon) ∷ pattern.ClassName ∷ pattern.BuiltinType ∷ pattern.Literal ∷ pattern.OtherName ∷ pattern.UnaryOperator ∷ (pattern.Keyword word.Auto) ∷ (pattern.Keyword word.Break) ∷ (pattern.Keyword word.CoReturn) ∷ (pattern.Keyword word.CoYield) ∷ (pattern.Keyword word.Const) ∷ (pattern.Keyword word.Continue) ∷ (pattern.Spelled known.Corun) ∷ (pattern.Keyword word.Delete) ∷ (pattern.Keyword word.Else) ∷ (pattern.Keyword word.For) ∷ (pattern.Keyword word.If) ∷ (pattern.Keyword word.New) ∷ (pattern.Keyword word.Return) ∷ (pattern.Keyword word.StaticCast) ∷ (pattern.Spelled known.Std) ∷ (pattern.Keyword word.Throw) ∷ (pattern.Keyword word.Try) ∷ (pattern.Keyword word.While) ∷ (pattern.Punctuator mark.OpenBrace) ∷ (pattern.Punctuator mark.CloseBrace) ∷ []))
follow nonterminal.Else = among (numbers_of ((pattern.Punctuator mark.OpenParen) ∷ (pattern.Punctuator mark.Scope) ∷ (pattern.Punctuator mark.Semicolon) ∷ pattern.ClassName ∷ pattern.BuiltinType ∷ pattern.Literal ∷ pattern.OtherName ∷ pattern.UnaryOperator ∷ (pattern.Keyword word.Auto) ∷ (pattern.Keyword word.Break) ∷ (pattern.Keyword word.CoReturn) ∷ (pattern.Keyword word.CoYield) ∷ (pattern.Keyword word.Const) ∷ (pattern.Keyword word.Continue) ∷ (pattern.Spelled known.Corun) ∷ (pattern.Keyword word.Delete) ∷ (pattern.Keyword word.Else) ∷ (pattern.Keyword word.For) ∷ (pattern.Keyword word.If) ∷ (pattern.Keyword word.New) ∷ (pattern.Keyword word.Return) ∷ (pattern.Keyword word.StaticCast) ∷ (pattern.Spelled known.Std) ∷ (pattern.Keyword word.Throw) ∷ (pattern.Keyword word.Try) ∷ (pattern.Keyword word.While) ∷ (pattern.Punctuator mark.OpenBrace) ∷ (pattern.Punctuator mark.CloseBrace) ∷ []))
follow nonterminal.CatchParameter = among (numbers_of ((pattern.Punctuator mark.CloseParen) ∷ []))
follow nonterminal.AfterBuiltin = among (numbers_of ((pattern.Punctuator mark.Semicolon) ∷ []))
follow nonterminal.AfterClass = among (numbers_of ((pattern.Punctuator mark.Semicolon) ∷ []))
follow nonterminal.AfterHandle = among (numbers_of ((pattern.Punctuator mark.Semicolon) ∷ []))
follow nonterminal.LibraryStatement = among (numbers_of ((pattern.Punctuator mark.Semicolon) ∷ []))
follow nonterminal.StatementPath = among (numbers_of ((pattern.Punctuator mark.Semicolon) ∷ []))
follow nonterminal.AfterOther = among (numbers_of ((pattern.Punctuator mark.Semicolon) ∷ []))
follow nonterminal.LocalRest = among (numbers_of ((pattern.Punctuator mark.Semicolon) ∷ []))
follow nonterminal.Value = among (numbers_of ((pattern.Punctuator mark.Semicolon) ∷ []))
follow nonterminal.Expression = among (numbers_of ((pattern.Punctuator mark.CloseParen) ∷ (pattern.Punctuator mark.Comma) ∷ (pattern.Punctuator mark.Colon) ∷ (pattern.Punctuator mark.Semicolon) ∷ (pattern.Punctuator mark.CloseBrace) ∷ []))
follow nonterminal.Arguments = among (numbers_of ((pattern.Punctuator mark.CloseParen) ∷ (pattern.Punctuator mark.CloseBrace) ∷ []))
follow nonterminal.NextArgument = among (numbers_of ((pattern.Punctuator mark.CloseParen) ∷ (pattern.Punctuator mark.Comma) ∷ (pattern.Punctuator mark.CloseBrace) ∷ []))
follow nonterminal.FirstArgument = among (numbers_of ((pattern.Punctuator mark.CloseParen) ∷ (pattern.Punctuator mark.Comma) ∷ []))
follow nonterminal.FirstScope = among (numbers_of ((pattern.Punctuator mark.OpenParen) ∷ (pattern.Punctuator mark.CloseParen) ∷ (pattern.Punctuator mark.Comma) ∷ (pattern.Punctuator mark.Question) ∷ pattern.Assignment ∷ pattern.BinaryOperator ∷ pattern.Access ∷ pattern.Increment ∷ []))
follow nonterminal.FirstPath = among (numbers_of ((pattern.Punctuator mark.OpenParen) ∷ (pattern.Punctuator mark.CloseParen) ∷ (pattern.Punctuator mark.Comma) ∷ (pattern.Punctuator mark.Question) ∷ pattern.Assignment ∷ pattern.BinaryOperator ∷ pattern.Access ∷ pattern.Increment ∷ []))
follow nonterminal.Unary = among (numbers_of ((pattern.Punctuator mark.CloseParen) ∷ (pattern.Punctuator mark.Comma) ∷ (pattern.Punctuator mark.Colon) ∷ (pattern.Punctuator mark.Semicolon) ∷ (pattern.Punctuator mark.Question) ∷ pattern.Assignment ∷ pattern.BinaryOperator ∷ (pattern.Punctuator mark.CloseBrace) ∷ []))
follow nonterminal.GlobalScope = among (numbers_of ((pattern.Punctuator mark.CloseParen) ∷ (pattern.Punctuator mark.Comma) ∷ (pattern.Punctuator mark.Colon) ∷ (pattern.Punctuator mark.Semicolon) ∷ (pattern.Punctuator mark.Question) ∷ pattern.Assignment ∷ pattern.BinaryOperator ∷ (pattern.Punctuator mark.CloseBrace) ∷ []))
follow nonterminal.NewRest = among (numbers_of ((pattern.Punctuator mark.CloseParen) ∷ (pattern.Punctuator mark.Comma) ∷ (pattern.Punctuator mark.Colon) ∷ (pattern.Punctuator mark.Semicolon) ∷ (pattern.Punctuator mark.Question) ∷ pattern.Assignment ∷ pattern.BinaryOperator ∷ (pattern.Punctuator mark.CloseBrace) ∷ []))
follow nonterminal.ClassOperand = among (numbers_of ((pattern.Punctuator mark.OpenParen) ∷ (pattern.Punctuator mark.CloseParen) ∷ (pattern.Punctuator mark.Comma) ∷ (pattern.Punctuator mark.Colon) ∷ (pattern.Punctuator mark.Semicolon) ∷ (pattern.Punctuator mark.Question) ∷ pattern.Assignment ∷ pattern.BinaryOperator ∷ pattern.Access ∷ pattern.Increment ∷ (pattern.Punctuator mark.CloseBrace) ∷ []))
follow nonterminal.Scope = among (numbers_of ((pattern.Punctuator mark.OpenParen) ∷ (pattern.Punctuator mark.CloseParen) ∷ (pattern.Punctuator mark.Comma) ∷ (pattern.Punctuator mark.Colon) ∷ (pattern.Punctuator mark.Semicolon) ∷ (pattern.Punctuator mark.Question) ∷ pattern.Assignment ∷ pattern.BinaryOperator ∷ pattern.Access ∷ pattern.Increment ∷ (pattern.Punctuator mark.CloseBrace) ∷ []))
follow nonterminal.Path = among (numbers_of ((pattern.Punctuator mark.OpenParen) ∷ (pattern.Punctuator mark.CloseParen) ∷ (pattern.Punctuator mark.Comma) ∷ (pattern.Punctuator mark.Colon) ∷ (pattern.Punctuator mark.Semicolon) ∷ (pattern.Punctuator mark.Question) ∷ pattern.Assignment ∷ pattern.BinaryOperator ∷ pattern.Access ∷ pattern.Increment ∷ (pattern.Punctuator mark.CloseBrace) ∷ []))
follow nonterminal.Postfix = among (numbers_of ((pattern.Punctuator mark.CloseParen) ∷ (pattern.Punctuator mark.Comma) ∷ (pattern.Punctuator mark.Colon) ∷ (pattern.Punctuator mark.Semicolon) ∷ (pattern.Punctuator mark.Question) ∷ pattern.Assignment ∷ pattern.BinaryOperator ∷ (pattern.Punctuator mark.CloseBrace) ∷ []))
follow nonterminal.Operators = among (numbers_of ((pattern.Punctuator mark.CloseParen) ∷ (pattern.Punctuator mark.Comma) ∷ (pattern.Punctuator mark.Colon) ∷ (pattern.Punctuator mark.Semicolon) ∷ (pattern.Punctuator mark.Question) ∷ pattern.Assignment ∷ (pattern.Punctuator mark.CloseBrace) ∷ []))
follow nonterminal.ExpressionRest = among (numbers_of ((pattern.Punctuator mark.CloseParen) ∷ (pattern.Punctuator mark.Comma) ∷ (pattern.Punctuator mark.Colon) ∷ (pattern.Punctuator mark.Semicolon) ∷ (pattern.Punctuator mark.CloseBrace) ∷ []))
follow _ = anything

-- whether each terminal of the second pattern is one of the first's
abbrev pub covers : Pattern → Pattern → Bool
covers p (pattern.Keyword w) = admits_word p w
covers p (pattern.Punctuator m) = admits_mark p m
covers p _ = false

abbrev pub covered : Pattern → Nonterminal → List Rule → Bool
covered p n [] = true
covered p n (r ∷ rs) = (not (nat_eq (nonterminal_number r.of) (nonterminal_number n)) || covers p r.head) && covered p n rs

-- each nonterminal among the symbols is followed by nothing else than it may be, and is not left out before what it begins with
unfoldable pub fits : Set → List Symbol → Bool
fits after [] = true
fits after (Token p ∷ rest) = fits after rest
fits after (Close ∷ rest) = fits after rest
fits after (One n ∷ rest) = within (firsts rest after) (follow n) && fits after rest
fits after (Maybe n ∷ rest) = (apart (firsts rest after) (heads n) && within (firsts rest after) (follow n)) && fits after rest
fits after (Many n ∷ rest) = ((apart (firsts rest after) (heads n) && within (firsts rest after) (follow n)) && within (among (heads n)) (follow n)) && fits after rest
fits after (Greedy n p ∷ rest) = (covered p n rules && within (firsts rest after) (follow n)) && fits after rest

abbrev pub fit : List Rule → Bool
fit [] = true
fit (r ∷ rs) = fits (follow r.of) r.body && fit rs

-- no later rule of the same nonterminal begins with a terminal of this one's
abbrev pub alone : Rule → List Rule → Bool
alone r [] = true
alone r (q ∷ qs) = (not (nat_eq (nonterminal_number q.of) (nonterminal_number r.of)) || none_in (numbers r.head) (numbers q.head)) && alone r qs

abbrev pub distinct : List Rule → Bool
distinct [] = true
distinct (r ∷ rs) = alone r rs && distinct rs
