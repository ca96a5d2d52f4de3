-- Which rules a list of tokens is read by, where the token that comes next picks each of them.
use Rattle.std.specs.Prelude.{◌≡◌, ℕ, suc, ◌<◌, true, false, if◌then◌else◌, List, [], ◌∷◌, ◌++◌}
use Rattle.co_lex.specs.declared.token.Token.{Token}
use Rattle.co_lex.specs.declared.token.TokenKind.{TokenKind}
use Rattle.co_lex.specs.declared.token.Mark.TheVariants as mark
use Rattle.co_rules.specs.declared.symbol.Nonterminal.{Nonterminal}
use Rattle.co_rules.specs.declared.symbol.Pattern.{Pattern}
use Rattle.co_rules.specs.declared.symbol.Symbol.{Symbol}
use Rattle.co_rules.specs.declared.symbol.Symbol.TheVariants.{Token as Terminal, One, Maybe, Many, Greedy, Close}
use Rattle.co_rules.specs.Derives.{Begins}
use Rattle.co_rules.specs.Names.{has_some}
use Rattle.co_rules.specs.Pattern.{admits}
use Rattle.co_rules.specs.Terminal.{terminal_of}
use Rattle.co_grammar.specs.Machine.{is_usable}
use Rattle.co_reader.specs.Reading.{lead_of, is_mark}
use Rattle.co_reader.specs.Types.{most_stars}

-- the end of a nesting level derives nothing, so it is left out
abbrev pub flat : List Symbol → List Symbol
flat [] = []
flat (Close ∷ rest) = flat rest
flat (s ∷ rest) = s ∷ flat rest

-- how many `*` come next
abbrev pub leading_stars : List Token → ℕ
leading_stars [] = 0
leading_stars (t ∷ ts) = if is_mark mark.Star (lead_of t.kind) then suc (leading_stars ts) else 0

-- fewer `*` come next than a type may have
abbrev pub HasFewStars : List Token → Type 0
HasFewStars ts = leading_stars ts < most_stars

-- no rule of the nonterminal that can be used begins with the token
abbrev pub NoneBegins : List (List ℕ) → Nonterminal → TokenKind → Type 0
NoneBegins C n k = (body : List Symbol) → Begins n (terminal_of C k) body → is_usable (has_some C) body ≡ true → ⊥

-- The symbols read the tokens, as the machine does: a nonterminal is left out only where none of its rules begins with the token
-- that comes next. C are the names of the classes.
pub data Runs (C : List (List ℕ)) : List Symbol → List Token → Type 0 where
  ended : Runs C [] []
  token : (p : Pattern) (rest : List Symbol) (t : Token) (ts : List Token) → admits p (terminal_of C t.kind) ≡ true → HasFewStars (t ∷ ts) → Runs C rest ts → Runs C (Terminal p ∷ rest) (t ∷ ts)
  one : (n : Nonterminal) (rest body : List Symbol) (t : Token) (ts : List Token) → Begins n (terminal_of C t.kind) body → HasFewStars (t ∷ ts) → Runs C (flat body ++ rest) ts → Runs C (One n ∷ rest) (t ∷ ts)
  some : (n : Nonterminal) (rest body : List Symbol) (t : Token) (ts : List Token) → Begins n (terminal_of C t.kind) body → HasFewStars (t ∷ ts) → Runs C (flat body ++ rest) ts → Runs C (Maybe n ∷ rest) (t ∷ ts)
  none : (n : Nonterminal) (rest : List Symbol) (t : Token) (ts : List Token) → NoneBegins C n t.kind → Runs C rest (t ∷ ts) → Runs C (Maybe n ∷ rest) (t ∷ ts)
  more : (n : Nonterminal) (rest body : List Symbol) (t : Token) (ts : List Token) → Begins n (terminal_of C t.kind) body → HasFewStars (t ∷ ts) → Runs C (flat body ++ Many n ∷ rest) ts → Runs C (Many n ∷ rest) (t ∷ ts)
  last : (n : Nonterminal) (rest : List Symbol) (t : Token) (ts : List Token) → NoneBegins C n t.kind → Runs C rest (t ∷ ts) → Runs C (Many n ∷ rest) (t ∷ ts)
  taken : (n : Nonterminal) (p : Pattern) (rest body : List Symbol) (t : Token) (ts : List Token) → Begins n (terminal_of C t.kind) body → HasFewStars (t ∷ ts) → Runs C (flat body ++ rest) ts → Runs C (Greedy n p ∷ rest) (t ∷ ts)
  left_out : (n : Nonterminal) (p : Pattern) (rest : List Symbol) (t : Token) (ts : List Token) → NoneBegins C n t.kind → admits p (terminal_of C t.kind) ≡ false → Runs C rest (t ∷ ts) → Runs C (Greedy n p ∷ rest) (t ∷ ts)
