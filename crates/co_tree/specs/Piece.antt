-- What a node of the tree is read aloud as: its tokens, and between them what else the grammar says there.
use Rattle.std.specs.Prelude.{ℕ, List, [], ◌∷◌, ◌++◌, Bool, true, false, codes}
use Rattle.co_base.specs.declared.span.Span.{Span}
use Rattle.co_lex.specs.declared.token.TokenKind.{TokenKind}
use Rattle.co_lex.specs.declared.token.TokenKind.TheVariants as kind
use Rattle.co_lex.specs.declared.token.Word.{Word}
use Rattle.co_lex.specs.declared.token.Mark.{Mark}
use Rattle.co_lex.specs.declared.token.Mark.TheVariants as mark

pub data Piece : Type 0 where
  token : TokenKind → Piece
  -- a declaration, a member or a statement begins: a line of the canonical text
  line : Piece
  -- a node begins here, and its span is that of the next token
  node : Span → Piece
  -- the next token opens a level
  opens : Piece
  -- the levels that are opened between these two end with the second
  enter : Piece
  leave : Piece

abbrev pub w : Word → Piece
w word = token (kind.Word word)

abbrev pub m : Mark → Piece
m mark = token (kind.Mark mark)

abbrev pub name : List ℕ → Piece
name text = token (kind.Name text)

-- the levels that are opened in a rule of the grammar last to its end
abbrev pub rule : List Piece → List Piece
rule pieces = enter ∷ (pieces ++ leave ∷ [])

-- the level of a `(` or a `{` lasts to its closing mark
abbrev pub in_parentheses : List Piece → List Piece
in_parentheses pieces = enter ∷ opens ∷ m mark.OpenParen ∷ (pieces ++ m mark.CloseParen ∷ leave ∷ [])

abbrev pub in_braces : List Piece → List Piece
in_braces pieces = enter ∷ opens ∷ m mark.OpenBrace ∷ (pieces ++ m mark.CloseBrace ∷ leave ∷ [])

-- a word that stands or doesn't
abbrev pub if_said : Bool → Piece → List Piece
if_said true piece = piece ∷ []
if_said false piece = []

-- a name after `std ::`
abbrev pub standard : List ℕ → List Piece
standard text = name (codes "std") ∷ m mark.Scope ∷ name text ∷ []

-- a name after `corun ::`
abbrev pub of_corun : List ℕ → List Piece
of_corun text = name (codes "corun") ∷ m mark.Scope ∷ name text ∷ []
