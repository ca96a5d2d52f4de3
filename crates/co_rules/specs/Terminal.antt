-- What the grammar sees of a token.
use Rattle.std.specs.Prelude.{ℕ, List, map}
use Rattle.co_lex.specs.declared.token.Token.{Token}
use Rattle.co_lex.specs.declared.token.TokenKind.{TokenKind}
use Rattle.co_lex.specs.declared.token.TokenKind.TheVariants as kind
use Rattle.co_rules.specs.declared.symbol.Terminal.{Terminal}
use Rattle.co_rules.specs.declared.symbol.Terminal.TheVariants as terminal
use Rattle.co_rules.specs.Names.{known, is_class}

-- A name is seen with whether it is one of the names of classes, and which one of those that the grammar spells.
abbrev pub terminal_of : List (List ℕ) → TokenKind → Terminal
terminal_of names (kind.Name text) = terminal.Name (is_class names text) (known text)
terminal_of names (kind.Word w) = terminal.Word w
terminal_of names (kind.Int num value) = terminal.Number
terminal_of names (kind.Lit text) = terminal.Text
terminal_of names (kind.Mark m) = terminal.Mark m
terminal_of names kind.End = terminal.End

abbrev pub terminals : List (List ℕ) → List Token → List Terminal
terminals names tokens = map (λ t. terminal_of names t.kind) tokens
