-- The law of the canonical text.
use Rattle.std.specs.Prelude.{◌≡◌, ℕ, List, map}
use Rattle.co_lex.specs.declared.token.Token.{Token}
use Rattle.co_lex.specs.Spells.{Spells}
use Rattle.co_tree.specs.declared.declarations.Tree.{Tree}
use Rattle.co_tree.specs.Declarations.{sentence_of}
use Rattle.co_tree.specs.Derives.{Reads, tokens_of}
use Rattle.co_print.specs.Printed.{printed}

-- Where a text has the tokens of a tree, the canonical text of the tree has them too, their places aside.
abbrev pub PrintedSpells : Type 0
PrintedSpells =
    (tree : Tree) (bytes : List ℕ) (tokens : List Token) → Spells bytes tokens → Reads (sentence_of tree) tokens →
    (others : List Token) × Spells (printed tree) others × (map (λ t. t.kind) others ≡ tokens_of tree)
