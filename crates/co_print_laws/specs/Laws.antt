-- The laws of a tree and its canonical text.
use Rattle.std.specs.Prelude.{◌≡◌, ℕ, List, map}
use Rattle.co_lex.specs.declared.token.Token.{Token}
use Rattle.co_lex.specs.Spells.{Spells}
use Rattle.co_rules.specs.Names.{classes}
use Rattle.co_tree.specs.declared.declarations.Tree.{Tree}
use Rattle.co_tree.specs.Derives.{tokens_of}
use Rattle.co_tree.specs.FormedTree.{Formed, Derives}
use Rattle.co_tree.specs.Strip.{strip}
use Rattle.co_print.specs.Printed.{printed}

-- Each list of the tokens of a formed tree has a tree that derives it: the same but for its spans, with the same canonical text.
abbrev pub TreeOfTokens : Type 0
TreeOfTokens =
    (C : List (List ℕ)) (tree : Tree) (tokens : List Token) → Formed C tree → map (λ t. t.kind) tokens ≡ tokens_of tree →
    (other : Tree) × (strip other ≡ strip tree) × (printed other ≡ printed tree) × Derives C other tokens

-- Where a text has a tree, the canonical text of the tree has one too: the same but for its spans, with the same canonical text.
abbrev pub PrintedDerives : Type 0
PrintedDerives =
    (tree : Tree) (bytes : List ℕ) (tokens : List Token) → Spells bytes tokens → Derives (classes tokens) tree tokens →
    (others : List Token) × (other : Tree) × Spells (printed tree) others × (strip other ≡ strip tree) × (printed other ≡ printed tree)
    × Derives (classes others) other others
