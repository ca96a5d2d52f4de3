-- A law of the tokens of a tree.
use Rattle.std.specs.Prelude.{◌≡◌, List, map}
use Rattle.co_lex.specs.declared.token.Token.{Token}
use Rattle.co_tree.specs.declared.declarations.Tree.{Tree}
use Rattle.co_tree.specs.Declarations.{sentence_of}
use Rattle.co_tree.specs.Derives.{Reads, tokens_of}

-- The lists of tokens that a tree derives differ in their places alone.
abbrev pub ReadsTokens : Type 0
ReadsTokens = (tree : Tree) (tokens : List Token) → Reads (sentence_of tree) tokens → map (λ t. t.kind) tokens ≡ tokens_of tree
