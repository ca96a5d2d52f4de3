-- The rules of the grammar derive what the trees derive.
use Rattle.std.specs.Prelude.{ℕ, List, map}
use Rattle.co_lex.specs.declared.token.Token.{Token}
use Rattle.co_rules.specs.Terminal.{terminal_of}
use Rattle.co_rules.specs.Derives.{Derives}
use Rattle.co_rules.specs.Rule.{start}
use Rattle.co_grammar.specs.Laws.{IsFile}
use Rattle.co_tree.specs.declared.declarations.Tree.{Tree}
use Rattle.co_tree.specs.Derives.{tokens_of}
use Rattle.co_tree.specs.FormedTree.{Formed, Derives as DerivesTokens}

-- Where C are the names of the classes, the rules derive the tokens of each tree that is formed.
abbrev pub RulesCover : Type 0
RulesCover = (C : List (List ℕ)) (tree : Tree) → Formed C tree → Derives start (map (terminal_of C) (tokens_of tree))

-- Where C are the names of the classes, each list of tokens that a tree derives is a file by the rules.
abbrev pub EachTreeIsAFile : Type 0
EachTreeIsAFile = (C : List (List ℕ)) (tree : Tree) (tokens : List Token) → DerivesTokens C tree tokens → IsFile C tokens
