-- What is parsed of a list of tokens, and what the grammar of the tree derives.
use Rattle.std.specs.Prelude.{◌≡◌, ℕ, ◌+◌, ◌<◌, ◌++◌, List, length, take, Result, Ok, Err}
use Rattle.co_lex.specs.declared.token.Token.{Token}
use Rattle.co_rules.specs.Names.{classes}
use Rattle.co_grammar.specs.declared.fault.Fault.TheVariants as fault
use Rattle.co_grammar.specs.Scan.{scanned}
use Rattle.co_tree.specs.declared.declarations.Tree.{Tree}
use Rattle.co_tree.specs.FormedTree.{Derives}
use Rattle.co_parse.specs.declared.fault.ParseFault.{ParseFault}
use Rattle.co_parse.specs.declared.fault.ParseFault.TheVariants.{Syntax, TooDeep, NoMemory}
use Rattle.co_parse.specs.Parse.{parsed, place_at}

-- Where the scan finds no fault, the answer is a tree, which derives the tokens: it is formed, its sentence is the tokens, and each
-- of its nodes has the place of its first token.
abbrev pub Parses : Type 0
Parses = (tokens : List Token) → scanned tokens ≡ Ok tt → (tree : Tree) × (parsed tokens ≡ Ok tree) × Derives (classes tokens) tree tokens

-- Each tree that is the answer derives the tokens.
abbrev pub AnswersDerive : Type 0
AnswersDerive = (tokens : List Token) (tree : Tree) → parsed tokens ≡ Ok tree → Derives (classes tokens) tree tokens

-- a tree, or the fault of a token that opens too many levels
abbrev pub IsNoSyntaxFault : Result Tree ParseFault → Type 0
IsNoSyntaxFault (Ok tree) = Unit {0}
IsNoSyntaxFault (Err (TooDeep at)) = Unit {0}
IsNoSyntaxFault (Err (Syntax at)) = ⊥
IsNoSyntaxFault (Err NoMemory) = ⊥

-- Tokens that some tree derives have no syntax fault.
abbrev pub RefusesNoTree : Type 0
RefusesNoTree = (tokens : List Token) (tree : Tree) → Derives (classes tokens) tree tokens → IsNoSyntaxFault (parsed tokens)

-- A syntax fault stands at a token such that no tree derives a list that begins with the tokens up to and with it, or at the end of a
-- list that no tree derives. (The tokens before it are the beginning of a file by the rules: `SyntaxIsFirst`.)
abbrev pub SyntaxFaultsAreOfNoTree : Type 0
SyntaxFaultsAreOfNoTree =
    (tokens : List Token) (at : ℕ) → scanned tokens ≡ Err (fault.Syntax at) →
    (parsed tokens ≡ Err (Syntax (place_at tokens at))) × (at < length tokens → (tree : Tree) (more : List Token) → Derives (classes tokens) tree (take (at + 1) tokens ++ more) → ⊥)
    × (at ≡ length tokens → (tree : Tree) → Derives (classes tokens) tree tokens → ⊥)
