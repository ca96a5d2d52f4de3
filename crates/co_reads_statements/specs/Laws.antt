-- Where the rules of statements read the tokens, the readers do too.
use Rattle.std.specs.Prelude.{ℕ, suc, ◌≤◌, List, ◌∷◌, length}
use Rattle.co_lex.specs.declared.token.Token.{Token}
use Rattle.co_rules.specs.declared.symbol.Nonterminal.TheVariants as n
use Rattle.co_rules.specs.declared.symbol.Symbol.{Symbol}
use Rattle.co_rules.specs.declared.symbol.Symbol.TheVariants.{One}
use Rattle.co_rules.specs.Names.{is_class}
use Rattle.co_tree.specs.FormedTree.{FormedBlock}
use Rattle.co_tree.specs.Statements as tree
use Rattle.co_expressions.specs.Expressions.{expression}
use Rattle.co_statements.specs.Statements.{short, statement, block_within}
use Rattle.co_reads.specs.Runs.{Runs}
use Rattle.co_reads.specs.Spells.{Spells}
use Rattle.co_reads.specs.Takes.{Takes}
use Rattle.co_reads_statements.specs.Statements.{IsShort, IsStatement}

-- a local, an expression or nothing, and the `;` behind it [stmt.for]
abbrev pub ForInitsAreRead : Type 0
ForInitsAreRead =
    (C : List (List ℕ)) (depth : ℕ) (R : List Symbol) (ts : List Token) → length ts ≤ depth → Runs C (One n.ForInit ∷ R) ts → Takes (short (is_class C) (expression (is_class C) depth)) (λ i left. IsShort C ts i left) C R ts

-- a statement [stmt.pre]
abbrev pub StatementsAreRead : Type 0
StatementsAreRead = (C : List (List ℕ)) (depth : ℕ) (R : List Symbol) (ts : List Token) → length ts ≤ depth → Runs C (One n.Statement ∷ R) ts → Takes (statement (is_class C) (suc depth)) (λ s left. IsStatement C ts s left) C R ts

-- a block [stmt.block]
abbrev pub BlocksAreRead : Type 0
BlocksAreRead = (C : List (List ℕ)) (depth : ℕ) (R : List Symbol) (ts : List Token) → length ts ≤ depth → Runs C (One n.Block ∷ R) ts → Takes (block_within (is_class C) depth) (λ b left. Spells (tree.block b) ts left × FormedBlock C b) C R ts
