-- Expressions and blocks where the rules read them.
use Rattle.std.proofs.Common.{ℕ, ◌≤◌, List, ◌∷◌, length}
use Rattle.co_lex.specs.declared.token.Token.{Token}
use Rattle.co_rules.specs.declared.symbol.Nonterminal.TheVariants as n
use Rattle.co_rules.specs.declared.symbol.Symbol.{Symbol}
use Rattle.co_rules.specs.declared.symbol.Symbol.TheVariants.{One}
use Rattle.co_rules.specs.Names.{is_class}
use Rattle.co_tree.specs.Sentence as sentence
use Rattle.co_tree.specs.Statements as tree
use Rattle.co_tree.specs.Formed.{FormedExpression}
use Rattle.co_tree.specs.FormedTree.{FormedBlock}
use Rattle.co_expressions.specs.Expressions.{expression}
use Rattle.co_statements.specs.Statements.{block_within}
use Rattle.co_reads.specs.Runs.{Runs}
use Rattle.co_reads.specs.Spells.{Spells}
use Rattle.co_reads.specs.Takes.{Takes}
use Rattle.co_reads.proofs.Expressions.{nested}
use Rattle.co_reads.proofs.Spells.{spells_rule}

abbrev pub ExpressionTaken : List (List ℕ) → ℕ → List Symbol → List Token → Type 0
ExpressionTaken C depth R ts = Takes (expression (is_class C) depth 0) (λ e left. Spells (tree.full e) ts left × FormedExpression C e) C R ts

-- an expression, with the levels that are opened in it
pub expression_taken : (C : List (List ℕ)) (depth : ℕ) (R : List Symbol) (ts : List Token) → length ts ≤ depth → Runs C (One n.Expression ∷ R) ts → ExpressionTaken C depth R ts
expression_taken C depth R ts b h =
    let e = (nested C depth).whole R ts b h in
    record { part = e.part; left = e.left; read = e.read; is = (spells_rule (sentence.expression e.part) ts e.left e.is.spelled, e.is.formed); runs = e.runs }

abbrev pub BlockTaken : List (List ℕ) → ℕ → List Symbol → List Token → Type 0
BlockTaken C depth R ts = Takes (block_within (is_class C) depth) (λ b left. Spells (tree.block b) ts left × FormedBlock C b) C R ts
