-- Readers of expressions that are nested in others.
use Rattle.std.proofs.Common.{ℕ, ◌≤◌, ◌<◌, List, ◌∷◌, length}
use Rattle.co_lex.specs.declared.token.Token.{Token}
use Rattle.co_rules.specs.declared.symbol.Nonterminal.TheVariants as n
use Rattle.co_rules.specs.declared.symbol.Symbol.{Symbol}
use Rattle.co_rules.specs.declared.symbol.Symbol.TheVariants.{One, Maybe}
use Rattle.co_tree.specs.declared.expressions.Expression.{Expression}
use Rattle.co_tree.specs.Formed.{as_unary}
use Rattle.co_reader.specs.Reading.{Reader, lead}
use Rattle.co_expressions.specs.Expressions.{binds}
use Rattle.co_reads.specs.Expressions.{IsWhole, IsOperand}
use Rattle.co_reads.specs.Runs.{Runs}
use Rattle.co_reads.specs.Takes.{Takes}
use Rattle.co_reads.proofs.Cases.{HasMore}

-- an expression is read
abbrev pub WholeTaken : List (List ℕ) → (ℕ → Reader Expression) → List Symbol → List Token → Type 0
WholeTaken C expression R ts = Takes (expression 0) (λ e left. IsWhole C ts e left) C R ts

-- an operand is read
abbrev pub UnaryTaken : List (List ℕ) → (ℕ → Reader Expression) → List Symbol → List Token → Type 0
UnaryTaken C expression R ts = Takes (expression as_unary) (λ e left. IsOperand C as_unary ts e left) C R ts

-- an operand is read with the operators that bind so tightly
abbrev pub OperandTaken : List (List ℕ) → (ℕ → Reader Expression) → ℕ → List Symbol → List Token → Type 0
OperandTaken C expression least R ts = Takes (expression least) (λ e left. IsOperand C least ts e left × (binds (lead left) < least)) C (Maybe n.Operators ∷ R) ts

-- the reader reads what stands in so many tokens
pub record Nested (C : List (List ℕ)) (expression : ℕ → Reader Expression) (count : ℕ) : Type 0 where
  pub whole : (R : List Symbol) (ts : List Token) → length ts ≤ count → Runs C (One n.Expression ∷ R) ts → WholeTaken C expression R ts
  pub unary : (R : List Symbol) (ts : List Token) → HasMore R → length ts ≤ count → Runs C (One n.Unary ∷ R) ts → UnaryTaken C expression R ts
  pub operand : (least : ℕ) (R : List Symbol) (ts : List Token) → 1 ≤ least → least ≤ as_unary → length ts ≤ count → Runs C (One n.Unary ∷ Maybe n.Operators ∷ R) ts → OperandTaken C expression least R ts
