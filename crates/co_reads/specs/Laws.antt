-- Where the rules read the tokens, the readers do too.
use Rattle.std.specs.Prelude.{◌≡◌, ℕ, ◌≤◌, ◌<◌, List, ◌∷◌, length, Ok}
use Rattle.co_lex.specs.declared.token.Token.{Token}
use Rattle.co_rules.specs.declared.symbol.Nonterminal.TheVariants as n
use Rattle.co_rules.specs.declared.symbol.Symbol.{Symbol}
use Rattle.co_rules.specs.declared.symbol.Symbol.TheVariants.{One, Maybe}
use Rattle.co_rules.specs.Names.{classes, is_class}
use Rattle.co_rules.specs.Rule.{start}
use Rattle.co_grammar.specs.Scan.{scanned}
use Rattle.co_tree.specs.Types as tree
use Rattle.co_tree.specs.Formed.{ClassPath, PlainBase, PlainType, as_unary}
use Rattle.co_reader.specs.Reading.{lead}
use Rattle.co_reader.specs.Types.{class_path, simple_type, type_id}
use Rattle.co_expressions.specs.Expressions.{binds, expression}
use Rattle.co_reads.specs.Expressions.{IsWhole, IsOperand}
use Rattle.co_reads.specs.Runs.{Runs}
use Rattle.co_reads.specs.Spells.{Spells}
use Rattle.co_reads.specs.Takes.{Takes}

-- the rules read each list that the scan accepts
abbrev pub ScannedRuns : Type 0
ScannedRuns = (tokens : List Token) → scanned tokens ≡ Ok tt → Runs (classes tokens) start tokens

-- the path of a class [class.pre]
abbrev pub ClassPathsAreRead : Type 0
ClassPathsAreRead = (C : List (List ℕ)) (R : List Symbol) (ts : List Token) → Runs C (One n.ClassPath ∷ R) ts → Takes (class_path (is_class C)) (λ p left. Spells (tree.path p) ts left × ClassPath C p) C R ts

-- the base of a type [dcl.type.simple]
abbrev pub BasesAreRead : Type 0
BasesAreRead = (C : List (List ℕ)) (R : List Symbol) (ts : List Token) → Runs C (One n.Base ∷ R) ts → Takes (simple_type (is_class C)) (λ base left. Spells (tree.simple_type base) ts left × PlainBase C base) C R ts

-- a type [dcl.name]
abbrev pub TypesAreRead : Type 0
TypesAreRead = (C : List (List ℕ)) (R : List Symbol) (ts : List Token) → Runs C (One n.TypeId ∷ R) ts → Takes (type_id (is_class C)) (λ t left. Spells (tree.type_id t) ts left × PlainType C t) C R ts

-- a whole expression [expr.comma]
abbrev pub ExpressionsAreRead : Type 0
ExpressionsAreRead =
    (C : List (List ℕ)) (depth : ℕ) (R : List Symbol) (ts : List Token) → length ts ≤ depth → Runs C (One n.Expression ∷ R) ts → Takes (expression (is_class C) depth 0) (λ e left. IsWhole C ts e left) C R ts

-- An operand, and the operators between operands behind it that bind so tightly [expr.mul] to [expr.log.or]; the next one binds less.
abbrev pub OperandsAreRead : Type 0
OperandsAreRead =
    (C : List (List ℕ)) (depth least : ℕ) (R : List Symbol) (ts : List Token) → 1 ≤ least → least ≤ as_unary → length ts ≤ depth → Runs C (One n.Unary ∷ Maybe n.Operators ∷ R) ts
    → Takes (expression (is_class C) depth least) (λ e left. IsOperand C least ts e left × (binds (lead left) < least)) C (Maybe n.Operators ∷ R) ts
