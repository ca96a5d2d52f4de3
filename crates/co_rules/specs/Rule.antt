-- The rules of the grammar.
use Rattle.std.specs.Prelude.{◌≡◌, ◌⊎◌, List, [], ◌∷◌, ◌++◌, map}
use Rattle.co_rules.specs.declared.symbol.Nonterminal.{Nonterminal}
use Rattle.co_rules.specs.declared.symbol.Nonterminal.TheVariants as nonterminal
use Rattle.co_rules.specs.declared.symbol.Pattern.{Pattern}
use Rattle.co_rules.specs.declared.symbol.Pattern.TheVariants as pattern
use Rattle.co_rules.specs.declared.symbol.Symbol.{Symbol}
use Rattle.co_rules.specs.declared.symbol.Symbol.TheVariants.{Token, Many}
use Rattle.co_rules.specs.declared.table.TheConstants.{FILE, CLASS, TYPE, STATEMENT, HEAD, LOCAL, VALUE, ARGUMENT, UNARY, OPERAND}

-- The nonterminal derives a token of the pattern and then what the body does.
pub record Rule : Type 0 where
  pub of : Nonterminal
  pub head : Pattern
  pub body : List Symbol

abbrev pub rule : Nonterminal → Pattern → List Symbol → Rule
rule n p body = record { of = n; head = p; body = body }

-- the rules of each table
unfoldable pub in_file : List Rule
in_file = map (λ r. rule r.0 r.1 r.2.now) FILE

unfoldable pub in_class : List Rule
in_class = map (λ r. rule r.0 r.1 r.2.now) CLASS

unfoldable pub in_type : List Rule
in_type = map (λ r. rule r.0 r.1 r.2.now) TYPE

unfoldable pub in_statement : List Rule
in_statement = map (λ r. rule r.0 r.1 r.2.now) STATEMENT

unfoldable pub in_head : List Rule
in_head = map (λ r. rule r.0 r.1 r.2.now) HEAD

unfoldable pub in_local : List Rule
in_local = map (λ r. rule r.0 r.1 r.2.now) LOCAL

unfoldable pub in_value : List Rule
in_value = map (λ r. rule r.0 r.1 r.2.now) VALUE

unfoldable pub in_argument : List Rule
in_argument = map (λ r. rule r.0 r.1 r.2.now) ARGUMENT

unfoldable pub in_unary : List Rule
in_unary = map (λ r. rule r.0 r.1 r.2.now) UNARY

unfoldable pub in_operand : List Rule
in_operand = map (λ r. rule r.0 r.1 r.2.now) OPERAND

-- and with those of the tables after it
unfoldable pub from_unary : List Rule
from_unary = in_unary ++ in_operand

unfoldable pub from_argument : List Rule
from_argument = in_argument ++ from_unary

unfoldable pub from_value : List Rule
from_value = in_value ++ from_argument

unfoldable pub from_local : List Rule
from_local = in_local ++ from_value

unfoldable pub from_head : List Rule
from_head = in_head ++ from_local

unfoldable pub from_statement : List Rule
from_statement = in_statement ++ from_head

unfoldable pub from_type : List Rule
from_type = in_type ++ from_statement

unfoldable pub from_class : List Rule
from_class = in_class ++ from_type

unfoldable pub from_file : List Rule
from_file = in_file ++ from_class

abbrev pub rules : List Rule
rules = from_file

-- a rule stands in the list
abbrev pub Stands : Rule → List Rule → Type 0
Stands r [] = ⊥
Stands r (q ∷ qs) = (q ≡ r) ⊎ Stands r qs

-- what a file derives: declarations and then its end [basic.link]
abbrev pub start : List Symbol
start = Many nonterminal.Item ∷ Token pattern.End ∷ []
