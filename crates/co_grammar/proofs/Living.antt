-- The tests that each rule derives some list.
use Rattle.std.proofs.Common.{◌≡◌, Bool, true, false, not, ◌||◌, refl}
use Rattle.std.specs.List.{list_all}
use Rattle.co_rules.specs.declared.symbol.Nonterminal.TheVariants as nonterminal
use Rattle.co_rules.specs.Rule.{rules, start, in_file, in_class, in_type, in_statement, in_head, in_local, in_value, in_argument, in_unary, in_operand, from_file, from_class, from_type, from_statement, from_head, from_local, from_value, from_argument, from_unary}
use Rattle.co_grammar.proofs.Lives.{grows, lives, live, all_live, all_barren}
use Rattle.co_rules.proofs.Places.{every}

-- each nonterminal derives a list, but for those that need a class where there is none
pub every-lives : (has : Bool) → list_all (λ n. not (live has n) || lives 6 has n) every ≡ true
unfolding in_file in_class in_type in_statement in_head in_local in_value in_argument in_unary in_operand from_file from_class from_type from_statement from_head from_local from_value from_argument from_unary
every-lives true = refl
every-lives false = refl

pub item-lives : (has : Bool) → (not (live has nonterminal.Item) || lives 6 has nonterminal.Item) ≡ true
unfolding in_file in_class in_type in_statement in_head in_local in_value in_argument in_unary in_operand from_file from_class from_type from_statement from_head from_local from_value from_argument from_unary
item-lives true = refl
item-lives false = refl

pub rules-live : (has : Bool) → all_live has rules ≡ true
unfolding in_file in_class in_type in_statement in_head in_local in_value in_argument in_unary in_operand from_file from_class from_type from_statement from_head from_local from_value from_argument from_unary
rules-live true = refl
rules-live false = refl

pub start-lives : (has : Bool) → grows (live has) has start ≡ true
start-lives true = refl
start-lives false = refl

pub rules-barren : all_barren rules ≡ true
unfolding in_file in_class in_type in_statement in_head in_local in_value in_argument in_unary in_operand from_file from_class from_type from_statement from_head from_local from_value from_argument from_unary
rules-barren = refl
