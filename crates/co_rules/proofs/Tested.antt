-- The tests of the table.
use Rattle.std.proofs.Common.{◌≡◌, true, refl}
use Rattle.co_rules.specs.Rule.{rules, in_file, in_class, in_type, in_statement, in_head, in_local, in_value, in_argument, in_unary, in_operand, from_file, from_class, from_type, from_statement, from_head, from_local, from_value, from_argument, from_unary}
use Rattle.co_rules.proofs.Follow.{fit, fits, distinct, numbers, heads, follow}

pub rules-distinct : distinct rules ≡ true
unfolding in_file in_class in_type in_statement in_head in_local in_value in_argument in_unary in_operand from_file from_class from_type from_statement from_head from_local from_value from_argument from_unary numbers
rules-distinct = refl

pub rules-fit : fit rules ≡ true
unfolding in_file in_class in_type in_statement in_head in_local in_value in_argument in_unary in_operand from_file from_class from_type from_statement from_head from_local from_value from_argument from_unary numbers heads follow fits
rules-fit = refl
