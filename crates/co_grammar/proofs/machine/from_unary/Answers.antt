use Rattle.co_rules.specs.Rule.{in_unary, from_unary, in_operand}
use Rattle.co_grammar.proofs.Appends.{among_first, finds_later}
use Rattle.co_grammar.proofs.machine.from_unary.Goals as goal

pub returns-in-Some : goal.returns-in-Some
unfolding from_unary
returns-in-Some c = among_first c.args.has_classes c.args.of c.args.terminal in_unary in_operand c.in-Some.body.now c.in-Some.ensures

pub returns-in-None : goal.returns-in-None
unfolding from_unary
returns-in-None c = finds_later c.args.has_classes c.args.of c.args.terminal in_unary in_operand c.in_operand.result c.in-None.ensures c.in_operand.ensures
