use Rattle.co_rules.specs.Rule.{in_argument, from_argument, from_unary}
use Rattle.co_grammar.proofs.Appends.{among_first, finds_later}
use Rattle.co_grammar.proofs.machine.from_argument.Goals as goal

pub returns-in-Some : goal.returns-in-Some
unfolding from_argument
returns-in-Some c = among_first c.args.has_classes c.args.of c.args.terminal in_argument from_unary c.in-Some.body.now c.in-Some.ensures

pub returns-in-None : goal.returns-in-None
unfolding from_argument
returns-in-None c = finds_later c.args.has_classes c.args.of c.args.terminal in_argument from_unary c.from_unary.result c.in-None.ensures c.from_unary.ensures
