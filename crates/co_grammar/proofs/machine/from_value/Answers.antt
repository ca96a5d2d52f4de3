use Rattle.co_rules.specs.Rule.{in_value, from_value, from_argument}
use Rattle.co_grammar.proofs.Appends.{among_first, finds_later}
use Rattle.co_grammar.proofs.machine.from_value.Goals as goal

pub returns-in-Some : goal.returns-in-Some
unfolding from_value
returns-in-Some c = among_first c.args.has_classes c.args.of c.args.terminal in_value from_argument c.in-Some.body.now c.in-Some.ensures

pub returns-in-None : goal.returns-in-None
unfolding from_value
returns-in-None c = finds_later c.args.has_classes c.args.of c.args.terminal in_value from_argument c.from_argument.result c.in-None.ensures c.from_argument.ensures
