use Rattle.co_rules.specs.Rule.{in_class, from_class, from_type}
use Rattle.co_grammar.proofs.Appends.{among_first, finds_later}
use Rattle.co_grammar.proofs.machine.from_class.Goals as goal

pub returns-in-Some : goal.returns-in-Some
unfolding from_class
returns-in-Some c = among_first c.args.has_classes c.args.of c.args.terminal in_class from_type c.in-Some.body.now c.in-Some.ensures

pub returns-in-None : goal.returns-in-None
unfolding from_class
returns-in-None c = finds_later c.args.has_classes c.args.of c.args.terminal in_class from_type c.from_type.result c.in-None.ensures c.from_type.ensures
