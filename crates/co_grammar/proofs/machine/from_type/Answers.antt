use Rattle.co_rules.specs.Rule.{in_type, from_type, from_statement}
use Rattle.co_grammar.proofs.Appends.{among_first, finds_later}
use Rattle.co_grammar.proofs.machine.from_type.Goals as goal

pub returns-in-Some : goal.returns-in-Some
unfolding from_type
returns-in-Some c = among_first c.args.has_classes c.args.of c.args.terminal in_type from_statement c.in-Some.body.now c.in-Some.ensures

pub returns-in-None : goal.returns-in-None
unfolding from_type
returns-in-None c = finds_later c.args.has_classes c.args.of c.args.terminal in_type from_statement c.from_statement.result c.in-None.ensures c.from_statement.ensures
