use Rattle.co_rules.specs.Rule.{in_statement, from_statement, from_head}
use Rattle.co_grammar.proofs.Appends.{among_first, finds_later}
use Rattle.co_grammar.proofs.machine.from_statement.Goals as goal

pub returns-in-Some : goal.returns-in-Some
unfolding from_statement
returns-in-Some c = among_first c.args.has_classes c.args.of c.args.terminal in_statement from_head c.in-Some.body.now c.in-Some.ensures

pub returns-in-None : goal.returns-in-None
unfolding from_statement
returns-in-None c = finds_later c.args.has_classes c.args.of c.args.terminal in_statement from_head c.from_head.result c.in-None.ensures c.from_head.ensures
