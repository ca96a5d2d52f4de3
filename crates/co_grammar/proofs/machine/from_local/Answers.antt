use Rattle.co_rules.specs.Rule.{in_local, from_local, from_value}
use Rattle.co_grammar.proofs.Appends.{among_first, finds_later}
use Rattle.co_grammar.proofs.machine.from_local.Goals as goal

pub returns-in-Some : goal.returns-in-Some
unfolding from_local
returns-in-Some c = among_first c.args.has_classes c.args.of c.args.terminal in_local from_value c.in-Some.body.now c.in-Some.ensures

pub returns-in-None : goal.returns-in-None
unfolding from_local
returns-in-None c = finds_later c.args.has_classes c.args.of c.args.terminal in_local from_value c.from_value.result c.in-None.ensures c.from_value.ensures
