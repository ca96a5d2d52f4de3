use Rattle.co_rules.specs.Rule.{in_head, from_head, from_local}
use Rattle.co_grammar.proofs.Appends.{among_first, finds_later}
use Rattle.co_grammar.proofs.machine.from_head.Goals as goal

pub returns-in-Some : goal.returns-in-Some
unfolding from_head
returns-in-Some c = among_first c.args.has_classes c.args.of c.args.terminal in_head from_local c.in-Some.body.now c.in-Some.ensures

pub returns-in-None : goal.returns-in-None
unfolding from_head
returns-in-None c = finds_later c.args.has_classes c.args.of c.args.terminal in_head from_local c.from_local.result c.in-None.ensures c.from_local.ensures
