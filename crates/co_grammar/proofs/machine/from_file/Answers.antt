use Rattle.co_rules.specs.Rule.{in_file, from_file, from_class}
use Rattle.co_grammar.proofs.Appends.{among_first, finds_later}
use Rattle.co_grammar.proofs.machine.from_file.Goals as goal

pub returns-in-Some : goal.returns-in-Some
unfolding from_file
returns-in-Some c = among_first c.args.has_classes c.args.of c.args.terminal in_file from_class c.in-Some.body.now c.in-Some.ensures

pub returns-in-None : goal.returns-in-None
unfolding from_file
returns-in-None c = finds_later c.args.has_classes c.args.of c.args.terminal in_file from_class c.from_class.result c.in-None.ensures c.from_class.ensures
