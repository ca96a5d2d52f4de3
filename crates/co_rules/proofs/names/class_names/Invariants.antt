use Rattle.std.proofs.Common.{drop}
use Rattle.co_rules.specs.Names.{classes}
use Rattle.co_rules.proofs.Classes.{Gathers}
use Rattle.co_rules.proofs.names.class_names.Given as goal

abbrev pub invariant-loop-token : goal.invariant-loop-token
invariant-loop-token l = Gathers l.classes l.is_named (drop l.token-index l.tokens) (classes l.fn.tokens)
