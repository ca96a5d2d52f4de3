use Rattle.std.proofs.Common.{◌≡◌, length}
use Rattle.co_grammar.specs.Machine.{step}
use Rattle.co_grammar.proofs.machine.step.Given as goal

abbrev pub invariant-loop-symbol : goal.invariant-loop-symbol
invariant-loop-symbol l = step l.fn.has_classes l.fn.terminal l.stack ≡ step l.fn.has_classes l.fn.terminal l.fn.stack

abbrev pub decreases-loop-symbol : goal.decreases-loop-symbol
decreases-loop-symbol l = length l.stack
