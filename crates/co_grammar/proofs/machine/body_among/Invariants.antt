use Rattle.std.proofs.Common.{◌≡◌, length, map}
use Rattle.co_grammar.specs.Machine.{body_among}
use Rattle.co_rules.specs.Rule.{rule}
use Rattle.co_grammar.proofs.machine.body_among.Given as goal

abbrev pub invariant-loop-rules : goal.invariant-loop-rules
invariant-loop-rules l = body_among l.has_classes l.of l.terminal (map (λ r. rule r.0 r.1 r.2.now) l.rules) ≡ body_among l.has_classes l.of l.terminal (map (λ r. rule r.0 r.1 r.2.now) l.initial.rules)

abbrev pub decreases-loop-rules : goal.decreases-loop-rules
decreases-loop-rules l = length l.rules
