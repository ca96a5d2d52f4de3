use Rattle.std.proofs.Common.{◌≡◌, ◌-◌}
use Rattle.co_rules.specs.Names.{holds}
use Rattle.co_expressions.specs.Expressions.{expression, operations, operations_from}
use Rattle.co_expressions.proofs.expressions.Grammar.operations.Given as goal

abbrev pub invariant-loop-turn : goal.invariant-loop-turn
invariant-loop-turn g l =
    operations (expression (holds l.self.classes.now) l.self.depth) l.at l.least l.fn.left l.fn.cursor ≡ operations_from (expression (holds l.self.classes.now) l.self.depth) l.at l.least (l._turn-end - l._turn) l.left l.cursor
