use Rattle.std.proofs.Common.{◌≡◌, ◌-◌}
use Rattle.co_rules.specs.Names.{holds}
use Rattle.co_expressions.specs.Expressions.{expression, more, more_from}
use Rattle.co_expressions.proofs.expressions.Grammar.more.Given as goal

abbrev pub invariant-loop-turn : goal.invariant-loop-turn
invariant-loop-turn g l = more (expression (holds l.self.classes.now) l.self.depth) l.fn.first l.fn.cursor ≡ more_from (expression (holds l.self.classes.now) l.self.depth) (l._turn-end - l._turn) l.found l.cursor
