use Rattle.std.proofs.Common.{◌≡◌, ◌-◌}
use Rattle.co_rules.specs.Names.{holds}
use Rattle.co_expressions.specs.Expressions.{expression, postfix, postfix_from}
use Rattle.co_expressions.proofs.expressions.Grammar.postfix.Given as goal

abbrev pub invariant-loop-turn : goal.invariant-loop-turn
invariant-loop-turn g l =
    postfix (expression (holds l.self.classes.now) l.self.depth) l.at l.fn.operand l.fn.cursor ≡ postfix_from (expression (holds l.self.classes.now) l.self.depth) l.at (l._turn-end - l._turn) l.operand l.cursor
