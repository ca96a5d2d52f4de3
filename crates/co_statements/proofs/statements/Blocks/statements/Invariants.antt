use Rattle.std.proofs.Common.{◌≡◌, ◌-◌}
use Rattle.co_rules.specs.Names.{holds}
use Rattle.co_expressions.specs.Expressions.{expression}
use Rattle.co_statements.specs.Statements.{statement}
use Rattle.co_statements.specs.Statements.{statements, statements_from}
use Rattle.co_statements.proofs.statements.Blocks.statements.Given as goal

abbrev pub invariant-loop-turn : goal.invariant-loop-turn
invariant-loop-turn g l = statements (holds l.self.within.classes.now) (expression (holds l.self.within.classes.now) l.self.within.depth) (statement (holds l.self.within.classes.now) l.self.within.depth) l.fn.cursor ≡ statements_from (holds l.self.within.classes.now) (expression (holds l.self.within.classes.now) l.self.within.depth) (statement (holds l.self.within.classes.now) l.self.within.depth) (l._turn-end - l._turn) l.found l.cursor
