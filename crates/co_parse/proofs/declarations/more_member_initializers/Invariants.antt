use Rattle.std.proofs.Common.{◌≡◌, ◌-◌}
use Rattle.co_rules.specs.Names.{holds}
use Rattle.co_expressions.specs.Expressions.{expression}
use Rattle.co_parse.specs.Declarations.{more_member_initializers, member_initializers_from}
use Rattle.co_parse.proofs.declarations.more_member_initializers.Given as goal

abbrev pub invariant-loop-turn : goal.invariant-loop-turn
invariant-loop-turn l = more_member_initializers (expression (holds l.within.classes.now) l.within.depth) l.fn.first l.fn.cursor ≡ member_initializers_from (expression (holds l.within.classes.now) l.within.depth) (l._turn-end - l._turn) l.found l.cursor
