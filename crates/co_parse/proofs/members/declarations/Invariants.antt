use Rattle.std.proofs.Common.{◌≡◌, ◌-◌}
use Rattle.co_rules.specs.Names.{holds}
use Rattle.co_parse.specs.Declarations.{declarations, declarations_from}
use Rattle.co_parse.proofs.members.declarations.Given as goal

abbrev pub invariant-loop-turn : goal.invariant-loop-turn
invariant-loop-turn l = declarations (holds l.within.classes.now) l.within.depth l.fn.cursor ≡ declarations_from (holds l.within.classes.now) l.within.depth (l._turn-end - l._turn) l.found l.cursor
