use Rattle.std.proofs.Common.{◌≡◌, ◌-◌}
use Rattle.co_rules.specs.Names.{holds}
use Rattle.co_parse.specs.Declarations.{specifiers, specifiers_from}
use Rattle.co_parse.proofs.declarations.specifiers.Given as goal

abbrev pub invariant-loop-turn : goal.invariant-loop-turn
invariant-loop-turn l = specifiers l.fn.cursor ≡ specifiers_from (l._turn-end - l._turn) l.found l.cursor
