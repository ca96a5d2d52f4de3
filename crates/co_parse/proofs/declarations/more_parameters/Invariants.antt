use Rattle.std.proofs.Common.{◌≡◌, ◌-◌}
use Rattle.co_rules.specs.Names.{holds}
use Rattle.co_parse.specs.Declarations.{more_parameters, parameters_from}
use Rattle.co_parse.proofs.declarations.more_parameters.Given as goal

abbrev pub invariant-loop-turn : goal.invariant-loop-turn
invariant-loop-turn l = more_parameters (holds l.within.classes.now) l.fn.first l.fn.cursor ≡ parameters_from (holds l.within.classes.now) (l._turn-end - l._turn) l.found l.cursor
