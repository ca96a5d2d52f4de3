use Rattle.std.proofs.Common.{◌≡◌, ◌-◌}
use Rattle.co_reader.specs.Types.{stars, stars_from}
use Rattle.co_reader.proofs.types.stars.Given as goal

abbrev pub invariant-loop-turn : goal.invariant-loop-turn
invariant-loop-turn l = stars l.fn.cursor ≡ stars_from (1000 - l.turn) l.turn l.cursor
