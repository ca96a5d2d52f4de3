use Rattle.std.proofs.Common.{◌≡◌, ◌+◌, ◌≤◌, drop}
use Rattle.co_lex.specs.Place.{position_after}
use Rattle.co_lex.proofs.place.position_after.Given as goal

abbrev pub invariant-loop-byte : goal.invariant-loop-byte
invariant-loop-byte l =
    (position_after l.place (drop l.byte-index l.bytes) ≡ position_after l.fn.at l.bytes) × (1 ≤ l.place.col) × (l.place.line + l.place.col ≤ l.fn.at.line + l.fn.at.col + l.byte-index)
