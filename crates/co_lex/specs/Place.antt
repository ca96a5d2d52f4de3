-- Lines and columns, each counted from 1. Only a line feed ends a line; every other byte, a tab too, is one column.
use Rattle.std.specs.Prelude.{ℕ, ◌+◌, ◌==◌, if◌then◌else◌, List, [], ◌∷◌}
use Rattle.co_base.specs.declared.span.Span.{Span}

abbrev pub after_byte : Span → ℕ → Span
after_byte at b = if b == 10 then record { line = at.line + 1; col = 1 } else record { line = at.line; col = at.col + 1 }

-- the place after these bytes, the first of which stands at `at`
abbrev pub position_after : Span → List ℕ → Span
position_after at [] = at
position_after at (b ∷ bs) = position_after (after_byte at b) bs
