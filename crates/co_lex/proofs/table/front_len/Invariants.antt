use Rattle.std.proofs.Common.{◌≡◌, length, map}
use Rattle.co_lex.specs.Table.{front_len}
use Rattle.co_lex.proofs.table.front_len.Given as goal

abbrev pub invariant-loop-table : goal.invariant-loop-table
invariant-loop-table l = front_len (map (λ h. h.now) l.table) l.bytes ≡ front_len (map (λ h. h.now) l.initial.table) l.bytes

abbrev pub decreases-loop-table : goal.decreases-loop-table
decreases-loop-table l = length l.table
