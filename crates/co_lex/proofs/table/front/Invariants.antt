use Rattle.std.proofs.Common.{◌≡◌, length, map}
use Rattle.co_lex.specs.Table.{front}
use Rattle.co_lex.proofs.table.front.Given as goal

abbrev pub invariant-loop-table : goal.invariant-loop-table
invariant-loop-table l = front (map (λ k. (k.0.now, k.1)) l.table) l.bytes ≡ front (map (λ k. (k.0.now, k.1)) l.initial.table) l.bytes

abbrev pub decreases-loop-table : goal.decreases-loop-table
decreases-loop-table l = length l.table
