use Rattle.std.proofs.Common.{◌≡◌, length, map}
use Rattle.std.specs.Prelude.{bytes_eq}
use Rattle.std.specs.List.{list_any}
use Rattle.co_first_parse.proofs.words.is_one_of.Given as goal

abbrev pub invariant-loop-table : goal.invariant-loop-table
invariant-loop-table l = list_any (λ other. bytes_eq other l.word) (map (λ other. other.now) l.table) ≡ list_any (λ other. bytes_eq other l.word) (map (λ other. other.now) l.initial.table)

abbrev pub decreases-loop-table : goal.decreases-loop-table
decreases-loop-table l = length l.table
