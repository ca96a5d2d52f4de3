use Rattle.std.proofs.Common.{◌≡◌, length, map}
use Rattle.co_rules.specs.Names.{lookup}
use Rattle.co_rules.proofs.names.lookup.Given as goal

abbrev pub invariant-loop-table : goal.invariant-loop-table
invariant-loop-table l = lookup (map (λ k. (k.0.now, k.1)) l.table) l.name ≡ lookup (map (λ k. (k.0.now, k.1)) l.initial.table) l.name

abbrev pub decreases-loop-table : goal.decreases-loop-table
decreases-loop-table l = length l.table
