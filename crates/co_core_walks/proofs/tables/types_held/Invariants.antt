use Rattle.std.proofs.Common.{◌≡◌, drop}
use Rattle.std.specs.List.{list_all}
use Rattle.co_core.specs.Ids as spec
use Rattle.co_core_walks.proofs.tables.types_held.Given as goal

abbrev pub invariant-loop-of : goal.invariant-loop-of
invariant-loop-of l =
    list_all (spec.type_held l.unit) (drop l.of-index l.types) ≡ list_all (spec.type_held l.unit) l.types
