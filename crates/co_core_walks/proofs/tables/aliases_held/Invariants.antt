use Rattle.std.proofs.Common.{◌≡◌, drop}
use Rattle.std.specs.List.{list_all}
use Rattle.co_core.specs.Ids as spec
use Rattle.co_core_walks.proofs.tables.aliases_held.Given as goal

abbrev pub invariant-loop-alias : goal.invariant-loop-alias
invariant-loop-alias l =
    list_all (spec.alias_held l.unit) (drop l.alias-index l.aliases) ≡ list_all (spec.alias_held l.unit) l.aliases
