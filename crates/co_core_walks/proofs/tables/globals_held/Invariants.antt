use Rattle.std.proofs.Common.{◌≡◌, drop}
use Rattle.std.specs.List.{list_all}
use Rattle.co_core.specs.Ids as spec
use Rattle.co_core_walks.proofs.tables.globals_held.Given as goal

abbrev pub invariant-loop-global : goal.invariant-loop-global
invariant-loop-global l =
    list_all (spec.global_held l.unit) (drop l.global-index l.globals) ≡ list_all (spec.global_held l.unit) l.globals
