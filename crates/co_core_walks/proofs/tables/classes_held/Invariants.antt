use Rattle.std.proofs.Common.{◌≡◌, drop}
use Rattle.std.specs.List.{list_all}
use Rattle.co_core.specs.Ids as spec
use Rattle.co_core_walks.proofs.tables.classes_held.Given as goal

abbrev pub invariant-loop-class : goal.invariant-loop-class
invariant-loop-class l = list_all (spec.info_held l.unit) (drop l.class l.unit.classes) ≡ list_all (spec.info_held l.unit) l.unit.classes
