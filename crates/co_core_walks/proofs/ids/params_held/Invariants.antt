use Rattle.std.proofs.Common.{◌≡◌, drop}
use Rattle.std.specs.List.{list_all}
use Rattle.co_core.specs.Ids as spec
use Rattle.co_core_walks.proofs.ids.params_held.Given as goal

abbrev pub invariant-loop-param : goal.invariant-loop-param
invariant-loop-param l =
    list_all (spec.slot_held l.scene.unit.now l.scene.func.now) (drop l.param-index l.params) ≡ list_all (spec.slot_held l.scene.unit.now l.scene.func.now) l.params
