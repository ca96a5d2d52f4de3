use Rattle.std.proofs.Common.{◌≡◌, drop}
use Rattle.std.specs.List.{list_all}
use Rattle.co_core_walks.specs.Lists.{handler_names}
use Rattle.co_core_walks.proofs.ids.handlers_held.Given as goal

abbrev pub invariant-loop-handler : goal.invariant-loop-handler
invariant-loop-handler l =
    list_all (handler_names l.scene.unit.now l.scene.func.now) (drop l.handler-index l.handlers) ≡ list_all (handler_names l.scene.unit.now l.scene.func.now) l.handlers
