use Rattle.std.proofs.Common.{◌≡◌, length}
use Rattle.std.specs.List.{list_all}
use Rattle.co_core_all_typed.specs.Walks.{handler_typed}
use Rattle.co_core_all_typed.proofs.stmts.handlers_fit.Given as goal

abbrev pub invariant-loop-rest : goal.invariant-loop-rest
invariant-loop-rest l =
    list_all (handler_typed l.scene.unit.now l.scene.func.now) l.rest ≡ list_all (handler_typed l.scene.unit.now l.scene.func.now) l.handlers

abbrev pub decreases-loop-rest : goal.decreases-loop-rest
decreases-loop-rest l = length l.rest
