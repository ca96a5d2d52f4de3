use Rattle.std.proofs.Common.{◌≡◌, length}
use Rattle.std.specs.List.{list_all}
use Rattle.co_core.specs.Typed.{copy_typed}
use Rattle.co_core_all_typed.proofs.funcs.copies_fit.Given as goal

abbrev pub invariant-loop-rest : goal.invariant-loop-rest
invariant-loop-rest l =
    list_all (copy_typed l.scene.unit.now l.scene.func.now) l.rest ≡ list_all (copy_typed l.scene.unit.now l.scene.func.now) l.copies

abbrev pub decreases-loop-rest : goal.decreases-loop-rest
decreases-loop-rest l = length l.rest
