use Rattle.std.proofs.Common.{◌≡◌, length}
use Rattle.std.specs.List.{list_all}
use Rattle.co_core.specs.Typed.{func_typed}
use Rattle.co_core_all_typed.proofs.units.funcs_fit.Given as goal

abbrev pub invariant-loop-rest : goal.invariant-loop-rest
invariant-loop-rest l = list_all (func_typed l.unit) l.rest ≡ list_all (func_typed l.unit) l.funcs

abbrev pub decreases-loop-rest : goal.decreases-loop-rest
decreases-loop-rest l = length l.rest
