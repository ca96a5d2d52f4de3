use Rattle.std.proofs.Common.{◌≡◌, drop}
use Rattle.std.specs.List.{list_all}
use Rattle.co_core.specs.Jumps as spec
use Rattle.co_core_walks.proofs.jumps.each_jumps.Given as goal

abbrev pub invariant-loop-func : goal.invariant-loop-func
invariant-loop-func l =
    list_all (spec.func_jumps l.unit.funcs) (drop l.func-index l.funcs) ≡ list_all (spec.func_jumps l.unit.funcs) l.funcs
