use Rattle.std.proofs.Common.{◌≡◌, drop}
use Rattle.std.specs.List.{list_all}
use Rattle.co_core.specs.Numbers as spec
use Rattle.co_core_walks.proofs.numbers.each_fits.Given as goal

abbrev pub invariant-loop-func : goal.invariant-loop-func
invariant-loop-func l =
    list_all (spec.func_numbers l.unit.funcs) (drop l.func-index l.funcs) ≡ list_all (spec.func_numbers l.unit.funcs) l.funcs
