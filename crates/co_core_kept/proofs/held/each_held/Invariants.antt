use Rattle.std.proofs.Common.{◌≡◌, drop}
use Rattle.std.specs.List.{list_all}
use Rattle.co_core.specs.Counts.{func_held}
use Rattle.co_core_kept.proofs.held.each_held.Given as goal

abbrev pub invariant-loop-func : goal.invariant-loop-func
invariant-loop-func l = list_all (func_held l.unit) (drop l.func-index l.funcs) ≡ list_all (func_held l.unit) l.funcs
