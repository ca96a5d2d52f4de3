use Rattle.std.proofs.Common.{◌≡◌, drop}
use Rattle.std.specs.List.{list_all}
use Rattle.co_core.specs.Scopes as spec
use Rattle.co_core_scopes.proofs.functions.each_visible.Given as goal

abbrev pub invariant-loop-func : goal.invariant-loop-func
invariant-loop-func l = list_all (spec.func_visible l.unit.funcs) (drop l.func-index l.funcs) ≡ list_all (spec.func_visible l.unit.funcs) l.funcs
