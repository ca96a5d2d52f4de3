use Rattle.std.proofs.Common.{◌≡◌, drop}
use Rattle.std.specs.List.{list_all}
use Rattle.co_core.specs.Jumps as spec
use Rattle.co_core_scopes.specs.Points.{Clear}
use Rattle.co_core_scopes.proofs.points.each_differs.Given as goal

abbrev pub invariant-loop-func : goal.invariant-loop-func
invariant-loop-func l = Clear l.points × (list_all (spec.func_points_differ l.unit.funcs) (drop l.func-index l.funcs) ≡ list_all (spec.func_points_differ l.unit.funcs) l.funcs)
