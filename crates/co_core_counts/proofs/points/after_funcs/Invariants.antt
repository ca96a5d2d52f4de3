use Rattle.std.proofs.Common.{◌≡◌, drop}
use Rattle.co_core.specs.Counts.{sum_points}
use Rattle.co_core_counts.specs.Left.{less}
use Rattle.co_core_counts.proofs.points.after_funcs.Given as goal

abbrev pub invariant-loop-func : goal.invariant-loop-func
invariant-loop-func l = less l.now (sum_points l.funcs (drop l.func-index l.funcs)) ≡ less l.fn.left (sum_points l.funcs l.funcs)
