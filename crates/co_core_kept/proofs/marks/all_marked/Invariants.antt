use Rattle.std.proofs.Common.{◌≡◌, length}
use Rattle.std.specs.List.{list_all}
use Rattle.co_core.specs.Counts.{func_marked}
use Rattle.co_core_kept.proofs.marks.all_marked.Given as goal

abbrev pub invariant-loop-rest : goal.invariant-loop-rest
invariant-loop-rest l = list_all (func_marked l.funcs) l.rest ≡ list_all (func_marked l.funcs) l.funcs

abbrev pub decreases-loop-rest : goal.decreases-loop-rest
decreases-loop-rest l = length l.rest
