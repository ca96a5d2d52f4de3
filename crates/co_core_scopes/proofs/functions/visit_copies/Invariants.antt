use Rattle.std.proofs.Common.{◌≡◌, List, fold, drop}
use Rattle.co_core_tree.specs.declared.units.CoreFunc.{CoreFunc}
use Rattle.co_core_scopes.specs.Scoped.{copy_seen}
use Rattle.co_core_scopes.proofs.functions.visit_copies.Given as goal

abbrev pub invariant-loop-copy : goal.invariant-loop-copy
invariant-loop-copy l = (funcs : List CoreFunc) → fold (copy_seen funcs) l.v (drop l.copy-index l.copies) ≡ fold (copy_seen funcs) l.initial.v l.copies
