use Rattle.std.proofs.Common.{◌≡◌, List, fold, drop}
use Rattle.co_core_tree.specs.declared.units.CoreFunc.{CoreFunc}
use Rattle.co_core_scopes.specs.Scoped.{init_seen}
use Rattle.co_core_scopes.proofs.functions.visit_inits.Given as goal

abbrev pub invariant-loop-i : goal.invariant-loop-i
invariant-loop-i l = (funcs : List CoreFunc) → fold (init_seen funcs) l.v (drop l.i-index l.is) ≡ fold (init_seen funcs) l.initial.v l.is
