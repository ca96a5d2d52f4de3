use Rattle.std.proofs.Common.{◌≡◌, List, fold, drop}
use Rattle.co_core_tree.specs.declared.units.CoreFunc.{CoreFunc}
use Rattle.co_core_scopes.specs.Scoped.{handled, listed}
use Rattle.co_core_scopes.proofs.statements.+stmts.Given as goal

abbrev pub invariant-visit_handlers-loop-handler : goal.invariant-visit_handlers-loop-handler
invariant-visit_handlers-loop-handler l = (funcs : List CoreFunc) → fold (handled funcs) l.v (drop l.handler-index l.handlers) ≡ fold (handled funcs) l.initial.v l.handlers

abbrev pub invariant-visit_list-loop-s : goal.invariant-visit_list-loop-s
invariant-visit_list-loop-s l = (funcs : List CoreFunc) → fold (listed funcs) l.v (drop l.s-index l.stmts) ≡ fold (listed funcs) l.initial.v l.stmts
