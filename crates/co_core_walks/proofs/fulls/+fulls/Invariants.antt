use Rattle.std.proofs.Common.{◌≡◌, List, flat_map, fold, drop}
use Rattle.co_core_tree.specs.declared.units.CoreFunc.{CoreFunc}
use Rattle.co_core.specs.Bodies.{Standing}
use Rattle.co_core_walks.specs.Lists.{stmt_acts}
use Rattle.co_core_walks.proofs.fulls.+fulls.Given as goal

abbrev pub invariant-walk_handlers-loop-handler : goal.invariant-walk_handlers-loop-handler
invariant-walk_handlers-loop-handler g l =
    (funcs : List CoreFunc) (stands : Standing) → fold g.V.Visitor.after l.v (flat_map (λ handler. stmt_acts funcs stands handler.body) (drop l.handler-index l.handlers))
    ≡ fold g.V.Visitor.after l.initial.v (flat_map (λ handler. stmt_acts funcs stands handler.body) l.handlers)

abbrev pub invariant-walk_list-loop-s : goal.invariant-walk_list-loop-s
invariant-walk_list-loop-s g l =
    (funcs : List CoreFunc) (stands : Standing) → fold g.V.Visitor.after l.v (flat_map (stmt_acts funcs stands) (drop l.s-index l.stmts))
    ≡ fold g.V.Visitor.after l.initial.v (flat_map (stmt_acts funcs stands) l.stmts)
