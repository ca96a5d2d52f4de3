use Rattle.std.proofs.Common.{◌≡◌, flat_map, fold, drop}
use Rattle.co_core.specs.Bodies.{placed}
use Rattle.co_core_walks.specs.Seen.{stands_of}
use Rattle.co_core_walks.proofs.bodies.+stmts.Given as goal

abbrev pub invariant-walk_handlers-loop-handler : goal.invariant-walk_handlers-loop-handler
invariant-walk_handlers-loop-handler g l =
    fold g.V.StmtVisitor.after_stmt l.v (flat_map (λ handler. placed (stands_of l.stands) handler.body) (drop l.handler-index l.handlers))
    ≡ fold g.V.StmtVisitor.after_stmt l.initial.v (flat_map (λ handler. placed (stands_of l.stands) handler.body) l.handlers)

abbrev pub invariant-walk_list-loop-s : goal.invariant-walk_list-loop-s
invariant-walk_list-loop-s g l =
    fold g.V.StmtVisitor.after_stmt l.v (flat_map (placed (stands_of l.stands)) (drop l.s-index l.stmts))
    ≡ fold g.V.StmtVisitor.after_stmt l.initial.v (flat_map (placed (stands_of l.stands)) l.stmts)
