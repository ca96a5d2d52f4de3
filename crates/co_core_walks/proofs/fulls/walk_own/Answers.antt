use Rattle.std.specs.Prelude.{false}
use Rattle.co_core_tree.specs.Slots.{class_params}
use Rattle.co_core_walks.proofs.Statements.{own_full, own_if, own_local, own_loop, own_result}
use Rattle.co_core_walks.proofs.fulls.walk_own.Goals as goal

pub returns-in-Full : goal.returns-in-Full
returns-in-Full g c = λ funcs.
    own_full funcs g.V.Visitor.after _ _ _ _ _ c.in-Full.is (c.walk_expr.ensures (class_params funcs) false false)

pub returns-in-Local : goal.returns-in-Local
returns-in-Local g c = λ funcs.
    own_local funcs g.V.Visitor.after _ _ _ _ _ _ c.in-Local.is (c.walk_init.ensures (class_params funcs) false false)

pub returns-in-If : goal.returns-in-If
returns-in-If g c = λ funcs.
    own_if funcs g.V.Visitor.after _ _ _ _ _ _ _ c.in-If.is (c.walk_expr-in-If.ensures (class_params funcs) false false)

pub returns-in-Loop : goal.returns-in-Loop
returns-in-Loop g c = λ funcs.
    own_loop funcs g.V.Visitor.after _ _ _ _ _ _ _ _ c.in-Loop.is (c.walk_expr-in-Loop.ensures (class_params funcs) false false) (c.walk_expr-in-Loop-2.ensures (class_params funcs) false false)

pub returns-in-Return : goal.returns-in-Return
returns-in-Return g c = λ funcs.
    own_result funcs g.V.Visitor.after _ _ _ _ _ c.in-Return.is (c.walk_given.ensures funcs _)
