use Rattle.std.proofs.Common.{false, []}
use Rattle.co_core_tree.specs.Slots.{class_params}
use Rattle.co_core_walks.proofs.Statements.{after_some_plan}
use Rattle.co_core_walks.proofs.fulls.walk_plan.Goals as goal

pub returns-in-Some : goal.returns-in-Some
returns-in-Some g c = λ funcs.
    after_some_plan funcs g.V.Visitor.after _ _ _ _ _ _ _ _ _ _ _ c.in-Some.is c.as_slice.ensures c.as_slice-in-Some.ensures c.as_slice-in-Some-2.ensures (c.walk_inits.ensures (class_params funcs) [] false) (c.walk_copies.ensures funcs) (c.walk_inits-in-Some.ensures (class_params funcs) [] false) (c.walk_await.ensures (class_params funcs) false) (c.walk_await-in-Some.ensures (class_params funcs) false)
