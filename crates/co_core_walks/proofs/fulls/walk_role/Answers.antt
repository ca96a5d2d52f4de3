use Rattle.std.proofs.Common.{false, []}
use Rattle.co_core_tree.specs.Slots.{class_params}
use Rattle.co_core_walks.proofs.Statements.{after_ctor}
use Rattle.co_core_walks.proofs.fulls.walk_role.Goals as goal

pub returns-in-Ctor : goal.returns-in-Ctor
returns-in-Ctor g c = λ funcs.
    after_ctor funcs g.V.Visitor.after _ _ _ _ _ _ c.in-Ctor.is c.as_slice.ensures (c.walk_inits.ensures (class_params funcs) [] false)
