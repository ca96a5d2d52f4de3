use Rattle.std.specs.Prelude.{false}
use Rattle.co_core_tree.specs.Slots.{class_params}
use Rattle.co_core_walks.proofs.Statements.{own_return}
use Rattle.co_core_walks.proofs.fulls.walk_given.Goals as goal

pub returns-in-Some : goal.returns-in-Some
returns-in-Some g c = λ funcs at.
    own_return funcs g.V.Visitor.after _ _ _ _ at c.in-Some.is (c.walk_init.ensures (class_params funcs) false false)
