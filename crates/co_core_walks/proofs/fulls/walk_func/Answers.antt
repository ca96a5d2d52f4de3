use Rattle.co_core.specs.Bodies.{in_body}
use Rattle.co_core_walks.proofs.Statements.{after_func}
use Rattle.co_core_walks.proofs.fulls.walk_func.Goals as goal

pub returns : goal.returns
returns g c = λ funcs.
    after_func funcs g.V.Visitor.after _ _ _ _ c.args.func.now (c.walk_role.ensures funcs) (c.walk_plan.ensures funcs) (c.walk_fulls.ensures funcs in_body)
