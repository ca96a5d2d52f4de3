use Rattle.co_core_scopes.specs.Points.{begun}
use Rattle.co_core_scopes.proofs.Noted.{all_noted}
use Rattle.co_core_scopes.proofs.points.Points.note_func.Goals as goal

pub returns : goal.returns
returns c = λ funcs. all_noted (begun c.args.self.now c.args.marks) _ _ funcs c.args.func.now c.note_plan.ensures (c.walk_func.ensures funcs)
