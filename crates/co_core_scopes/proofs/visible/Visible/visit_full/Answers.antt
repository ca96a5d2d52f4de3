use Rattle.co_core_scopes.specs.Scoped.{full_acts}
use Rattle.co_core_scopes.proofs.Phases.{full_steps}
use Rattle.co_core_scopes.proofs.visible.Visible.visit_full.Goals as goal

pub returns : goal.returns
returns c = λ funcs. full_steps c.args.self.now _ _ _ _ _ c.args.own (full_acts funcs c.args.full) c.insert_if.ensures (c.walk.ensures funcs) (c.walk-2.ensures funcs) (c.walk-3.ensures funcs) c.remove_if.ensures
