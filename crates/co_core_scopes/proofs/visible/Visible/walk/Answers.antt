use Rattle.co_core_scopes.proofs.visible.Visible.walk.Goals as goal

pub returns : goal.returns
returns c = λ funcs. c.walk_full.ensures funcs
