use Rattle.co_core_scopes.proofs.Small.{once_is}
use Rattle.co_core_scopes.proofs.once.func_makes_once.Goals as goal

pub returns : goal.returns
returns c = λ slots ids. once_is c.args.scene.unit.now c.args.scene.func.now _ _ _ c.both.ensures c.kinds_fit.ensures c.is_made_once.ensures slots ids
