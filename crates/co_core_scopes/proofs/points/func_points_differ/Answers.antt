use Rattle.std.specs.Prelude.{[]}
use Rattle.co_core.specs.Jumps.{func_points}
use Rattle.co_core_scopes.proofs.Noted.{answered, cleared}
use Rattle.co_core_scopes.proofs.points.func_points_differ.Goals as goal

pub returns-clause-clear : goal.returns-clause-clear
returns-clause-clear c = cleared (func_points [] c.args.func.now) c.args.points.now _ _ c.requires (c.note_func.ensures []) (c.note_func-2.ensures [])

pub returns-clause-differ : goal.returns-clause-differ
returns-clause-differ c = λ funcs. answered funcs c.args.func.now c.args.points.now _ c.requires (c.note_func.ensures funcs)
