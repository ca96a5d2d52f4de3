use Rattle.std.specs.Prelude.{not}
use Rattle.std.proofs.Common.{ap, ◌∙◌}
use Rattle.co_core_tree.specs.Acts.{is_suspension}
use Rattle.co_core.specs.Bodies.{func_acts}
use Rattle.co_core_walks.proofs.Loops.{any_negated}
use Rattle.co_core_walks.proofs.jumps.func_suspends.Goals as goal

pub returns : goal.returns
returns c = let funcs = c.args.scene.unit.now.funcs in ap not (c.func_holds.ensures) ∙ any_negated is_suspension (func_acts funcs c.args.scene.func.now)
