use Rattle.std.specs.Prelude.{not}
use Rattle.std.proofs.Common.{ap, ◌∙◌}
use Rattle.co_core_tree.specs.Acts.{is_suspension}
use Rattle.co_core.specs.Bodies.{joined_acts, own_fulls}
use Rattle.co_core_walks.proofs.Loops.{any_negated}
use Rattle.co_core_walks.proofs.jumps.own_suspends.Goals as goal

pub returns : goal.returns
returns c = let funcs = c.args.scene.unit.now.funcs in ap not (c.own_holds.ensures) ∙ any_negated is_suspension (joined_acts funcs (own_fulls funcs c.args.s.now))
