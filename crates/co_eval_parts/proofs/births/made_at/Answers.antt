use Rattle.std.proofs.Common.{◌≡◌, sym, ◌∙◌}
use Rattle.co_eval_data.specs.Agents.{local_of}
use Rattle.co_eval_data.specs.Seen.{alive_of}
use Rattle.co_meaning_data.specs.Frames as meaning
use Rattle.co_meaning_data.specs.Store.{whole}
use Rattle.co_eval_parts.proofs.Stood.{made_nowhere}
use Rattle.co_eval_parts.proofs.births.made_at.Goals as goal

pub returns-else-has_room_here : goal.returns-else-has_room_here
returns-else-has_room_here c =
    made_nowhere c.args.slot (alive_of c.args.x) (meaning.Gives (meaning.At (whole c.args.x.object))) (local_of c.args.here.now) (sym c.has_room_here.ensures ∙ c.if-has_room_here.false)
