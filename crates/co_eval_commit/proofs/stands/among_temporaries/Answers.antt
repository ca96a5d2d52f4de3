use Rattle.std.proofs.Common.{◌∙◌, ap}
use Rattle.std.specs.Option.{option_map}
use Rattle.std.specs.Prelude.{map}
use Rattle.co_eval_data.specs.Seen.{temporal_of}
use Rattle.co_eval_commit.proofs.Stood.{full_at, full_same}
use Rattle.co_eval_commit.proofs.stands.among_temporaries.Goals as goal

pub returns-in-Some : goal.returns-in-Some
returns-in-Some c fs f e holds others = full_at c.args.slot c.args.x fs c.args.at f c.args.temporaries.now c.in-Some.made e others holds (c.in_ok-made.ensures ∙ ap (option_map (map temporal_of)) c.in-Some.is)

pub returns-in-None : goal.returns-in-None
returns-in-None c fs f e holds others = full_same c.args.slot c.args.x fs c.args.at f c.args.temporaries.now e others holds (c.in_ok-made.ensures ∙ ap (option_map (map temporal_of)) c.in-None.is)
