use Rattle.std.specs.Global.{Vec}
use Rattle.std.specs.Prelude.{take}
use Rattle.std.proofs.Common.{ap, ◌∙◌}
use Rattle.co_eval_data.specs.Agents.{activations_of}
use Rattle.co_eval_data.specs.Seen.{frames_of}
use Rattle.co_eval_data.specs.declared.frames.Frame.{Frame}
use Rattle.co_eval_commit.specs.InPlace.{event_of, noted, sees, sees_all}
use Rattle.co_eval_commit.proofs.Beside.{noted_below}
use Rattle.co_eval_commit.proofs.effects.make_quiet_and_cut.Goals as goal

pub returns-in-Ok-clause-made : goal.returns-in-Ok-clause-made
returns-in-Ok-clause-made c below l =
    let left = take c.args.left c.args.top.now.frames.items in
    ap (λ fs. sees_all c.args.worker c.make_quiet.new.shared c.make_quiet.new.handled.items c.make_quiet.new.top (frames_of fs) below (noted (event_of c.args.worker c.args.effect) l)) (c.truncate.ensures.items ∙ ap (λ (fs : Vec Frame). take c.args.left fs.items) c.make_quiet.ensures.frames) ∙ ap (λ m. sees c.args.worker c.make_quiet.new.shared c.make_quiet.new.handled.items c.make_quiet.new.top (frames_of left) m) (noted_below (event_of c.args.worker c.args.effect) l (activations_of below)) ∙ c.in-Ok.ensures.made (record l { below = activations_of below }) (frames_of left) c.requires.quiet

pub returns-in-Err-clause-made : goal.returns-in-Err-clause-made
returns-in-Err-clause-made c below l =
    ap (λ (fs : Vec Frame). sees_all c.args.worker c.make_quiet.new.shared c.make_quiet.new.handled.items c.make_quiet.new.top (frames_of fs.items) below l) c.make_quiet.ensures.frames ∙ c.in-Err.ensures.made (record l { below = activations_of below }) (frames_of c.args.top.now.frames.items) c.requires.quiet
