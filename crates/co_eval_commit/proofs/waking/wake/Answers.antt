use Rattle.std.specs.Prelude.{take}
use Rattle.std.proofs.Common.{ap, sym, ◌∙◌}
use Rattle.co_eval_data.specs.Agents as seen
use Rattle.co_eval_data.specs.Changed.{stands_as}
use Rattle.co_eval_data.specs.Seen.{frames_of}
use Rattle.co_eval_commit.specs.InPlace.{seeing_all}
use Rattle.co_eval_commit.specs.Waking.{woken_as}
use Rattle.co_eval_commit.proofs.waking.wake.Goals as goal

pub returns-in-Err-clause-made : goal.returns-in-Err-clause-made
returns-in-Err-clause-made c l = c.in-Err.ensures.made (seeing_all c.args.shared.now c.args.top.now (frames_of c.args.top.now.frames.items) c.args.below.now.items l) c.args.place

pub returns-in-Some-clause-made : goal.returns-in-Some-clause-made
returns-in-Some-clause-made c l =
    c.stand_as.ensures.made c.take_woken.new.shared l ∙ ap (λ fs. stands_as c.args.place (seen.activation_of c.in-Some.activation) (seeing_all c.take_woken.new.shared c.args.top.now (frames_of fs) c.args.below.now.items l)) c.truncate.ensures.items ∙ sym (ap (λ w. woken_as c.args.place w (seeing_all c.take_woken.new.shared c.args.top.now (frames_of (take c.args.left c.args.top.now.frames.items)) c.args.below.now.items l)) c.in-Some.is) ∙ c.in-Ok.ensures.made (seeing_all c.args.shared.now c.args.top.now (frames_of (take c.args.left c.args.top.now.frames.items)) c.args.below.now.items l) c.args.place
