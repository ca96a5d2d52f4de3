use Rattle.std.specs.Prelude.{◌++◌, take}
use Rattle.std.proofs.Common.{ap, ◌∙◌}
use Rattle.co_eval_data.specs.Seen.{frames_of}
use Rattle.co_eval_data.specs.declared.agents.Activation.{Activation}
use Rattle.co_meaning_calls.specs.Coroutines.{suspended_at}
use Rattle.co_eval_commit.specs.InPlace.{seeing}
use Rattle.co_eval_commit.proofs.Above.{suspends}
use Rattle.co_eval_commit.proofs.activations.suspend.Goals as goal

pub returns-clause-made : goal.returns-clause-made
returns-clause-made c l =
    let top = c.args.top.now in
    ap (λ (a : Activation). seeing c.set_condition.new.shared a (frames_of a.frames.items) l) c.replace-slots.ensures.after ∙ suspends c.args.shared.now c.set_condition.new.shared top c.args.parked c.reserve.new.self.items (take c.args.left top.frames.items) c.args.frames c.args.number c.args.point c.in_ok-serial.serial c.suspended_at.result (frames_of c.leave_on_top.new.frames.items) l c.set_condition.ensures (c.suspended_at.ensures ∙ ap (λ (a : Activation). suspended_at c.args.point c.in_ok-serial.serial (record { slots = a.slots; frames = frames_of c.leave_on_top.new.frames.items })) c.replace-slots.ensures.value) (c.in_ok-serial.ensures l) (c.leave_on_top.ensures.seen ∙ ap (λ gs. frames_of c.args.frames ++ frames_of gs) (c.truncate.ensures.items ∙ ap (λ (a : Activation). take c.args.left a.frames.items) c.replace-slots.ensures.value ∙ ap (take c.args.left) c.reserve-2.ensures.items)) c.reserve.ensures.items
