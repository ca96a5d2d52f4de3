use Rattle.std.specs.Global.{Vec}
use Rattle.std.specs.Prelude.{take}
use Rattle.std.proofs.Common.{ap, refl, ◌∙◌}
use Rattle.co_eval_data.specs.declared.agents.Condition.TheVariants as condition
use Rattle.co_eval_data.specs.declared.frames.Frame.{Frame}
use Rattle.co_eval_commit.proofs.Above.{escapes}
use Rattle.co_eval_commit.proofs.activations.escape.Goals as goal

pub returns-clause-made : goal.returns-clause-made
returns-clause-made c l =
    escapes c.args.shared.now c.set_condition.new.shared c.args.top.now (take c.args.left c.args.top.now.frames.items) c.replace-rest.new.dest.items c.args.frames c.args.number c.in_ok-serial.serial c.args.slots (condition.Final 2 c.in_ok-serial.serial (record { slots = c.args.slots; frames = c.truncate.new.self })) c.truncate.new.self.items l c.set_condition.ensures refl (c.in_ok-serial.ensures l) (c.truncate.ensures.items ∙ ap (λ (v : Vec Frame). take c.args.left v.items) c.replace-rest.ensures.value) (ap (λ (v : Vec Frame). v.items) c.replace-rest.ensures.after ∙ c.reserve.ensures.items)
