use Rattle.std.specs.Prelude.{take}
use Rattle.std.proofs.Common.{ap, refl, ◌∙◌}
use Rattle.co_meaning_calls.specs.Objects.{set_mark}
use Rattle.co_eval_commit.proofs.Placed.{lives_in_full}
use Rattle.co_eval_commit.proofs.framed.live_in_full.Goals as goal

pub returns-clause-made : goal.returns-clause-made
returns-clause-made c l =
    lives_in_full c.args.shared.now (record c.args.shared.now { store = c.make_live.new.store }) c.args.top.now (take c.args.left c.args.top.now.frames.items) c.set_mark.new.frames.items c.args.slot c.args.x l c.make_live.ensures refl (c.set_mark.ensures.seen ∙ ap (set_mark c.args.slot) c.in_ok-stand_unseen.ensures.ok)
