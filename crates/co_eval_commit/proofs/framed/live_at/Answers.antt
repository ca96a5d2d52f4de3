use Rattle.std.specs.Prelude.{take}
use Rattle.std.proofs.Common.{refl}
use Rattle.co_eval_commit.proofs.Placed.{lives_at}
use Rattle.co_eval_commit.proofs.framed.live_at.Goals as goal

pub returns-clause-made : goal.returns-clause-made
returns-clause-made c l =
    lives_at c.args.shared.now (record c.args.shared.now { store = c.make_live.new.store }) c.args.top.now (take c.args.left c.args.top.now.frames.items) c.stand.new.frames.items c.args.x c.args.spot l c.make_live.ensures refl c.in_ok-stand.ensures.ok
