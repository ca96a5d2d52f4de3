use Rattle.std.proofs.Common.{ap, ◌∙◌, refl}
use Rattle.co_eval_commit.specs.InPlace.{event_of, local_at}
use Rattle.co_eval_commit.specs.Turned.{left_by}
use Rattle.co_eval_commit.proofs.Turning.{begins, left, same}
use Rattle.co_eval_commit.proofs.configurations.make_on_newest.Goals as goal

pub returns-in-Ok : goal.returns-in-Ok
returns-in-Ok c program top below acts =
    left _ c.args.worker c.make_and_leave-made.new.shared _ c.make_and_leave-made.new.handled.items c.make_and_leave-made.new.top c.make_and_leave-made.new.below.items (event_of c.args.worker c.args.effect) (local_at program c.args.worker c.args.shared.now c.args.agent.now top below) (c.in-Ok.ensures.made (local_at program c.args.worker c.args.shared.now c.args.agent.now top below) ∙ ap (left_by c.args.taken c.args.effect c.args.frames) (begins program c.args.worker c.args.popped c.args.shared.now c.args.agent.now c.in-Some.top c.pop.new.self.items top below c.in-Some.ensures.items acts)) refl refl c.push_reserved.ensures.items

pub returns-in-Err : goal.returns-in-Err
returns-in-Err c program top below acts =
    same c.args.worker c.args.shared.now c.make_and_leave-made.new.shared c.args.agent.now _ c.in-Some.top c.make_and_leave-made.new.top c.pop.new.self.items c.make_and_leave-made.new.below.items (local_at program c.args.worker c.args.shared.now c.args.agent.now top below) (c.in-Err.ensures.made (local_at program c.args.worker c.args.shared.now c.args.agent.now top below)) c.in-Some.ensures.items c.push_reserved.ensures.items refl refl
