use Rattle.std.proofs.Common.{ap, ◌∙◌, refl, rules}
use Rattle.co_eval_data.specs.Agents.{activations_of}
use Rattle.co_eval_data.specs.Changed.{dropped}
use Rattle.co_eval_commit.specs.InPlace.{local_at}
use Rattle.co_eval_commit.proofs.Turning.{ended, same_after, turned}
use Rattle.co_eval_commit.proofs.configurations.commit_to.Goals as goal

pub returns-in_err-make_on_newest : goal.returns-in_err-make_on_newest
returns-in_err-make_on_newest c program top below acts =
    search (rules, same_after c.args.shared.now c.make_on_newest.new.shared c.args.agent.now c.make_on_newest.new.agent c.reserve_turn.new.activations c.args.events.now.items c.reserve_turn.new.events.items c.reserve_turn.ensures.activations c.reserve_turn.ensures.events (c.in_err-make_on_newest.ensures program top below (ap activations_of c.reserve_turn.ensures.activations ∙ acts)))

pub returns : goal.returns
returns c program top below acts =
    turned c.args.change (dropped c.args.popped (local_at program c.args.worker c.args.shared.now c.args.agent.now top below)) c.make_on_newest.new.shared c.make_on_newest.new.agent c.finish.new.agent c.args.events.now.items c.finish.new.events.items _ (c.in_ok-make_on_newest.ensures program top below (ap activations_of c.reserve_turn.ensures.activations ∙ acts)) (c.finish.ensures.agent ∙ ended c.args.change c.make_on_newest.new.agent _ _ c.end_of-end.ensures.rests c.end_of-end.ensures.halts) (c.finish.ensures.events ∙ rw (c.reserve_turn.ensures.events, c.end_of-end.ensures.event) refl)
