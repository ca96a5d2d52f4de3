use Rattle.std.specs.Prelude.{◌≡◌, slice_get, Some, None}
use Rattle.std.proofs.Common.{ap, ◌∙◌, sym}
use Rattle.co_eval_data.specs.Agents.{activations_of, agent_of, config_of, program_of}
use Rattle.co_eval_data.specs.Changed.{dropped, turned_by}
use Rattle.co_eval_data.specs.declared.agents.Agent.{Agent}
use Rattle.co_meaning.specs.Runs as runs
use Rattle.co_eval_commit.proofs.Lists.{found, missing}
use Rattle.co_eval_commit.proofs.Turning.{moved, unmoved}
use Rattle.co_eval_commit.proofs.configurations.commit.Goals as goal

pub returns-in_default : goal.returns-in_default
returns-in_default c program agent top below is acts =
    let none : slice_get c.args.config.now.agents.items c.args.worker ≡ None = missing c.args.config.now.agents.items c.args.worker _ c.in_default.is c.get_mut.ensures.item in
    cc

pub returns-in-Ok : goal.returns-in-Ok
returns-in-Ok c program agent top below is acts =
    let at : slice_get c.args.config.now.agents.items c.args.worker ≡ Some c.in-Some.agent.now = found c.args.config.now.agents.items c.args.worker c.in-Some.agent c.in-Some.ensures.item in
    let same : c.in-Some.agent.now ≡ agent = cc in
    ap (λ (a : Agent). runs.after_turn c.args.worker (config_of c.args.config.now) (Some (turned_by c.args.change (dropped c.args.popped (runs.local_of (program_of program) c.args.worker (config_of c.args.config.now) (agent_of a) top below))))) (sym same) ∙ moved c.args.worker c.args.config.now c.commit_to-made.new.shared c.commit_to-made.new.agent c.commit_to-made.new.events.items _ (c.in-Ok.ensures program top below (ap (λ (a : Agent). activations_of a.activations.items) same ∙ acts))

pub returns-in-Err : goal.returns-in-Err
returns-in-Err c program agent top below is acts =
    let at : slice_get c.args.config.now.agents.items c.args.worker ≡ Some c.in-Some.agent.now = found c.args.config.now.agents.items c.args.worker c.in-Some.agent c.in-Some.ensures.item in
    let same : c.in-Some.agent.now ≡ agent = cc in
    unmoved c.args.worker c.args.config.now c.commit_to-made.new.shared c.in-Some.agent.now c.commit_to-made.new.agent c.commit_to-made.new.events.items at (c.in-Err.ensures program top below (ap (λ (a : Agent). activations_of a.activations.items) same ∙ acts))
