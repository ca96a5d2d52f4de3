-- What a change that is made in place leaves.
use Rattle.std.specs.Prelude.{◌≡◌, ℕ, List, ◌∷◌, ◌++◌, reverse}
use Rattle.co_eval_data.specs.Agents.{activations_of, agent_of, shared_of}
use Rattle.co_eval_data.specs.Changed.{all_pushed, dropped, effected}
use Rattle.co_eval_data.specs.declared.agents.Agent.{Agent}
use Rattle.co_eval_data.specs.declared.agents.Shared.{Shared}
use Rattle.co_eval_data.specs.declared.changes.Effect.{Effect}
use Rattle.co_eval_data.specs.declared.frames.Frame.{Frame}
use Rattle.co_meaning_data.specs.Turn.{Local, Turned}
use Rattle.co_meaning_data.specs.declared.events.Event.{Event}

-- so many frames are taken away, the effect is made, and these are left on top
abbrev pub left_by : ℕ → Effect → List Frame → Local → Local
left_by taken e fs l = all_pushed fs (effected e (dropped taken l))

-- what all agents share and the agent are as this agent sees them in a step, with these events
pub record IsLeft (after : Local) (shared : Shared) (agent : Agent) (events : List Event) : Type 0 where
  pub shares : shared_of shared ≡ after.shared
  pub handles : reverse agent.handled.items ≡ after.handled
  pub stands : activations_of agent.activations.items ≡ after.top ∷ after.below
  pub sees : events ≡ after.seen

-- what all agents share, the agent and the events are those of the turn
pub record IsTurned (t : Turned) (shared : Shared) (agent : Agent) (before after : List Event) : Type 0 where
  pub shares : shared_of shared ≡ t.shared
  pub acts : agent_of agent ≡ t.agent
  pub sees : after ≡ before ++ t.seen

-- they are those that were before
pub record IsSame (old_shared new_shared : Shared) (old_agent new_agent : Agent) (before after : List Event) : Type 0 where
  pub shares : shared_of new_shared ≡ shared_of old_shared
  pub acts : agent_of new_agent ≡ agent_of old_agent
  pub sees : after ≡ before
