-- What an agent and the events are after a change that is made in place.
use Rattle.std.specs.Prelude.{◌≡◌, ℕ, Bool, if◌then◌else◌, List, [], ◌∷◌, ◌++◌, map, reverse, slice_get, slice_set, Option, Some, None}
use Rattle.std.specs.Option.{option_to_list}
use Rattle.std.specs.Global.{Vec}
use Rattle.std.proofs.Common.{refl, ap, sym, ◌∙◌}
use Rattle.std.proofs.lemmas.List.{map-set}
use Rattle.co_eval_data.specs.Agents.{activation_of, activations_of, agent_of, config_of, doing_of, shared_of}
use Rattle.co_eval_data.specs.Changed.{dropped, is_halted_by, left_to, turned_by, without_top}
use Rattle.co_base.specs.declared.kinds.Thrown.{Thrown}
use Rattle.co_eval_data.specs.Seen.{frames_of}
use Rattle.co_eval_data.specs.declared.agents.Activation.{Activation}
use Rattle.co_eval_data.specs.declared.agents.Agent.{Agent}
use Rattle.co_eval_data.specs.declared.agents.Configuration.{Configuration}
use Rattle.co_eval_data.specs.declared.agents.Shared.{Shared}
use Rattle.co_eval_data.specs.declared.changes.Change.{Change}
use Rattle.co_eval_data.specs.declared.changes.Effect.{Effect}
use Rattle.co_eval_data.specs.declared.here.Program.{Program}
use Rattle.co_eval_data.specs.declared.changes.Effect.TheVariants as effect
use Rattle.co_meaning.specs.Runs.{after_turn}
use Rattle.co_meaning_data.specs.Frames as meaning
use Rattle.co_meaning_data.specs.Turn.{Local, Turned}
use Rattle.co_meaning_data.specs.declared.events.Event.{Event}
use Rattle.co_eval_commit.specs.InPlace.{local_at, noted, rests_after, sees_all}
use Rattle.co_eval_commit.specs.Turned.{IsLeft, IsSame, IsTurned, left_by}
use Rattle.co_eval_commit.proofs.Newest.{seen_newest}
use Rattle.co_eval_commit.proofs.Woken.{set_same}

pub left_is : (e : Effect) (l : Local) → (if rests_after e then [] else l.top ∷ l.below) ≡ left_to e l
left_is effect.Rests l = refl
left_is (effect.RestsAfterMain z) l = refl
left_is e l = refl

pub noted_seen : (e : Option Event) (l : Local) → l.seen ≡ [] → (noted e l).seen ≡ option_to_list e
noted_seen None l none = none
noted_seen (Some e) l none = ap (λ es. es ++ e ∷ []) none

-- the agent after the step, with these activations and exceptions
abbrev pub agent_with : Change → List meaning.Activation → List Thrown → meaning.Agent
agent_with c activations handled = record { doing = doing_of c.doing; activations = activations; handled = handled; halted = is_halted_by c.effect }

pub turned : (c : Change) (before : Local) (s : Shared) (mid a : Agent) (old new seen : List Event) → IsLeft (left_by c.taken c.effect c.frames before) s mid seen → agent_of a ≡ agent_with c (if rests_after c.effect then [] else activations_of mid.activations.items) (reverse mid.handled.items) → new ≡ old ++ seen → IsTurned (turned_by c before) s a old new
unfolding turned_by
turned c before s mid a old new seen left acts sees =
    let after : Local = left_by c.taken c.effect c.frames before in
    record {
      shares = left.shares;
      acts = acts ∙ ap (λ list. agent_with c (if rests_after c.effect then [] else list) (reverse mid.handled.items)) left.stands ∙ ap (agent_with c (if rests_after c.effect then [] else after.top ∷ after.below)) left.handles ∙ ap (λ list. agent_with c list after.handled) (left_is c.effect after);
      sees = sees ∙ ap (λ es. old ++ es) left.sees;
    }

-- what an agent sees after its newest activation was taken out, worked on and put back
pub left : (after : Local) (w : ℕ) (s : Shared) (a : Agent) (handled : List Thrown) (top : Activation) (below : List Activation) (event : Option Event) (l : Local) → sees_all w s handled top (frames_of top.frames.items) below (noted event l) ≡ after → l.seen ≡ [] → reverse a.handled.items ≡ reverse handled → a.activations.items ≡ below ++ top ∷ [] → IsLeft after s a (option_to_list event)
left after w s a handled top below event l made none handles stands =
    record {
      shares = ap (λ m. m.shared) made;
      handles = handles ∙ ap (λ m. m.handled) made;
      stands = ap activations_of stands ∙ seen_newest activation_of below top ∙ ap (λ m. m.top ∷ m.below) made;
      sees = sym (noted_seen event l none) ∙ ap (λ m. m.seen) made;
    }

-- what an agent sees where its newest activation is taken out
pub begins : (p : Program) (w popped : ℕ) (s : Shared) (a : Agent) (newest : Activation) (rest : List Activation) (top : meaning.Activation) (below : List meaning.Activation) → a.activations.items ≡ rest ++ newest ∷ [] → activations_of a.activations.items ≡ top ∷ below → sees_all w s a.handled.items newest (without_top popped (frames_of newest.frames.items)) rest (local_at p w s a top below) ≡ dropped popped (local_at p w s a top below)
begins p w popped s a newest rest top below items acts =
    let both : activation_of newest ∷ activations_of rest ≡ top ∷ below = sym (ap activations_of items ∙ seen_newest activation_of rest newest) ∙ acts in
    let tops : activation_of newest ≡ top = cc in
    let belows : activations_of rest ≡ below = cc in
    ap (λ t. dropped popped (local_at p w s a t (activations_of rest))) tops ∙ ap (λ b. dropped popped (local_at p w s a top b)) belows

-- the same where nothing has changed
pub same : (w : ℕ) (s t : Shared) (a b : Agent) (top now : Activation) (below more : List Activation) (l : Local) → sees_all w t b.handled.items now (frames_of now.frames.items) more l ≡ sees_all w s a.handled.items top (frames_of top.frames.items) below l → a.activations.items ≡ below ++ top ∷ [] → b.activations.items ≡ more ++ now ∷ [] → doing_of b.doing ≡ doing_of a.doing → b.halted ≡ a.halted → IsSame s t a b [] []
same w s t a b top now below more l made before after doing halted =
    let newest : activations_of a.activations.items ≡ activation_of top ∷ activations_of below = ap activations_of before ∙ seen_newest activation_of below top in
    let newer : activations_of b.activations.items ≡ activation_of now ∷ activations_of more = ap activations_of after ∙ seen_newest activation_of more now in
    let stands : activations_of b.activations.items ≡ activations_of a.activations.items = newer ∙ ap (λ m. m.top ∷ m.below) made ∙ sym newest in
    record {
      shares = ap (λ m. m.shared) made;
      acts = ap (λ list. record { doing = doing_of b.doing; activations = list; handled = reverse b.handled.items; halted = b.halted }) stands ∙ ap (λ h. record { doing = doing_of b.doing; activations = activations_of a.activations.items; handled = h; halted = b.halted }) (ap (λ m. m.handled) made) ∙ ap (λ d. record { doing = d; activations = activations_of a.activations.items; handled = reverse a.handled.items; halted = b.halted }) doing ∙ ap (λ h. record { doing = doing_of a.doing; activations = activations_of a.activations.items; handled = reverse a.handled.items; halted = h }) halted;
      sees = refl;
    }

-- the agent that was left, where it does this next
pub ended : (c : Change) (mid : Agent) (rests halts : Bool) → rests ≡ rests_after c.effect → halts ≡ is_halted_by c.effect → record (agent_of mid) { doing = doing_of c.doing; activations = (if rests then [] else activations_of mid.activations.items); halted = halts } ≡ agent_with c (if rests_after c.effect then [] else activations_of mid.activations.items) (reverse mid.handled.items)
ended c mid rests halts is_rest is_halt =
    ap (λ r. record (agent_of mid) { doing = doing_of c.doing; activations = (if r then [] else activations_of mid.activations.items); halted = halts }) is_rest ∙ ap (λ h. record (agent_of mid) { doing = doing_of c.doing; activations = (if rests_after c.effect then [] else activations_of mid.activations.items); halted = h }) is_halt

-- nothing has changed, where there was only more room before
pub same_after : (s t : Shared) (a b : Agent) (room : Vec Activation) (old mid : List Event) → room.items ≡ a.activations.items → mid ≡ old → IsSame s t (record a { activations = room }) b [] [] → IsSame s t a b old mid
same_after s t a b room old mid items events is =
    record { shares = is.shares; acts = is.acts ∙ ap (λ list. record (agent_of a) { activations = activations_of list }) items; sees = events }

-- ---- the configuration

-- the configuration where all agents share this, the agents are these and the events were seen
abbrev pub config_with : Shared → List Agent → List Event → meaning.Config
config_with s agents events = record { shared = shared_of s; agents = map agent_of agents; events = events }

pub moved : (w : ℕ) (config : Configuration) (s : Shared) (a : Agent) (events : List Event) (t : Turned) → IsTurned t s a config.events.items events → after_turn w (config_of config) (Some t) ≡ Some (config_with s (slice_set config.agents.items w a) events)
moved w config s a events t turned =
    sym (ap (λ list. Some (record { shared = shared_of s; agents = list; events = events })) (map-set agent_of config.agents.items w a) ∙ ap (λ sh. Some (record { shared = sh; agents = slice_set (map agent_of config.agents.items) w (agent_of a); events = events })) turned.shares ∙ ap (λ b. Some (record { shared = t.shared; agents = slice_set (map agent_of config.agents.items) w b; events = events })) turned.acts ∙ ap (λ es. Some (record { shared = t.shared; agents = slice_set (map agent_of config.agents.items) w t.agent; events = es })) turned.sees)

pub unmoved : (w : ℕ) (config : Configuration) (s : Shared) (a b : Agent) (events : List Event) → slice_get config.agents.items w ≡ Some a → IsSame config.shared s a b config.events.items events → config_with s (slice_set config.agents.items w b) events ≡ config_of config
unmoved w config s a b events is same =
    ap (λ sh. record { shared = sh; agents = map agent_of (slice_set config.agents.items w b); events = events }) same.shares ∙ ap (λ list. record { shared = shared_of config.shared; agents = list; events = events }) (set_same agent_of config.agents.items w a b is same.acts) ∙ ap (λ es. record { shared = shared_of config.shared; agents = map agent_of config.agents.items; events = es }) same.sees
