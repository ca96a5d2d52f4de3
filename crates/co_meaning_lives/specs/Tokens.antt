-- Where the birth and the death of an object are still to come.
use Rattle.std.specs.Prelude.{ℕ, ◌+◌, ◌≤◌, ◌==◌, nat_lt, if◌then◌else◌, List, [], ◌∷◌, length, Option, None, Some}
use Rattle.co_meaning_data.specs.Frames.{Activation, Agent, Alive, Condition, Config, Coroutine, Declares, Dies, Doing, Ending, Ends, EndsObject, EndsPart, Final, Frame, Full, HasDied, Holds, IsBorn, ObjectEnds, Opens, Over, PassesMark, RampMade, Running, Scope, Shared, Suspended, TempMade, Temporal}
use Rattle.co_meaning_data.specs.Store.{Store}
use Rattle.co_meaning_data.specs.Turn.{Local, Turned}
use Rattle.co_meaning_data.specs.declared.events.Event.{Event}
use Rattle.co_meaning_data.specs.declared.events.Event.TheVariants as event

-- Of the object x: each place that is to make it live, and each birth that is due, counts `raw`; each place that is to end it, where
-- its death is seen, counts `death`. An event counts `each`, a birth that is seen also `birth`, and a death `death`. A birth is worth
-- `credit`.
module _ (x raw birth death credit each : ℕ) where
  abbrev pub weighs : ℕ → ℕ → ℕ
  weighs y n = if x == y then n else 0

  abbrev pub seen_weighs : Option ℕ → ℕ → ℕ
  seen_weighs None n = 0
  seen_weighs (Some c) n = n

  abbrev pub alive_weighs : Alive → ℕ
  alive_weighs y = seen_weighs y.coroutine (weighs y.object death)

  abbrev pub alive_weigh : List Alive → ℕ
  alive_weigh [] = 0
  alive_weigh (y ∷ ys) = alive_weighs y + alive_weigh ys

  abbrev pub object_weighs : Option Alive → ℕ
  object_weighs None = 0
  object_weighs (Some y) = alive_weighs y

  abbrev pub temporaries_weigh : List Temporal → ℕ
  temporaries_weigh [] = 0
  temporaries_weigh (t ∷ ts) = object_weighs t.object + temporaries_weigh ts

  abbrev pub ending_weighs : Ending → ℕ
  ending_weighs (EndsObject y) = alive_weighs y
  ending_weighs (EndsPart p) = 0
  ending_weighs (PassesMark y) = object_weighs y

  abbrev pub endings_weigh : List Ending → ℕ
  endings_weigh [] = 0
  endings_weigh (e ∷ es) = ending_weighs e + endings_weigh es

  abbrev pub frame_weighs : Frame → ℕ
  frame_weighs (TempMade slot y) = weighs y.object raw
  frame_weighs (Declares y) = weighs y.object raw
  frame_weighs (RampMade y) = weighs y.object raw
  frame_weighs (Ends rest outcome) = endings_weigh rest
  frame_weighs (ObjectEnds y) = alive_weighs y
  frame_weighs (Full ts) = temporaries_weigh ts
  frame_weighs (Scope alive rest) = alive_weigh alive
  frame_weighs (Holds hold) = alive_weigh hold.alive
  frame_weighs f = 0

  abbrev pub frames_weigh : List Frame → ℕ
  frames_weigh [] = 0
  frames_weigh (f ∷ fs) = frame_weighs f + frames_weigh fs

  abbrev pub activations_weigh : List Activation → ℕ
  activations_weigh [] = 0
  activations_weigh (a ∷ rest) = frames_weigh a.frames + activations_weigh rest

  abbrev pub doing_weighs : Doing → ℕ
  doing_weighs (Opens n d) = doing_weighs d
  doing_weighs (IsBorn y spot outcome) = weighs y.object raw
  doing_weighs (Dies y) = alive_weighs y
  doing_weighs (HasDied c y) = weighs y death
  doing_weighs d = 0

  abbrev pub condition_weighs : Condition → ℕ
  condition_weighs (Running serial) = 0
  condition_weighs (Suspended point serial rest) = frames_weigh rest.frames
  condition_weighs (Final point serial rest) = frames_weigh rest.frames
  condition_weighs Over = 0

  abbrev pub option_weighs : Option Coroutine → ℕ
  option_weighs None = 0
  option_weighs (Some c) = condition_weighs c.condition

  abbrev pub coroutines_weigh : List Coroutine → ℕ
  coroutines_weigh [] = 0
  coroutines_weigh (c ∷ cs) = condition_weighs c.condition + coroutines_weigh cs

  -- an object whose number was not given yet may still be made
  abbrev pub fresh_weighs : Store → ℕ
  fresh_weighs s = if nat_lt x (length s.objects) then 0 else raw

  abbrev pub shared_weighs : Shared → ℕ
  shared_weighs s = coroutines_weigh s.coroutines + fresh_weighs s.store

  abbrev pub event_weighs : Event → ℕ
  event_weighs (event.Born c y) = weighs y birth
  event_weighs (event.Died c y) = weighs y death
  event_weighs e = 0

  abbrev pub events_weigh : List Event → ℕ
  events_weigh [] = 0
  events_weigh (e ∷ es) = event_weighs e + (each + events_weigh es)

  abbrev pub event_credits : Event → ℕ
  event_credits (event.Born c y) = weighs y credit
  event_credits e = 0

  abbrev pub credits : List Event → ℕ
  credits [] = 0
  credits (e ∷ es) = event_credits e + credits es

  -- all but the activations, and all but the frames of the newest one
  abbrev pub common_weighs : Local → ℕ
  common_weighs l = shared_weighs l.shared + events_weigh l.seen

  abbrev pub rest_weighs : Local → ℕ
  rest_weighs l = activations_weigh l.below + common_weighs l

  abbrev pub local_weighs : Local → ℕ
  local_weighs l = frames_weigh l.top.frames + rest_weighs l

  abbrev pub turned_weighs : Turned → ℕ
  turned_weighs t = doing_weighs t.agent.doing + (activations_weigh t.agent.activations + (shared_weighs t.shared + events_weigh t.seen))

  abbrev pub agent_weighs : Agent → ℕ
  agent_weighs a = doing_weighs a.doing + activations_weigh a.activations

  abbrev pub agents_weigh : List Agent → ℕ
  agents_weigh [] = 0
  agents_weigh (a ∷ rest) = agent_weighs a + agents_weigh rest

  abbrev pub config_weighs : Config → ℕ
  config_weighs c = agents_weigh c.agents + (shared_weighs c.shared + events_weigh c.events)

  -- a step that there is weighs at most so much, and what its births are worth
  abbrev pub Fits : ℕ → Option Turned → Type 0
  Fits n None = Unit {0}
  Fits n (Some t) = turned_weighs t ≤ n + credits t.seen
