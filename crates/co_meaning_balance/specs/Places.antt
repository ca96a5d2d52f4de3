-- The places that keep an object of a coroutine alive, and what there is of a coroutine until it has ended.
use Rattle.std.specs.Prelude.{ℕ, zero, suc, ◌+◌, ◌≤◌, ◌==◌, ◌&&◌, if◌then◌else◌, List, [], ◌∷◌, Option, None, Some}
use Rattle.co_meaning_data.specs.Frames.{Activation, Agent, Alive, Condition, Coroutine, Dies, Doing, Ending, Ends, EndsObject, EndsPart, Final, Frame, Full, HasDied, HasEnded, Holds, IsMade, ObjectEnds, Opens, Over, PassesMark, Running, Scope, Suspended, Temporal}
use Rattle.co_meaning_data.specs.Turn.{Local, Turned}
use Rattle.co_meaning_data.specs.Undefined.{numbered}
use Rattle.co_meaning_data.specs.declared.events.Event.{Event}
use Rattle.co_meaning_data.specs.declared.events.Event.TheVariants as event
use Rattle.co_meaning.specs.Balanced.{births_in, deaths}
use Rattle.co_meaning_balance.specs.Order.{frames_hold, one_more}

-- 1 where there are some, else 0
abbrev pub present : ℕ → ℕ
present zero = 0
present (suc held) = 1

-- Of the coroutine n and the object x: each place that keeps x alive as an object of n counts k, which is 1 where a frame of the same
-- list holds n there or below, else 0.
module _ (n x : ℕ) where
  abbrev pub seen_alive : ℕ → Option ℕ → ℕ → ℕ
  seen_alive k None y = 0
  seen_alive k (Some m) y = if (n == m) && (x == y) then k else 0

  abbrev pub object_alive : ℕ → Alive → ℕ
  object_alive k y = seen_alive k y.coroutine y.object

  abbrev pub objects_alive : ℕ → List Alive → ℕ
  objects_alive k [] = 0
  objects_alive k (y ∷ ys) = object_alive k y + objects_alive k ys

  abbrev pub option_alive : ℕ → Option Alive → ℕ
  option_alive k None = 0
  option_alive k (Some y) = object_alive k y

  abbrev pub temporaries_alive : ℕ → List Temporal → ℕ
  temporaries_alive k [] = 0
  temporaries_alive k (t ∷ ts) = option_alive k t.object + temporaries_alive k ts

  abbrev pub ending_alive : ℕ → Ending → ℕ
  ending_alive k (EndsObject y) = object_alive k y
  ending_alive k (EndsPart p) = 0
  ending_alive k (PassesMark y) = option_alive k y

  abbrev pub endings_alive : ℕ → List Ending → ℕ
  endings_alive k [] = 0
  endings_alive k (e ∷ es) = ending_alive k e + endings_alive k es

  -- with this frame, above frames with so many
  abbrev pub frame_alive : ℕ → Frame → ℕ → ℕ
  frame_alive k (Ends rest outcome) alive = endings_alive k rest + alive
  frame_alive k (ObjectEnds y) alive = object_alive k y + alive
  frame_alive k (Full ts) alive = temporaries_alive k ts + alive
  frame_alive k (Scope objects rest) alive = objects_alive k objects + alive
  frame_alive k (Holds hold) alive = objects_alive k hold.alive + alive
  frame_alive k f alive = alive

  abbrev pub frames_alive : List Frame → ℕ
  frames_alive [] = 0
  frames_alive (f ∷ fs) = frame_alive (present (frames_hold (Some n) (f ∷ fs))) f (frames_alive fs)

  abbrev pub activations_alive : List Activation → ℕ
  activations_alive [] = 0
  activations_alive (a ∷ rest) = frames_alive a.frames + activations_alive rest

  -- with what is done, beside so many
  abbrev pub doing_alive : ℕ → Doing → ℕ → ℕ
  doing_alive k (Opens marks d) alive = doing_alive k d alive
  doing_alive k (Dies y) alive = object_alive k y + alive
  doing_alive k (HasDied m y) alive = seen_alive k (Some m) y + alive
  doing_alive k d alive = alive

  abbrev pub top_alive : Doing → List Activation → ℕ → ℕ
  top_alive d [] alive = alive
  top_alive d (a ∷ rest) alive = doing_alive (present (frames_hold (Some n) a.frames)) d alive

  abbrev pub condition_alive : Condition → ℕ
  condition_alive (Running serial) = 0
  condition_alive (Suspended point serial rest) = frames_alive rest.frames
  condition_alive (Final point serial rest) = frames_alive rest.frames
  condition_alive Over = 0

  abbrev pub coroutine_alive : Option Coroutine → ℕ
  coroutine_alive None = 0
  coroutine_alive (Some c) = condition_alive c.condition

  abbrev pub agent_alive : Agent → ℕ → ℕ
  agent_alive a alive = top_alive a.doing a.activations (activations_alive a.activations + alive)

  abbrev pub agents_alive : List Agent → ℕ
  agents_alive [] = 0
  agents_alive (a ∷ rest) = agent_alive a 0 + agents_alive rest

  -- ---- what there is of the coroutine

  -- Until the coroutine has ended one of these is there: its number is not drawn, the event of its making is due, a frame holds it,
  -- or the event of its end is due.
  abbrev pub doing_tokens : Doing → ℕ → ℕ
  doing_tokens (Opens marks d) tokens = doing_tokens d tokens
  doing_tokens (IsMade m) tokens = one_more (Some n) m tokens
  doing_tokens (HasEnded m block outcome) tokens = one_more (Some n) m tokens
  doing_tokens d tokens = tokens

  abbrev pub activations_hold : List Activation → ℕ
  activations_hold [] = 0
  activations_hold (a ∷ rest) = frames_hold (Some n) a.frames + activations_hold rest

  abbrev pub condition_holds : Condition → ℕ
  condition_holds (Running serial) = 0
  condition_holds (Suspended point serial rest) = frames_hold (Some n) rest.frames
  condition_holds (Final point serial rest) = frames_hold (Some n) rest.frames
  condition_holds Over = 0

  abbrev pub coroutine_tokens : Option Coroutine → ℕ
  coroutine_tokens None = 1
  coroutine_tokens (Some c) = condition_holds c.condition

  abbrev pub agent_tokens : Agent → ℕ → ℕ
  agent_tokens a tokens = doing_tokens a.doing (activations_hold a.activations + tokens)

  abbrev pub agents_tokens : List Agent → ℕ
  agents_tokens [] = 0
  agents_tokens (a ∷ rest) = agent_tokens a 0 + agents_tokens rest

  -- how often the coroutine has ended
  abbrev pub ended : List Event → ℕ
  ended [] = 0
  ended (event.Ended m ∷ events) = one_more (Some n) m (ended events)
  ended (e ∷ events) = ended events

  -- ---- a step

  -- At most `limit` is there of the coroutine, or has ended, and the places and the deaths make up for the births and for `owed`.
  module _ (limit owed : ℕ) where
    abbrev pub Balances : (tokens alive : ℕ) → List Event → Type 0
    Balances tokens alive seen = (limit ≤ 1) × (tokens + ended seen ≤ limit) × (owed + births_in n x seen ≤ deaths x seen + alive)

    -- all but the newest activation
    abbrev pub RestKept : Local → Type 0
    RestKept l =
        Balances (activations_hold l.below + coroutine_tokens (numbered l.shared.coroutines n)) (activations_alive l.below + coroutine_alive (numbered l.shared.coroutines n)) l.seen

    -- the activations, with so many places more
    abbrev pub KeptWith : ℕ → Local → Type 0
    KeptWith more l =
        Balances (activations_hold (l.top ∷ l.below) + coroutine_tokens (numbered l.shared.coroutines n)) (more + (activations_alive (l.top ∷ l.below) + coroutine_alive (numbered l.shared.coroutines n))) l.seen

    -- the activations
    abbrev pub Kept : Local → Type 0
    Kept l =
        Balances (activations_hold (l.top ∷ l.below) + coroutine_tokens (numbered l.shared.coroutines n)) (activations_alive (l.top ∷ l.below) + coroutine_alive (numbered l.shared.coroutines n)) l.seen

    -- a step that there is
    abbrev pub Keeps : Option Turned → Type 0
    Keeps None = Unit {0}
    Keeps (Some t) = Balances (agent_tokens t.agent (coroutine_tokens (numbered t.shared.coroutines n))) (agent_alive t.agent (coroutine_alive (numbered t.shared.coroutines n))) t.seen
