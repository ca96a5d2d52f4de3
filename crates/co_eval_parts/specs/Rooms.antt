-- Where objects that are alive can stand in frames.
use Rattle.std.specs.Prelude.{ℕ, Bool, true, false, ◌==◌, if◌then◌else◌, List, [], ◌∷◌, map, Option, None, Some}
use Rattle.co_eval_data.specs.Seen.{temporal_of}
use Rattle.co_eval_data.specs.declared.frames.Node.{Node}
use Rattle.co_eval_data.specs.declared.frames.Node.TheVariants as node
use Rattle.co_eval_data.specs.declared.frames.Step.{Step}
use Rattle.co_eval_data.specs.declared.frames.Step.TheVariants as step
use Rattle.co_eval_parts.specs.declared.births.Stand.{Stand}
use Rattle.co_eval_parts.specs.declared.births.Stand.TheVariants as standing
use Rattle.co_meaning_data.specs.Frames.{Alive, AwaitSuspend, Frame, Full, Holds, InFull, InHold, InScope, Scope, Spot, Temporal}

-- a frame, as far as objects stand in it
pub data Place : Type 0 where
  InAScope : Place
  InAFull : (temporaries : List Temporal) → Place
  AtSuspension : Place
  InAHold : Place
  Nowhere : Place

abbrev pub stand_of : Stand → Place
stand_of standing.Scope = InAScope
stand_of (standing.Full ts) = InAFull (map temporal_of ts.now)
stand_of standing.Suspension = AtSuspension
stand_of standing.Hold = InAHold
stand_of standing.Nowhere = Nowhere

abbrev pub node_stand : Node → Place
node_stand (node.Await plan) = AtSuspension
node_stand n = Nowhere

abbrev pub step_stand : Step → Node → Place
step_stand (step.Scope alive) n = InAScope
step_stand (step.Full ts) n = InAFull (map temporal_of ts)
step_stand (step.AwaitSuspend into own) n = node_stand n
step_stand (step.Holds hold) n = InAHold
step_stand s n = Nowhere

abbrev pub stand : Frame → Place
stand (Scope alive rest) = InAScope
stand (Full ts) = InAFull ts
stand (AwaitSuspend plan into own) = AtSuspension
stand (Holds hold) = InAHold
stand f = Nowhere

abbrev pub is_none : Option ℕ → Bool
is_none None = true
is_none (Some c) = false

abbrev pub is_no_object : Option Alive → Bool
is_no_object None = true
is_no_object (Some x) = false

-- the temporary is not made yet
abbrev pub no_object : Temporal → Bool
no_object t = is_no_object t.object

-- a temporary of this slot is among these and not made yet
abbrev pub is_unmade : ℕ → List Temporal → Bool
is_unmade slot [] = false
is_unmade slot (t ∷ ts) = if t.slot == slot then no_object t else is_unmade slot ts

abbrev pub room_in_scope : Place → Option Bool
room_in_scope InAScope = Some true
room_in_scope p = None

abbrev pub room_in_full : ℕ → Alive → Place → Option Bool
room_in_full slot x (InAFull ts) = Some (is_unmade slot ts)
room_in_full slot x AtSuspension = Some (is_none x.coroutine)
room_in_full slot x p = None

abbrev pub room_in_hold : Place → Option Bool
room_in_hold InAHold = Some true
room_in_hold p = None

-- whether the object can stand in the frame, where the search for a place ends with it
abbrev pub room : Spot → Alive → Place → Option Bool
room InScope x p = room_in_scope p
room (InFull slot) x p = room_in_full slot x p
room InHold x p = room_in_hold p

abbrev pub or_else : Option Bool → Bool → Bool
or_else None b = b
or_else (Some a) b = a

abbrev pub has_room : Spot → Alive → List Frame → Bool
has_room spot x [] = false
has_room spot x (f ∷ fs) = or_else (room spot x (stand f)) (has_room spot x fs)
