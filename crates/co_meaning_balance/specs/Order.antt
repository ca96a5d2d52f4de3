-- Where the frames of a coroutine stand: what makes or has objects of the coroutine stands above the frame that holds it.
use Rattle.std.specs.Prelude.{ℕ, zero, suc, ◌+◌, ◌≤◌, ◌==◌, if◌then◌else◌, List, [], ◌∷◌, Option, None, Some}
use Rattle.co_core_tree.specs.declared.exprs.Init.{Init}
use Rattle.co_meaning_data.specs.Frames.{Activation, Agent, Alive, Answers, Border, Called, Calling, Closes, Comes, Condition, Coroutine, Declares, Dies, Doing, Draws, Drops, Ends, Final, Frame, Function, HasDied, HasEnded, Holds, Idle, IsBorn, IsMade, NullDone, ObjectEnds, Opens, Over, PartEnds, RampDone, RampMade, RampTake, RampTaken, Releases, Running, Suspended, TempMade}
use Rattle.co_meaning_data.specs.Turn.{Local, Turned}

-- ---- the frames that hold a coroutine

-- one more where the number is that of the coroutine
abbrev pub one_more : Option ℕ → ℕ → ℕ → ℕ
one_more None m held = held
one_more (Some n) m held = if n == m then suc held else held

-- 1 where it is not, else 0
abbrev pub is_other : Option ℕ → ℕ → ℕ
is_other None m = 1
is_other (Some n) m = if n == m then 0 else 1

-- A coroutine is held as long as its promise and its copies stand, and while they die. So many frames hold it with this one.
abbrev pub frame_holds : Option ℕ → Frame → ℕ → ℕ
frame_holds c (Holds hold) held = one_more c hold.coroutine held
frame_holds c (Closes m block outcome) held = one_more c m held
frame_holds c f held = held

-- how many of the frames hold the coroutine
abbrev pub frames_hold : Option ℕ → List Frame → ℕ
frames_hold c [] = 0
frames_hold c (f ∷ fs) = frame_holds c f (frames_hold c fs)

-- ---- what has to stand above a frame that holds the coroutine

-- 1 where there is none, else 0
abbrev pub lacks : ℕ → ℕ
lacks zero = 1
lacks (suc held) = 0

-- 1 where frames are of a coroutine and none of them holds it
abbrev pub needs : Option ℕ → ℕ → ℕ
needs None held = 0
needs (Some m) held = lacks held

-- the same of an object that is to live: it is of the coroutine of its frames, or of none
abbrev pub object_needs : Option ℕ → ℕ → Option ℕ → ℕ
object_needs c held None = 0
object_needs c held (Some m) = is_other c m + lacks held

-- a call without arguments left makes no objects in its caller
abbrev pub call_needs : ℕ → List Init → ℕ
call_needs n [] = 0
call_needs n (i ∷ rest) = n

-- how many of the frames do not stand around a whole function
abbrev pub frame_inner : Frame → ℕ → ℕ
frame_inner Border inner = inner
frame_inner (Function own) inner = inner
frame_inner f inner = suc inner

abbrev pub frames_inner : List Frame → ℕ
frames_inner [] = 0
frames_inner (f ∷ fs) = frame_inner f (frames_inner fs)

-- How much is wrong with a frame of the coroutine c, if there is one, above frames of which `held` hold c and `inner` do not stand
-- around the whole function: 0 where it may stand there. A frame that makes no objects may stand anywhere, and one that makes some
-- above a frame that holds c. Below such a frame, below the first frames of a ramp and below the frame that awaits what
-- `await_suspend` gives there are only frames around the whole function.
abbrev pub frame_strays : Option ℕ → (held inner : ℕ) → Frame → ℕ
frame_strays c held inner (Holds hold) = is_other c hold.coroutine + inner
frame_strays c held inner (Closes m block outcome) = is_other c m + inner
frame_strays c held inner (TempMade slot y) = needs c held + object_needs c held y.coroutine
frame_strays c held inner (Declares y) = needs c held + object_needs c held y.coroutine
frame_strays c held inner (RampMade y) = needs c held + object_needs c held y.coroutine
frame_strays c held inner (Calling call) = call_needs (needs c held) call.rest
frame_strays c held inner (Called objects) = 0
frame_strays c held inner (Ends rest outcome) = 0
frame_strays c held inner (ObjectEnds y) = 0
frame_strays c held inner (PartEnds place) = 0
frame_strays c held inner Drops = 0
frame_strays c held inner Border = 0
frame_strays c held inner (Function own) = 0
frame_strays c held inner RampTake = needs c held + inner
frame_strays c held inner RampTaken = inner
frame_strays c held inner RampDone = 0
frame_strays c held inner NullDone = 0
frame_strays c held inner (Answers m serial answer own at) = inner
frame_strays c held inner f = needs c held

abbrev pub frames_stray : Option ℕ → List Frame → ℕ
frames_stray c [] = 0
frames_stray c (f ∷ fs) = frame_strays c (frames_hold c fs) (frames_inner fs) f + frames_stray c fs

-- of what is done above the frames
abbrev pub doing_strays : Option ℕ → (held inner : ℕ) → Doing → ℕ
doing_strays c held inner Idle = 0
doing_strays c held inner (Opens marks d) = doing_strays c held inner d
doing_strays c held inner (Comes outcome) = 0
doing_strays c held inner (IsBorn y spot outcome) = object_needs c held y.coroutine
doing_strays c held inner (Dies y) = 0
doing_strays c held inner (HasDied m y) = 0
doing_strays c held inner (Draws block) = inner
doing_strays c held inner (IsMade m) = is_other c m + inner
doing_strays c held inner (HasEnded m block outcome) = 0
doing_strays c held inner (Releases block words give outcome at) = 0
doing_strays c held inner d = needs c held

-- ---- agents and coroutines

abbrev pub activations_stray : List Activation → ℕ
activations_stray [] = 0
activations_stray (a ∷ rest) = frames_stray a.coroutine a.frames + activations_stray rest

abbrev pub top_strays : Doing → List Activation → ℕ
top_strays d [] = 0
top_strays d (a ∷ rest) = doing_strays a.coroutine (frames_hold a.coroutine a.frames) (frames_inner a.frames) d

abbrev pub condition_strays : ℕ → Condition → ℕ
condition_strays m (Running serial) = 0
condition_strays m (Suspended point serial rest) = frames_stray (Some m) rest.frames
condition_strays m (Final point serial rest) = frames_stray (Some m) rest.frames
condition_strays m Over = 0

-- of coroutines, the first of which has this number
abbrev pub coroutines_stray : ℕ → List Coroutine → ℕ
coroutines_stray m [] = 0
coroutines_stray m (c ∷ cs) = condition_strays m c.condition + coroutines_stray (suc m) cs

abbrev pub agent_strays : Agent → ℕ
agent_strays a = top_strays a.doing a.activations + activations_stray a.activations

abbrev pub agents_stray : List Agent → ℕ
agents_stray [] = 0
agents_stray (a ∷ rest) = agent_strays a + agents_stray rest

-- all but the frames of the newest activation
abbrev pub rest_strays : Local → ℕ
rest_strays l = activations_stray l.below + coroutines_stray 1 l.shared.coroutines

abbrev pub local_strays : Local → ℕ
local_strays l = frames_stray l.top.coroutine l.top.frames + rest_strays l

-- with something that is to stand above the frames
abbrev pub open_strays : Local → ℕ
open_strays l = needs l.top.coroutine (frames_hold l.top.coroutine l.top.frames) + local_strays l

-- with an object that is to live
abbrev pub made_strays : Alive → Local → ℕ
made_strays y l = object_needs l.top.coroutine (frames_hold l.top.coroutine l.top.frames) y.coroutine + local_strays l

abbrev pub turned_strays : Turned → ℕ
turned_strays t = agent_strays t.agent + coroutines_stray 1 t.shared.coroutines

-- nothing stands where it may not
abbrev pub InOrder : Option Turned → Type 0
InOrder None = Unit {0}
InOrder (Some t) = turned_strays t ≤ 0
