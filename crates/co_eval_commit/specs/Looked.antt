-- The innermost of the frames of a sort.
use Rattle.std.specs.Prelude.{◌≡◌, ℕ, suc, Bool, true, false, List, [], ◌∷◌, drop, slice_get, slice_set, Option, None, Some, ⊤}
use Rattle.std.specs.Borrow.{Bor}
use Rattle.co_eval_data.specs.Changed.{or_same}
use Rattle.co_eval_data.specs.Seen.{alive_of, frame_of, frames_of}
use Rattle.co_eval_data.specs.declared.frames.Alive.{Alive}
use Rattle.co_eval_data.specs.declared.frames.Frame.{Frame}
use Rattle.co_eval_data.specs.declared.frames.Node.{Node}
use Rattle.co_eval_data.specs.declared.frames.Node.TheVariants as node
use Rattle.co_eval_data.specs.declared.frames.Step.{Step}
use Rattle.co_eval_data.specs.declared.frames.Step.TheVariants as step
use Rattle.co_eval_data.specs.declared.frames.Temporal.{Temporal}
use Rattle.co_eval_data.specs.declared.values.Place.{Place}
use Rattle.co_core_tree.specs.declared.exprs.AwaitPlan.{AwaitPlan}
use Rattle.co_meaning_calls.specs.Objects.{into_full}
use Rattle.co_eval_commit.specs.declared.looked.Looked.{Looked}
use Rattle.co_eval_commit.specs.declared.looked.Looked.TheVariants as looked
use Rattle.co_eval_commit.specs.declared.looked.Sort.{Sort}
use Rattle.co_eval_commit.specs.declared.looked.Sort.TheVariants as sort
use Rattle.co_eval_commit.specs.declared.looked.Stand.{Stand}
use Rattle.co_meaning_data.specs.Frames as meaning

-- what a frame is looked at as
abbrev pub sort_of : meaning.Frame → Sort
sort_of (meaning.Scope alive rest) = sort.Scope
sort_of (meaning.Full ts) = sort.Full
sort_of (meaning.AwaitSuspend plan into own) = sort.Await
sort_of (meaning.Holds hold) = sort.Hold
sort_of (meaning.Guards resumed) = sort.Guard
sort_of f = sort.Other

abbrev pub is_scope : Sort → Bool
is_scope sort.Scope = true
is_scope s = false

abbrev pub is_full : Sort → Bool
is_full sort.Full = true
is_full s = false

abbrev pub has_temporaries : Sort → Bool
has_temporaries sort.Full = true
has_temporaries sort.Await = true
has_temporaries s = false

abbrev pub is_hold : Sort → Bool
is_hold sort.Hold = true
is_hold s = false

abbrev pub is_guard : Sort → Bool
is_guard sort.Guard = true
is_guard s = false

abbrev pub is_no_full : Sort → Bool
is_no_full sort.Full = false
is_no_full s = true

-- whether a frame is one that is looked for
abbrev pub meets : Looked → Sort → Bool
meets looked.Scope s = is_scope s
meets looked.Full s = is_full s
meets looked.Temporaries s = has_temporaries s
meets looked.Hold s = is_hold s
meets looked.Guard s = is_guard s
meets looked.Making s = is_no_full s

-- none of the frames is one that is looked for
abbrev pub AreOthers : Looked → List Frame → Type 0
AreOthers what [] = ⊤
AreOthers what (f ∷ fs) = (meets what (sort_of (frame_of f)) ≡ false) × AreOthers what fs

-- the frame of that number is the last one that is looked for
abbrev pub IsInnermost : Looked → List Frame → Option ℕ → Type 0
IsInnermost what fs None = AreOthers what fs
IsInnermost what fs (Some at) = (f : Frame) × (slice_get fs at ≡ Some f) × (meets what (sort_of (frame_of f)) ≡ true) × AreOthers what (drop (suc at) fs)

abbrev pub restepped : List Frame → ℕ → Step → Option Frame → List Frame
restepped fs at s None = fs
restepped fs at s (Some f) = slice_set fs at (record f { step = s })

-- the frames, where the frame that is meant does this in place of what it did
abbrev pub stood_by : Option Stand → List Frame → List Frame
stood_by None fs = fs
stood_by (Some stand) fs = restepped fs stand.at stand.step (slice_get fs stand.at)

-- a full-expression with these temporaries
abbrev pub HoldsTemporaries : List Temporal → Frame → Type 0
HoldsTemporaries ts f = f.step ≡ step.Full ts

-- the call of `await_suspend` with these temporaries of its agent's own
abbrev pub HoldsOwn : Option Place → List ℕ → Frame → Type 0
HoldsOwn into own f = (plan : Bor AwaitPlan) × (f.step ≡ step.AwaitSuspend into own) × (f.node ≡ node.Await plan)

-- the temporary comes to stand in the frame of that number, the innermost one where temporaries stand
abbrev pub StandsInFull : ℕ → (Frame → Type 0) → ℕ → Alive → Option Stand → Type 0
StandsInFull at Holds slot x stand = (fs : List Frame) (f : Frame) → slice_get fs at ≡ Some f → Holds f → AreOthers looked.Temporaries (drop (suc at) fs) → frames_of (stood_by stand fs) ≡ or_same (frames_of fs) (into_full slot (alive_of x) (frames_of fs))

-- the temporary stands in the frames where its birth is not seen
abbrev pub unseen_stood : ℕ → meaning.Alive → List meaning.Frame → Option ℕ → List meaning.Frame
unseen_stood slot x fs None = or_same fs (into_full slot x fs)
unseen_stood slot x fs (Some c) = fs

-- the temporary comes to stand in this frame of that number, the innermost one where temporaries stand
abbrev pub StandsInFrame : ℕ → Frame → ℕ → Alive → Option Stand → Type 0
StandsInFrame at f slot x stand = (fs : List Frame) → slice_get fs at ≡ Some f → has_temporaries (sort_of (frame_of f)) ≡ true → AreOthers looked.Temporaries (drop (suc at) fs) → frames_of (stood_by stand fs) ≡ or_same (frames_of fs) (into_full slot (alive_of x) (frames_of fs))

-- the same of a frame that calls `await_suspend`
abbrev pub StandsInAwait : ℕ → Node → Option Place → List ℕ → ℕ → Alive → Option Stand → Type 0
StandsInAwait at n into own slot x stand = (fs : List Frame) (f : Frame) → slice_get fs at ≡ Some f → f.step ≡ step.AwaitSuspend into own → f.node ≡ n → has_temporaries (sort_of (frame_of f)) ≡ true → AreOthers looked.Temporaries (drop (suc at) fs) → frames_of (stood_by stand fs) ≡ or_same (frames_of fs) (into_full slot (alive_of x) (frames_of fs))
