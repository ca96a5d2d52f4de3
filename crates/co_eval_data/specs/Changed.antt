-- What a change leaves of what an agent sees.
use Rattle.std.specs.Prelude.{ℕ, zero, suc, Bool, true, false, List, [], ◌∷◌, ◌++◌, map, length, Option, None, Some}
use Rattle.co_base.specs.declared.kinds.Thrown.{Thrown}
use Rattle.co_meaning_data.specs.declared.events.Event.TheVariants as event
use Rattle.co_meaning_data.specs.declared.values.Cell.TheVariants as cell
use Rattle.co_meaning_data.specs.declared.values.Standing.TheVariants as standing
use Rattle.co_eval_data.specs.declared.agents.Task.{Task}
use Rattle.co_eval_data.specs.declared.changes.Change.{Change}
use Rattle.co_eval_data.specs.declared.changes.Effect.{Effect}
use Rattle.co_eval_data.specs.declared.changes.Effect.TheVariants as effect
use Rattle.co_eval_data.specs.declared.changes.Wake.{Wake}
use Rattle.co_eval_data.specs.declared.changes.Wake.TheVariants as wake
use Rattle.co_eval_data.specs.declared.frames.Frame.{Frame}
use Rattle.co_eval_data.specs.Agents as seen
use Rattle.co_eval_data.specs.Seen.{alive_of, frames_of, spot_of}
use Rattle.co_meaning_calls.specs.Calls.{one_more_field}
use Rattle.co_meaning_calls.specs.Coroutines.{activation_of, coroutines, promised_by, reached, serial_now, set_condition, suspended_at, with_new_coroutine}
use Rattle.co_meaning_calls.specs.Objects.{set_mark, stands}
use Rattle.co_meaning_data.specs.Frames.{Activation, Alive, Condition, Continuation, Coroutine, Doing, Final, Kind, Over, Running, Shared, Spot, Suspended}
use Rattle.co_meaning_data.specs.Frames as meaning
use Rattle.co_meaning_data.specs.Store.{Store, StoredObject, add_block, add_object, end_object, make_live, next_object, object_at, release, set_standing, with_cell, with_cells}
use Rattle.co_meaning_data.specs.Turn.{Local, Turned, goes, happens, store, with_frames, with_slot, with_store}
use Rattle.co_meaning_data.specs.Undefined.{numbered}

-- ---- frames

abbrev pub without_top : ℕ → List meaning.Frame → List meaning.Frame
without_top zero fs = fs
without_top (suc n) [] = []
without_top (suc n) (f ∷ fs) = without_top n fs

-- so many frames are taken away
abbrev pub dropped : ℕ → Local → Local
dropped n l = with_frames (without_top n l.top.frames) l

-- these frames are left on top, the innermost last in the list
abbrev pub all_pushed : List Frame → Local → Local
all_pushed fs l = with_frames (frames_of fs ++ l.top.frames) l

abbrev pub or_same : List meaning.Frame → Option (List meaning.Frame) → List meaning.Frame
or_same fs None = fs
or_same fs (Some gs) = gs

-- the object stands there in the frames, where there is a place for it
abbrev pub stood : Alive → Spot → Local → Local
stood x spot l = with_frames (or_same l.top.frames (stands spot x l.top.frames)) l

abbrev pub stood_unseen : Alive → Spot → Local → Option ℕ → Local
stood_unseen x spot l None = stood x spot l
stood_unseen x spot l (Some c) = l

-- ---- objects

abbrev pub lived : ℕ → Local → Local
lived x l = with_store (make_live x (store l)) l

abbrev pub added : ℕ → StoredObject → Local → Local
added slot o l = with_slot slot (next_object (store l)) (with_store (add_object o (store l)) l)

abbrev pub all_added : List StoredObject → Store → Store
all_added objects s = record s { objects = s.objects ++ objects }

-- ---- coroutines

abbrev pub continuation_in : Condition → Continuation
continuation_in (Suspended point serial rest) = rest
continuation_in (Final point serial rest) = rest
continuation_in c = record { slots = []; frames = [] }

abbrev pub serial_after : Condition → ℕ
serial_after (Suspended point serial rest) = serial
serial_after (Final point serial rest) = serial
serial_after (Running serial) = serial
serial_after Over = 0

abbrev pub stands_as : Wake → Activation → Local → Local
stands_as wake.Above a l = record l { top = a; below = l.top ∷ l.below }
stands_as wake.Instead a l = record l { top = a }

-- the suspended coroutine runs, and its activation stands there
abbrev pub woken : ℕ → Kind → Wake → Local → Option Coroutine → Local
woken n k place l None = l
woken n k place l (Some c) =
    stands_as place (activation_of k n c (continuation_in c.condition)) (set_condition n (Running (serial_after c.condition)) l)

abbrev pub suspended : ℕ → ℕ → List Frame → Activation → Local → Local
suspended n point fs parked l =
    let rest : Continuation = record { slots = l.top.slots; frames = frames_of fs ++ l.top.frames } in
    record (set_condition n (suspended_at point (suc (serial_now n l)) rest) l) { top = parked }

abbrev pub escaped : ℕ → List (Option ℕ) → List Frame → Local → Local
escaped n slots fs l =
    let rest : Continuation = record { slots = slots; frames = l.top.frames } in
    with_frames (frames_of fs) (set_condition n (Final 2 (suc (serial_now n l)) rest) l)

abbrev pub returned : List Activation → Local → Local
returned [] l = l
returned (a ∷ rest) l = record l { top = a; below = rest }

abbrev pub without_newest : List Thrown → List Thrown
without_newest [] = []
without_newest (v ∷ handled) = handled

-- ---- effects

abbrev pub effected : Effect → Local → Local
effected effect.Nothing l = l
effected (effect.Happens e) l = happens e l
effected (effect.IsUndefined kind at) l =
    let after = happens (event.Undefined l.worker kind at) l in
    record after { shared = record after.shared { undefined = true } }
effected (effect.IsUncaught v) l = happens (event.Uncaught l.worker v) l
effected (effect.Adds slot o) l = added slot (seen.object_of o) l
effected (effect.AddsPromise slot o) l = promised_by (next_object (store l)) (added slot (seen.object_of o) l) l.top.coroutine
effected (effect.AddsIn b o) l = with_store (set_standing b (standing.Object (next_object (store l))) (add_object (seen.object_of o) (store l))) l
effected (effect.Lives x) l = lived x l
effected (effect.LivesAt x spot) l = stood (alive_of x) (spot_of spot) (lived x.object l)
effected (effect.LivesInFull slot x) l =
    stood_unseen (alive_of x) (meaning.InFull slot) (lived x.object (with_frames (set_mark slot l.top.frames) l)) x.coroutine
effected (effect.Stands x spot) l = stood (alive_of x) (spot_of spot) l
effected (effect.IsBorn c x spot) l = stood (alive_of x) (spot_of spot) (happens (event.Born c x.object) l)
effected (effect.Ends x) l = with_store (end_object x (store l)) l
effected (effect.Writes x n v) l = with_store (with_cell (store l) x n (cell.Holds v) (object_at (store l) x)) l
effected (effect.Fills x n count c) l = with_store (with_cells (store l) x n count c (object_at (store l) x)) l
effected (effect.AddsBlock words) l = with_store (add_block words (store l)) l
effected (effect.Releases b) l = with_store (release b (store l)) l
effected (effect.Draws b) l = with_new_coroutine (suc (length (coroutines l))) b l
effected (effect.Closes n b) l = set_condition n Over (with_store (set_standing b standing.Nothing (store l)) l)
effected (effect.Posts v) l = record l { shared = record l.shared { posted = l.shared.posted ++ v ∷ [] } }
effected (effect.Handles v) l = record l { handled = v ∷ l.handled }
effected (effect.Catches v slot o) l = added slot (seen.object_of o) (record l { handled = v ∷ l.handled })
effected effect.HandlesNoMore l = record l { handled = without_newest l.handled }
effected (effect.Enters fs objects a) l =
    let left = all_pushed fs (with_store (all_added (map seen.object_of objects) (store l)) l) in
    record left { top = seen.activation_of a; below = left.top ∷ left.below }
effected effect.Returns l = returned l.below l
effected effect.Rests l = l
effected (effect.RestsAfterMain z) l = record l { shared = record l.shared { main = z } }
effected (effect.Wakes n k place) l = woken n (seen.kind_of k) place l (numbered (coroutines l) n)
effected (effect.Suspends n point fs a) l = suspended n point fs (seen.activation_of a) l
effected (effect.Escapes n slots fs) l = escaped n slots fs.items l
effected effect.FieldMade l = with_frames (one_more_field l.top.frames) l
effected effect.Reached l = with_frames (reached l.top.frames) l

-- the activations of the agent after the effect
abbrev pub left_to : Effect → Local → List Activation
left_to effect.Rests l = []
left_to (effect.RestsAfterMain z) l = []
left_to e l = l.top ∷ l.below

abbrev pub is_halted_by : Effect → Bool
is_halted_by (effect.IsUncaught v) = true
is_halted_by e = false

-- the local state after the change
abbrev pub changed : Change → Local → Local
changed c l = all_pushed c.frames (effected c.effect (dropped c.taken l))

-- What a step leaves that makes this change.
unfoldable pub turned_by : Change → Local → Turned
turned_by c l =
    let after = changed c l in
    record {
      shared = after.shared;
      agent = record { doing = seen.doing_of c.doing; activations = left_to c.effect after; handled = after.handled; halted = is_halted_by c.effect };
      seen = after.seen;
    }

-- what a step leaves that makes this change, or that there is none
abbrev pub after : Option Change → Local → Option Turned
after None l = None
after (Some c) l = Some (turned_by c l)

-- The agent goes on after the effect: it neither rests nor is halted.
abbrev pub goes_on : Effect → Bool
goes_on effect.Rests = false
goes_on (effect.RestsAfterMain z) = false
goes_on (effect.IsUncaught v) = false
goes_on e = true

-- the step that does this, leaves these frames, and goes on with the task
abbrev pub goes_after : Effect → List Frame → Task → Local → Option Turned
goes_after e fs t l = goes (seen.task_of t) (all_pushed fs (effected e l))

-- the step that only leaves these frames and goes on with the task
abbrev pub goes_above : List Frame → Task → Local → Option Turned
goes_above fs t l = goes (seen.task_of t) (all_pushed fs l)

-- the step that leaves these frames and opens a full-expression with so many marks before the task
abbrev pub opens_above : ℕ → Effect → List Frame → Task → Local → Option Turned
opens_above marks e fs t l = goes (meaning.Opens marks (seen.task_of t)) (all_pushed fs (effected e l))
