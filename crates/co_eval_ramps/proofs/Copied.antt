-- The next copy of a parameter, and the full-expression that is opened for it.
use Rattle.std.specs.Prelude.{◌≡◌, ℕ, List, [], ◌∷◌, ◌++◌, Option, None, Some}
use Rattle.std.specs.Borrow.{Bor}
use Rattle.std.proofs.Common.{ap, ◌∙◌}
use Rattle.co_core_tree.specs.Slots.{init_acts_of}
use Rattle.co_core_tree.specs.declared.exprs.Init.{Init}
use Rattle.co_core_tree.specs.declared.units.CopyPlan.{CopyPlan}
use Rattle.co_eval_data.specs.Agents.{object_of}
use Rattle.co_eval_data.specs.Changed.{added}
use Rattle.co_eval_data.specs.Seen.{frames_of, place_of}
use Rattle.co_eval_data.specs.declared.agents.Task.TheVariants as task
use Rattle.co_eval_data.specs.declared.changes.Effect.TheVariants as effect
use Rattle.co_eval_data.specs.declared.frames.Frame.{Frame}
use Rattle.co_eval_data.specs.declared.stored.StoredObject.{StoredObject}
use Rattle.co_eval_data.specs.declared.values.Place as values
use Rattle.co_eval_fulls.specs.Fulls.{opens_after, unmade_here}
use Rattle.co_meaning_calls.specs.Calls.{opens_with}
use Rattle.co_meaning_calls.specs.Coroutines.{ramp_copy_of}
use Rattle.co_meaning_calls.specs.Objects.{counted_in}
use Rattle.co_meaning_data.specs.Frames as meaning
use Rattle.co_meaning_data.specs.Store.{next_object, raw_object, whole}
use Rattle.co_meaning_data.specs.Turn.{Local, Turned, classes, funcs, store, with_frames}
use Rattle.co_types.specs.declared.types.CoType.{CoType}

pub copied : (copy : CopyPlan) (i : Bor Init) (rest : List CopyPlan) (of : CoType) (raw : StoredObject) (p : values.Place) (outer inner : List Frame) (l : Local) (o : Option Turned) →
    i.now ≡ copy.init → object_of raw ≡ raw_object (classes l) of None (counted_in l of) → place_of p ≡ whole (next_object (store l)) →
    frames_of outer ≡ meaning.RampCopies rest ∷ [] → frames_of inner ≡ meaning.RampMade (record { object = next_object (store l); coroutine = counted_in l of }) ∷ [] →
    o ≡ opens_after (init_acts_of (funcs l) i.now) (effect.Adds copy.to.0 raw) outer inner (task.Initialize i (Some p)) l →
    o ≡ ramp_copy_of copy rest l (Some of)
copied copy i rest of raw p outer inner l o same is_raw there around within is =
    let us = unmade_here (init_acts_of (funcs l) i.now) l in
    let slot = copy.to.0 in
    let next = meaning.Initialize i.now (Some (place_of p)) in
    let made = added slot (raw_object (classes l) of None (counted_in l of)) l in
    let copies = with_frames (meaning.RampCopies rest ∷ made.top.frames) made in
    let awaited = meaning.RampMade (record { object = next_object (store l); coroutine = counted_in l of }) ∷ [] in
    is
    ∙ ap (λ r. let m = added slot r l in opens_with us (frames_of inner) next (with_frames (frames_of outer ++ m.top.frames) m)) is_raw
    ∙ ap (λ fs. opens_with us (frames_of inner) next (with_frames (fs ++ made.top.frames) made)) around
    ∙ ap (λ fs. opens_with us fs next copies) within
    ∙ ap (λ q. opens_with us awaited (meaning.Initialize i.now (Some q)) copies) there
    ∙ ap (λ (k : Init). opens_with (unmade_here (init_acts_of (funcs l) k) l) awaited (meaning.Initialize k (Some (whole (next_object (store l))))) copies) same

-- the same, where the number of the object and the coroutine in which it is counted are known by other names
pub copied_as : (copy : CopyPlan) (i : Bor Init) (rest : List CopyPlan) (of : CoType) (x : ℕ) (k : Option ℕ) (raw : StoredObject) (p : values.Place) (outer inner : List Frame) (l : Local) (o : Option Turned) →
    i.now ≡ copy.init → k ≡ counted_in l of → x ≡ next_object (store l) → object_of raw ≡ raw_object (classes l) of None k → place_of p ≡ whole x →
    frames_of outer ≡ meaning.RampCopies rest ∷ [] → frames_of inner ≡ meaning.RampMade (record { object = x; coroutine = k }) ∷ [] →
    o ≡ opens_after (init_acts_of (funcs l) i.now) (effect.Adds copy.to.0 raw) outer inner (task.Initialize i (Some p)) l →
    o ≡ ramp_copy_of copy rest l (Some of)
copied_as copy i rest of x k raw p outer inner l o same counted number is_raw there around within is =
    copied copy i rest of raw p outer inner l o same
    (is_raw ∙ ap (λ c. raw_object (classes l) of None c) counted)
    (there ∙ ap whole number)
    around
    (within ∙ ap (λ n. meaning.RampMade (record { object = n; coroutine = k }) ∷ []) number ∙ ap (λ c. meaning.RampMade (record { object = next_object (store l); coroutine = c }) ∷ []) counted)
    is
