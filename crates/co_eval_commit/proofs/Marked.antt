-- What becomes of frames where a mark is set, or the initial `await_resume` is reached.
use Rattle.std.specs.Prelude.{◌≡◌, ℕ, suc, Bool, true, List, ◌∷◌, map, take, drop, slice_get, slice_set, Option, Some, None}
use Rattle.std.proofs.Common.{refl, ap, sym, ◌∙◌}
use Rattle.std.proofs.lemmas.Bool.{true≢false}
use Rattle.co_eval_data.specs.Seen.{frame_of, frame_with, frames_of, temporal_of}
use Rattle.co_eval_data.specs.declared.frames.Frame.{Frame}
use Rattle.co_eval_data.specs.declared.frames.Node.{Node}
use Rattle.co_eval_data.specs.declared.frames.Node.TheVariants as node
use Rattle.co_eval_data.specs.declared.frames.Step.{Step}
use Rattle.co_eval_data.specs.declared.frames.Step.TheVariants as step
use Rattle.co_eval_data.specs.declared.frames.Temporal.{Temporal}
use Rattle.co_meaning_calls.specs.Coroutines.{reached}
use Rattle.co_meaning_calls.specs.Objects.{live_temporaries, set_mark}
use Rattle.co_meaning_data.specs.Frames as meaning
use Rattle.co_eval_commit.specs.Looked.{AreOthers, IsInnermost, is_full, is_guard, meets, sort_of}
use Rattle.co_eval_commit.specs.declared.looked.Looked.{Looked}
use Rattle.co_eval_commit.specs.declared.looked.Looked.TheVariants as looked
use Rattle.co_eval_commit.proofs.Innermost.{changed_at, none_changed}
use Rattle.co_eval_commit.proofs.Sorts.{past_guard, past_mark, sort_is, sort_of_step}

-- where none is found none is there
pub none_there : (what : Looked) (fs : List Frame) (r : Option ℕ) → IsInnermost what fs r → r ≡ None → AreOthers what fs
none_there what fs None others is = others
none_there what fs (Some at) found is = cc

-- the frame that is found is one that is looked for
pub met : (what : Looked) (fs : List Frame) (at : ℕ) (f : Frame) → IsInnermost what fs (Some at) → slice_get fs at ≡ Some f → meets what (sort_of (frame_of f)) ≡ true
met what fs at f found e =
    let same : found.0 ≡ f = cc in
    ap (λ g. meets what (sort_of (frame_of g))) (sym same) ∙ found.2

-- ---- marks

pub marked_at : (slot : ℕ) (fs : List Frame) (at : ℕ) (f : Frame) (ts marked : List Temporal) → slice_get fs at ≡ Some f → AreOthers looked.Full (drop (suc at) fs) → f.step ≡ step.Full ts → map temporal_of marked ≡ live_temporaries slot (map temporal_of ts) → frames_of (slice_set fs at (record f { step = step.Full marked })) ≡ set_mark slot (frames_of fs)
marked_at slot fs at f ts marked e others is marks =
    let changes : set_mark slot (frame_of f ∷ frames_of (take at fs)) ≡ meaning.Full (map temporal_of marked) ∷ frames_of (take at fs) =
    ap (λ s. set_mark slot (frame_with s f.node ∷ frames_of (take at fs))) is ∙ ap (λ m. meaning.Full m ∷ frames_of (take at fs)) (sym marks) in
    changed_at looked.Full (set_mark slot) (past_mark slot) fs at f (step.Full marked) e others changes

pub none_marked : (slot : ℕ) (fs : List Frame) → AreOthers looked.Full fs → frames_of fs ≡ set_mark slot (frames_of fs)
none_marked slot fs others = none_changed looked.Full (set_mark slot) (past_mark slot) fs others refl

full_step : (s : Step) (n : Node) → is_full (sort_of_step s n) ≡ true → ((a : List Temporal) → s ≡ step.Full a → ⊥) → ⊥
full_step (step.Full a) n e never = never a refl
full_step (step.AwaitSuspend a b) (node.Await plan) e never = true≢false (sym e)
full_step (step.AwaitSuspend a b) n e never = true≢false (sym e)
full_step s n e never = true≢false (sym e)

pub is_full_step : (f : Frame) → is_full (sort_of (frame_of f)) ≡ true → ((a : List Temporal) → f.step ≡ step.Full a → ⊥) → ⊥
is_full_step f e never = full_step f.step f.node (ap is_full (sym (sort_is f.step f.node)) ∙ e) never

-- ---- the initial await

pub reached_at : (fs : List Frame) (at : ℕ) (f : Frame) (resumed : Bool) → slice_get fs at ≡ Some f → AreOthers looked.Guard (drop (suc at) fs) → f.step ≡ step.Guards resumed → frames_of (slice_set fs at (record f { step = step.Guards true })) ≡ reached (frames_of fs)
reached_at fs at f resumed e others is =
    let changes : reached (frame_of f ∷ frames_of (take at fs)) ≡ meaning.Guards true ∷ frames_of (take at fs) =
    ap (λ s. reached (frame_with s f.node ∷ frames_of (take at fs))) is in
    changed_at looked.Guard reached past_guard fs at f (step.Guards true) e others changes

pub none_reached : (fs : List Frame) → AreOthers looked.Guard fs → frames_of fs ≡ reached (frames_of fs)
none_reached fs others = none_changed looked.Guard reached past_guard fs others refl

guard_step : (s : Step) (n : Node) → is_guard (sort_of_step s n) ≡ true → ((a : Bool) → s ≡ step.Guards a → ⊥) → ⊥
guard_step (step.Guards a) n e never = never a refl
guard_step (step.AwaitSuspend a b) (node.Await plan) e never = true≢false (sym e)
guard_step (step.AwaitSuspend a b) n e never = true≢false (sym e)
guard_step s n e never = true≢false (sym e)

pub is_guard_step : (f : Frame) → is_guard (sort_of (frame_of f)) ≡ true → ((a : Bool) → f.step ≡ step.Guards a → ⊥) → ⊥
is_guard_step f e never = guard_step f.step f.node (ap is_guard (sym (sort_is f.step f.node)) ∙ e) never
