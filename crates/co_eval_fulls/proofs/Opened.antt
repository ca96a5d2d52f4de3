-- What the opening of a full-expression leaves.
use Rattle.std.specs.Prelude.{◌≡◌, ℕ, List, [], ◌∷◌, ◌++◌, map, reverse}
use Rattle.std.proofs.Common.{ap, ◌∙◌, append_assoc}
use Rattle.std.proofs.lemmas.List.{map-append, reverse-append}
use Rattle.co_core_tree.specs.Acts.{Act}
use Rattle.co_eval_data.specs.Agents.{task_of}
use Rattle.co_eval_data.specs.Changed.{all_pushed, effected, opens_above}
use Rattle.co_eval_data.specs.Seen.{frame_of, frames_of, temporal_of}
use Rattle.co_eval_data.specs.declared.agents.Task.{Task}
use Rattle.co_eval_data.specs.declared.changes.Effect.{Effect}
use Rattle.co_eval_data.specs.declared.frames.Frame.{Frame}
use Rattle.co_eval_data.specs.declared.frames.Node.TheVariants as node
use Rattle.co_eval_data.specs.declared.frames.Step.TheVariants as step
use Rattle.co_eval_data.specs.declared.frames.Temporal.{Temporal}
use Rattle.co_eval_fulls.specs.Fulls.{opens_after, unmade_here}
use Rattle.co_meaning_calls.specs.Calls.{mark_count, opens_with}
use Rattle.co_meaning_data.specs.Frames as meaning
use Rattle.co_meaning_data.specs.Turn.{Local, goes, with_frames}

frames_append : (xs ys : List Frame) → frames_of (xs ++ ys) ≡ frames_of ys ++ frames_of xs
frames_append xs ys = ap reverse (map-append frame_of xs ys) ∙ reverse-append (map frame_of xs) (map frame_of ys)

around : (outer : List Frame) (f : Frame) (inner : List Frame) (fs : List meaning.Frame) → frames_of ((outer ++ f ∷ []) ++ inner) ++ fs ≡ frames_of inner ++ frame_of f ∷ (frames_of outer ++ fs)
around outer f inner fs =
    ap (λ l. l ++ fs) (frames_append (outer ++ f ∷ []) inner ∙ ap (λ l. frames_of inner ++ l) (frames_append outer (f ∷ [])))
    ∙ append_assoc (frames_of inner) (frame_of f ∷ frames_of outer) fs

pub opens : (list : List Act) (marks : ℕ) (e : Effect) (outer inner frames : List Frame) (ts : List Temporal) (t : Task) (l : Local) →
    map temporal_of ts ≡ unmade_here list l → marks ≡ mark_count (map temporal_of ts) → frames ≡ (outer ++ record { step = step.Full ts; node = node.Nothing } ∷ []) ++ inner →
    opens_above marks e frames t l ≡ opens_after list e outer inner t l
opens list marks e outer inner frames ts t l made count is =
    let after = effected e l in
    ap (λ fs. goes (meaning.Opens marks (task_of t)) (all_pushed fs after)) is
    ∙ ap (λ fs. goes (meaning.Opens marks (task_of t)) (with_frames fs after)) (around outer (record { step = step.Full ts; node = node.Nothing }) inner after.top.frames)
    ∙ ap (λ n. goes (meaning.Opens n (task_of t)) (with_frames (frames_of inner ++ meaning.Full (map temporal_of ts) ∷ (frames_of outer ++ after.top.frames)) after)) count
    ∙ ap (λ us. opens_with us (frames_of inner) (task_of t) (all_pushed outer after)) made
