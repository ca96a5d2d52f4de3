-- The frame on top, and an object that lives where it is taken away.
use Rattle.std.specs.Prelude.{◌≡◌, ◌≤◌, ℕ, zero, suc, ◌+◌, ◌-◌, List, [], ◌∷◌, ◌++◌, map, length, take, get_or, reverse, None, Some}
use Rattle.std.proofs.Common.{refl, ap, ◌∙◌, sym, arith}
use Rattle.std.proofs.lemmas.List.{reverse-append}
use Rattle.co_eval_data.specs.Changed.{all_pushed, lived, turned_by, without_top}
use Rattle.co_eval_data.specs.Agents.{local_of, task_of}
use Rattle.co_eval_data.specs.Seen.{call_of, frame_of, frames_of, inits_in, place_of}
use Rattle.co_eval_data.specs.declared.agents.Task.{Task}
use Rattle.co_eval_data.specs.declared.agents.Task.TheVariants as task
use Rattle.co_eval_data.specs.declared.changes.Effect.TheVariants as effect
use Rattle.co_eval_data.specs.declared.frames.Call.{Call}
use Rattle.co_eval_data.specs.declared.frames.Frame.{Frame}
use Rattle.co_eval_data.specs.declared.frames.Node.{Node}
use Rattle.co_eval_data.specs.declared.frames.Step.TheVariants as step
use Rattle.co_eval_data.specs.declared.here.Here.{Here}
use Rattle.co_eval_data.specs.declared.outcomes.Given.TheVariants as given
use Rattle.co_eval_data.specs.declared.outcomes.Outcome.TheVariants as outcome
use Rattle.co_eval_data.specs.declared.values.Place.{Place}
use Rattle.co_meaning_calls.specs.Calls.{argument_lives, argument_made}
use Rattle.co_meaning_data.specs.Frames as meaning
use Rattle.co_meaning_data.specs.Store.{whole}
use Rattle.co_meaning_data.specs.Turn.{Local, goes, pushed, with_frames}

mapped_with : (xs : List Frame) (f : Frame) → map frame_of (xs ++ f ∷ []) ≡ map frame_of xs ++ frame_of f ∷ []
mapped_with [] f = refl
mapped_with (x ∷ xs) f = ap (λ k. frame_of x ∷ k) (mapped_with xs f)

pub one_more : (xs : List Frame) (f : Frame) → frames_of (xs ++ f ∷ []) ≡ frame_of f ∷ frames_of xs
one_more xs f = ap reverse (mapped_with xs f) ∙ reverse-append (map frame_of xs) (frame_of f ∷ [])

last_apart : (xs : List Frame) (f : Frame) → 1 ≤ length xs → f ≡ get_or xs (length xs - 1) f → xs ≡ take (length xs - 1) xs ++ f ∷ []
last_apart [] f some is = absurd (omega (arith, some))
last_apart (x ∷ []) f some is = ap (λ k. k ∷ []) (sym is)
last_apart (x ∷ y ∷ xs) f some is =
    let more : 1 ≤ length (y ∷ xs) = omega arith in
    let count : suc (length (y ∷ xs) - 1) ≡ length (x ∷ y ∷ xs) - 1 = omega arith in
    let there : f ≡ get_or (y ∷ xs) (length (y ∷ xs) - 1) f = is ∙ ap (λ n. get_or (x ∷ y ∷ xs) n f) (sym count) in
    ap (λ k. x ∷ k) (last_apart (y ∷ xs) f more there) ∙ ap (λ n. take n (x ∷ y ∷ xs) ++ f ∷ []) count

pub last_on_top : (xs : List Frame) (f : Frame) → 1 ≤ length xs → f ≡ get_or xs (length xs - 1) f → frames_of xs ≡ frame_of f ∷ frames_of (take (length xs - 1) xs)
last_on_top xs f some is = ap frames_of (last_apart xs f some is) ∙ one_more (take (length xs - 1) xs) f

pub seen_on_top : (h : Here) (f : Frame) → 1 ≤ length h.frames.now → f ≡ get_or h.frames.now (length h.frames.now - 1) f → (local_of h).top.frames ≡ frame_of f ∷ frames_of (take (length h.frames.now - 1) h.frames.now)
unfolding local_of
seen_on_top h f some is = last_on_top h.frames.now f some is

none_on_top : (xs : List Frame) → length xs ≡ 0 → frames_of xs ≡ []
none_on_top [] e = refl
none_on_top (x ∷ xs) e = absurd (omega (arith, e))

none_seen : (h : Here) → length h.frames.now ≡ 0 → (local_of h).top.frames ≡ []
unfolding local_of
none_seen h e = none_on_top h.frames.now e

pub no_frames : (h : Here) (x : ℕ) → length h.frames.now ≡ 0 → None ≡ argument_lives x (local_of h).top.frames (local_of h)
no_frames h x e = sym (ap (λ fs. argument_lives x fs (local_of h)) (none_seen h e))

-- an object lives, where the frame on top is taken away
lives_beneath : (x : ℕ) (list : List Frame) (t : Task) (l : Local) (f : meaning.Frame) (fs : List meaning.Frame) → l.top.frames ≡ f ∷ fs →
    Some (turned_by (record { taken = 1; effect = effect.Lives x; frames = list; doing = record { opens = None; task = t } }) l) ≡ goes (task_of t) (all_pushed list (lived x (with_frames fs l)))
unfolding turned_by
lives_beneath x list t l f fs top = ap (λ gs. goes (task_of t) (all_pushed list (lived x (with_frames (without_top 1 gs) l)))) top

-- the same, of the object of an argument, which comes to the call
pub argument_beneath : (x : ℕ) (list : List Frame) (p : Place) (c more : Call) (rest : Node) (l : Local) (fs : List meaning.Frame) → l.top.frames ≡ meaning.Calling (call_of c (inits_in rest)) ∷ fs →
    call_of more (inits_in rest) ≡ record (call_of c (inits_in rest)) { objects = x ∷ c.objects } → place_of p ≡ whole x → list ≡ record { step = step.Calling more; node = rest } ∷ [] →
    Some (turned_by (record { taken = 1; effect = effect.Lives x; frames = list; doing = record { opens = None; task = task.Comes (outcome.Gives (given.At p)) } }) l) ≡ argument_made x (call_of c (inits_in rest)) (with_frames fs l)
argument_beneath x list p c more rest l fs top with_it there alone =
    lives_beneath x list (task.Comes (outcome.Gives (given.At p))) l (meaning.Calling (call_of c (inits_in rest))) fs top
    ∙ ap (λ gs. goes (meaning.Comes (meaning.Gives (meaning.At (place_of p)))) (all_pushed gs (lived x (with_frames fs l)))) alone
    ∙ ap (λ k. goes (meaning.Comes (meaning.Gives (meaning.At (place_of p)))) (pushed (meaning.Calling k) (lived x (with_frames fs l)))) with_it
    ∙ ap (λ q. goes (meaning.Comes (meaning.Gives (meaning.At q))) (pushed (meaning.Calling (record (call_of c (inits_in rest)) { objects = x ∷ c.objects })) (lived x (with_frames fs l)))) there
