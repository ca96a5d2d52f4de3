-- The frame on top.
use Rattle.std.specs.Prelude.{◌≡◌, ◌≤◌, suc, ◌-◌, List, [], ◌∷◌, ◌++◌, map, length, take, get_or, reverse, None}
use Rattle.std.proofs.Common.{refl, ap, ◌∙◌, sym, arith}
use Rattle.std.proofs.lemmas.List.{reverse-append}
use Rattle.co_eval_data.specs.Agents.{local_of}
use Rattle.co_eval_data.specs.Seen.{frame_of, frames_of}
use Rattle.co_eval_data.specs.declared.frames.Frame.{Frame}
use Rattle.co_eval_data.specs.declared.here.Here.{Here}
use Rattle.co_meaning_calls.specs.Coroutines.{plan_of, ramp_body, ramp_body_by}

mapped_with : (xs : List Frame) (f : Frame) → map frame_of (xs ++ f ∷ []) ≡ map frame_of xs ++ frame_of f ∷ []
mapped_with [] f = refl
mapped_with (x ∷ xs) f = ap (λ k. frame_of x ∷ k) (mapped_with xs f)

pub one_more : (xs : List Frame) (f : Frame) → frames_of (xs ++ f ∷ []) ≡ frame_of f ∷ frames_of xs
one_more xs f = ap reverse (mapped_with xs f) ∙ reverse-append (map frame_of xs) (frame_of f ∷ [])

last_apart : (xs : List Frame) (f : Frame) → 1 ≤ length xs → f ≡ get_or xs (length xs - 1) f → xs ≡ take (length xs - 1) xs ++ f ∷ []
last_apart [] f some is = absurd (omega (arith, some))
last_apart (x ∷ []) f some is = ap (λ k. k ∷ []) (sym is)
last_apart (x ∷ y ∷ xs) f some is =
    let more : 1 ≤ length (y ∷ xs) = omega arith in
    let count : suc (length (y ∷ xs) - 1) ≡ length (x ∷ y ∷ xs) - 1 = omega arith in
    let there : f ≡ get_or (y ∷ xs) (length (y ∷ xs) - 1) f = is ∙ ap (λ n. get_or (x ∷ y ∷ xs) n f) (sym count) in
    ap (λ k. x ∷ k) (last_apart (y ∷ xs) f more there) ∙ ap (λ n. take n (x ∷ y ∷ xs) ++ f ∷ []) count

last_on_top : (xs : List Frame) (f : Frame) → 1 ≤ length xs → f ≡ get_or xs (length xs - 1) f → frames_of xs ≡ frame_of f ∷ frames_of (take (length xs - 1) xs)
last_on_top xs f some is = ap frames_of (last_apart xs f some is) ∙ one_more (take (length xs - 1) xs) f

pub seen_on_top : (h : Here) (f : Frame) → 1 ≤ length h.frames.now → f ≡ get_or h.frames.now (length h.frames.now - 1) f → (local_of h).top.frames ≡ frame_of f ∷ frames_of (take (length h.frames.now - 1) h.frames.now)
unfolding local_of
seen_on_top h f some is = last_on_top h.frames.now f some is

none_on_top : (xs : List Frame) → length xs ≡ 0 → frames_of xs ≡ []
none_on_top [] e = refl
none_on_top (x ∷ xs) e = absurd (omega (arith, e))

none_seen : (h : Here) → length h.frames.now ≡ 0 → (local_of h).top.frames ≡ []
unfolding local_of
none_seen h e = none_on_top h.frames.now e

pub no_frames : (h : Here) → length h.frames.now ≡ 0 → None ≡ ramp_body (local_of h)
no_frames h e = sym (ap (λ fs. ramp_body_by fs (local_of h) (plan_of (local_of h))) (none_seen h e))
