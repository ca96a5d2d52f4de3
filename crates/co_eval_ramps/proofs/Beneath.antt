-- A change that takes one more frame away.
use Rattle.std.specs.Prelude.{◌≡◌, ℕ, suc, ◌+◌, List, ◌∷◌, Option, Some}
use Rattle.std.specs.Borrow.{Bor}
use Rattle.std.proofs.Common.{refl, ap, ◌∙◌, sym, arith}
use Rattle.co_eval_data.specs.Agents.{local_of}
use Rattle.co_eval_data.specs.Changed.{dropped, turned_by, without_top}
use Rattle.co_eval_data.specs.Seen.{frames_of}
use Rattle.co_eval_data.specs.declared.changes.Change.{Change}
use Rattle.co_eval_data.specs.declared.frames.Frame.{Frame}
use Rattle.co_eval_data.specs.declared.here.Here.{Here}
use Rattle.co_meaning_data.specs.Frames as meaning
use Rattle.co_meaning_data.specs.Turn.{Local, Turned, with_frames}

-- an agent that sees only the frames below
pub seen_beneath : (h : Here) (below : Bor (List Frame)) → local_of (record h { frames = below }) ≡ with_frames (frames_of below.now) (local_of h)
unfolding local_of
seen_beneath h below = refl

one_more_dropped : (n : ℕ) (l : Local) (f : meaning.Frame) (fs : List meaning.Frame) → l.top.frames ≡ f ∷ fs → dropped (n + 1) l ≡ dropped n (with_frames fs l)
one_more_dropped n l f fs top =
    let count : n + 1 ≡ suc n = omega arith in
    ap (λ gs. with_frames (without_top (n + 1) gs) l) top ∙ ap (λ k. with_frames (without_top k (f ∷ fs)) l) count

taken_first : (c : Change) (l : Local) → turned_by c l ≡ turned_by (record c { taken = 0 }) (dropped c.taken l)
unfolding turned_by
taken_first c l = refl

pub taken_more : (c : Change) (l : Local) (f : meaning.Frame) (fs : List meaning.Frame) → l.top.frames ≡ f ∷ fs → turned_by (record c { taken = c.taken + 1 }) l ≡ turned_by c (with_frames fs l)
taken_more c l f fs top =
    taken_first (record c { taken = c.taken + 1 }) l
    ∙ ap (turned_by (record c { taken = 0 })) (one_more_dropped c.taken l f fs top)
    ∙ sym (taken_first c (with_frames fs l))

pub beneath : (c more : Change) (l m : Local) (f : meaning.Frame) (fs : List meaning.Frame) (spec : Local → Option Turned) → l.top.frames ≡ f ∷ fs → m ≡ with_frames fs l →
    more ≡ record c { taken = c.taken + 1 } → Some (turned_by c m) ≡ spec m → Some (turned_by more l) ≡ spec (with_frames fs l)
beneath c more l m f fs spec top below is was =
    ap (λ k. Some (turned_by k l)) is
    ∙ ap (λ t. Some t) (taken_more c l f fs top)
    ∙ ap (λ k. Some (turned_by c k)) (sym below)
    ∙ was
    ∙ ap spec below
