-- What becomes of frames where the innermost of those that are looked for changes.
use Rattle.std.specs.Prelude.{◌≡◌, ℕ, zero, suc, false, List, [], ◌∷◌, ◌++◌, take, drop, slice_get, slice_set, Some}
use Rattle.std.proofs.Common.{refl, ap, sym, ◌∙◌, append_assoc, append-nil}
use Rattle.co_eval_data.specs.Seen.{frame_of, frames_of}
use Rattle.co_eval_data.specs.declared.frames.Frame.{Frame}
use Rattle.co_eval_data.specs.declared.frames.Step.{Step}
use Rattle.co_meaning_data.specs.Frames as meaning
use Rattle.co_eval_commit.specs.Looked.{AreOthers, meets, sort_of}
use Rattle.co_eval_commit.specs.declared.looked.Looked.{Looked}
use Rattle.co_eval_commit.proofs.Newest.{seen_append, seen_oldest}

older : (f : Frame) (fs : List Frame) (gs : List meaning.Frame) → frames_of (f ∷ fs) ++ gs ≡ frames_of fs ++ (frame_of f ∷ gs)
older f fs gs = ap (λ l. l ++ gs) (seen_oldest frame_of f fs) ∙ append_assoc (frames_of fs) (frame_of f ∷ []) gs

split : (fs : List Frame) (at : ℕ) (f : Frame) → slice_get fs at ≡ Some f → fs ≡ take at fs ++ f ∷ drop (suc at) fs
split [] at f e = cc
split (g ∷ fs) zero f e = let h : g ≡ f = cc in ap (λ k. k ∷ fs) h
split (g ∷ fs) (suc at) f e = ap (λ l. g ∷ l) (split fs at f e)

split_set : (fs : List Frame) (at : ℕ) (f g : Frame) → slice_get fs at ≡ Some f → slice_set fs at g ≡ take at fs ++ g ∷ drop (suc at) fs
split_set [] at f g e = cc
split_set (h ∷ fs) zero f g e = refl
split_set (h ∷ fs) (suc at) f g e = ap (λ l. h ∷ l) (split_set fs at f g e)

seen_around : (before : List Frame) (f : Frame) (after : List Frame) → frames_of (before ++ f ∷ after) ≡ frames_of after ++ (frame_of f ∷ frames_of before)
seen_around before f after = seen_append frame_of before (f ∷ after) ∙ older f after (frames_of before)

module _ (what : Looked) (G : List meaning.Frame → List meaning.Frame) (passes : (f : meaning.Frame) (fs : List meaning.Frame) → meets what (sort_of f) ≡ false → G (f ∷ fs) ≡ f ∷ G fs) where
  past : (fs : List Frame) (gs : List meaning.Frame) → AreOthers what fs → G (frames_of fs ++ gs) ≡ frames_of fs ++ G gs
  past [] gs others = refl
  past (f ∷ fs) gs others =
      ap G (older f fs gs) ∙ past fs (frame_of f ∷ gs) others.1 ∙ ap (λ l. frames_of fs ++ l) (passes (frame_of f) gs others.0) ∙ sym (older f fs (G gs))

  -- the innermost of them does this in place of what it did
  pub changed_at : (fs : List Frame) (at : ℕ) (f : Frame) (s : Step) → slice_get fs at ≡ Some f → AreOthers what (drop (suc at) fs) → G (frame_of f ∷ frames_of (take at fs)) ≡ frame_of (record f { step = s }) ∷ frames_of (take at fs) → frames_of (slice_set fs at (record f { step = s })) ≡ G (frames_of fs)
  changed_at fs at f s e others changes =
      ap frames_of (split_set fs at f (record f { step = s }) e) ∙ seen_around (take at fs) (record f { step = s }) (drop (suc at) fs) ∙ ap (λ l. frames_of (drop (suc at) fs) ++ l) (sym changes) ∙ sym (past (drop (suc at) fs) (frame_of f ∷ frames_of (take at fs)) others) ∙ ap G (sym (ap frames_of (split fs at f e) ∙ seen_around (take at fs) f (drop (suc at) fs)))

  -- it stays as it is
  pub same_at : (fs : List Frame) (at : ℕ) (f : Frame) → slice_get fs at ≡ Some f → AreOthers what (drop (suc at) fs) → G (frame_of f ∷ frames_of (take at fs)) ≡ frame_of f ∷ frames_of (take at fs) → frames_of fs ≡ G (frames_of fs)
  same_at fs at f e others same =
      let whole : frames_of fs ≡ frames_of (drop (suc at) fs) ++ (frame_of f ∷ frames_of (take at fs)) = ap frames_of (split fs at f e) ∙ seen_around (take at fs) f (drop (suc at) fs) in
      whole ∙ ap (λ l. frames_of (drop (suc at) fs) ++ l) (sym same) ∙ sym (past (drop (suc at) fs) (frame_of f ∷ frames_of (take at fs)) others) ∙ ap G (sym whole)

  -- there is none
  pub none_changed : (fs : List Frame) → AreOthers what fs → G [] ≡ [] → frames_of fs ≡ G (frames_of fs)
  none_changed fs others none = sym (append-nil (frames_of fs)) ∙ ap (λ l. frames_of fs ++ l) (sym none) ∙ sym (past fs [] others) ∙ ap G (append-nil (frames_of fs))
