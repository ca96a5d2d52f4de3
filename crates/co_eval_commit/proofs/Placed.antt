-- What an agent sees after an effect on its frames.
use Rattle.std.specs.Prelude.{◌≡◌, ℕ, List, Option, Some, None}
use Rattle.std.proofs.Common.{refl, ap, sym, ◌∙◌}
use Rattle.co_eval_data.specs.Agents.{shared_of, store_of, top_of}
use Rattle.co_eval_data.specs.Changed.{effected, lived, or_same, stood_unseen}
use Rattle.co_eval_data.specs.Seen.{alive_of, frames_of, spot_of}
use Rattle.co_eval_data.specs.declared.agents.Activation.{Activation}
use Rattle.co_eval_data.specs.declared.agents.Shared.{Shared}
use Rattle.co_eval_data.specs.declared.changes.Effect.TheVariants as effect
use Rattle.co_eval_data.specs.declared.frames.Alive.{Alive}
use Rattle.co_eval_data.specs.declared.frames.Frame.{Frame}
use Rattle.co_eval_data.specs.declared.frames.Spot.{Spot}
use Rattle.co_meaning_calls.specs.Objects.{set_mark, stands}
use Rattle.co_meaning_data.specs.Frames as meaning
use Rattle.co_meaning_data.specs.Store.{make_live}
use Rattle.co_meaning_data.specs.Turn.{Local, with_frames}
use Rattle.co_eval_commit.specs.InPlace.{seeing}
use Rattle.co_eval_commit.specs.Looked.{unseen_stood}
use Rattle.co_eval_commit.proofs.Stood.{live_stood}

-- the mark of a temporary is set before it stands or after
pub live_in : (slot : ℕ) (x : meaning.Alive) (fs : List meaning.Frame) (c : Option ℕ) → set_mark slot (unseen_stood slot x fs c) ≡ unseen_stood slot x (set_mark slot fs) c
live_in slot x fs None = sym (live_stood slot x fs)
live_in slot x fs (Some c) = refl

unseen_is : (slot : ℕ) (x : meaning.Alive) (l : Local) (c : Option ℕ) → with_frames (unseen_stood slot x l.top.frames c) l ≡ stood_unseen x (meaning.InFull slot) l c
unseen_is slot x l None = refl
unseen_is slot x l (Some c) = refl

pub lives_at : (s t : Shared) (top : Activation) (left new : List Frame) (x : Alive) (spot : Spot) (l : Local) → store_of t.store ≡ make_live x.object (store_of s.store) → shared_of t ≡ record (shared_of s) { store = store_of t.store } → frames_of new ≡ or_same (frames_of left) (stands (spot_of spot) (alive_of x) (frames_of left)) → seeing t top (frames_of new) l ≡ effected (effect.LivesAt x spot) (seeing s top (frames_of left) l)
lives_at s t top left new x spot l stores shares frames =
    ap (λ gs. seeing t top gs l) frames ∙ ap (λ sh. record l { shared = sh; top = top_of top (or_same (frames_of left) (stands (spot_of spot) (alive_of x) (frames_of left))) }) (shares ∙ ap (λ st. record (shared_of s) { store = st }) stores)

pub lives_in_full : (s t : Shared) (top : Activation) (left new : List Frame) (slot : ℕ) (x : Alive) (l : Local) → store_of t.store ≡ make_live x.object (store_of s.store) → shared_of t ≡ record (shared_of s) { store = store_of t.store } → frames_of new ≡ set_mark slot (unseen_stood slot (alive_of x) (frames_of left) x.coroutine) → seeing t top (frames_of new) l ≡ effected (effect.LivesInFull slot x) (seeing s top (frames_of left) l)
lives_in_full s t top left new slot x l stores shares frames =
    ap (λ gs. seeing t top gs l) (frames ∙ live_in slot (alive_of x) (frames_of left) x.coroutine) ∙ ap (λ sh. record l { shared = sh; top = top_of top (unseen_stood slot (alive_of x) (set_mark slot (frames_of left)) x.coroutine) }) (shares ∙ ap (λ st. record (shared_of s) { store = st }) stores) ∙ unseen_is slot (alive_of x) (lived x.object (with_frames (set_mark slot (frames_of left)) (seeing s top (frames_of left) l))) x.coroutine
