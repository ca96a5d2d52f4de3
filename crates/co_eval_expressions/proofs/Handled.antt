-- The newest handled exception.
use Rattle.std.specs.Prelude.{◌≡◌, List, [], ◌∷◌, slice_get, None, Some}
use Rattle.std.proofs.Common.{refl, ap}
use Rattle.co_base.specs.declared.kinds.Thrown.{Thrown}
use Rattle.co_base.specs.declared.kinds.Thrown.TheVariants as thrown
use Rattle.co_meaning_data.specs.Frames.{Throwing}
use Rattle.co_meaning_data.specs.Turn.{Local, is_uncaught, leaves}
use Rattle.co_meaning.specs.Expressions.{rethrow}

pub rethrow_newest : (handled : List Thrown) (v : Thrown) (l : Local) → slice_get handled 0 ≡ Some v → rethrow handled l ≡ leaves (Throwing v) l
rethrow_newest [] v l e = absurd (cc e)
rethrow_newest (w ∷ handled) v l e = let same : w ≡ v = cc e in ap (λ t. leaves (Throwing t) l) same

pub rethrow_none : (handled : List Thrown) (l : Local) → slice_get handled 0 ≡ None → rethrow handled l ≡ is_uncaught thrown.None l
rethrow_none [] l e = refl
rethrow_none (w ∷ handled) l e = absurd (cc e)
