-- The acts on atomics whose operands are of another form.
use Rattle.std.specs.Prelude.{◌≡◌, List, [], ◌∷◌, None}
use Rattle.std.proofs.Common.{refl}
use Rattle.co_base.specs.declared.span.Span.{Span}
use Rattle.co_core_tree.specs.declared.kinds.AtomicOp.TheVariants as atomic
use Rattle.co_eval_library.specs.Operands.{one_place, scalar_and_place}
use Rattle.co_meaning.specs.Library.{on_atomic}
use Rattle.co_meaning_data.specs.Frames.{At, Given, Scalar}
use Rattle.co_meaning_data.specs.Turn.{Local}

pub not_load : (gs : List Given) (at : Span) (l : Local) → None ≡ one_place gs → on_atomic atomic.Load gs at l ≡ None
not_load (At p ∷ []) at l e = absurd (cc e)
not_load gs at l e = refl

pub not_store : (gs : List Given) (at : Span) (l : Local) → None ≡ scalar_and_place gs → on_atomic atomic.Store gs at l ≡ None
not_store (Scalar v ∷ At p ∷ []) at l e = absurd (cc e)
not_store gs at l e = refl

pub not_swap : (gs : List Given) (at : Span) (l : Local) → None ≡ scalar_and_place gs → on_atomic atomic.Swap gs at l ≡ None
not_swap (Scalar v ∷ At p ∷ []) at l e = absurd (cc e)
not_swap gs at l e = refl
