-- The acts on handles whose operands are of another form.
use Rattle.std.specs.Prelude.{◌≡◌, ◌≤◌, ◌<◌, List, [], ◌∷◌, length, Option, None}
use Rattle.std.proofs.Common.{refl, arith}
use Rattle.co_base.specs.declared.ids.ClassId.{ClassId}
use Rattle.co_base.specs.declared.span.Span.{Span}
use Rattle.co_core_tree.specs.declared.kinds.HandleOp.TheVariants as act
use Rattle.co_eval_library.specs.Operands.{one_place, one_scalar}
use Rattle.co_meaning.specs.Library.{on_handle}
use Rattle.co_meaning_data.specs.Frames.{At, Given, Scalar}
use Rattle.co_meaning_data.specs.Turn.{Local, gives}
use Rattle.co_meaning_data.specs.declared.values.Value.TheVariants as value

pub not_resume : (gs : List Given) (at : Span) (l : Local) → None ≡ one_scalar gs → on_handle act.Resume gs at l ≡ None
not_resume (Scalar v ∷ []) at l e = absurd (cc e)
not_resume gs at l e = refl

pub not_destroy : (gs : List Given) (at : Span) (l : Local) → None ≡ one_scalar gs → on_handle act.Destroy gs at l ≡ None
not_destroy (Scalar v ∷ []) at l e = absurd (cc e)
not_destroy gs at l e = refl

pub not_done : (gs : List Given) (at : Span) (l : Local) → None ≡ one_scalar gs → on_handle act.Done gs at l ≡ None
not_done (Scalar v ∷ []) at l e = absurd (cc e)
not_done gs at l e = refl

pub not_promise : (gs : List Given) (at : Span) (l : Local) → None ≡ one_scalar gs → on_handle act.Promise gs at l ≡ None
not_promise (Scalar v ∷ []) at l e = absurd (cc e)
not_promise gs at l e = refl

pub not_address : (gs : List Given) (at : Span) (l : Local) → None ≡ one_scalar gs → on_handle act.Address gs at l ≡ None
not_address (Scalar v ∷ []) at l e = absurd (cc e)
not_address gs at l e = refl

pub not_from_address : (class : Option ClassId) (gs : List Given) (at : Span) (l : Local) → None ≡ one_scalar gs → on_handle (act.FromAddress class) gs at l ≡ None
not_from_address class (Scalar v ∷ []) at l e = absurd (cc e)
not_from_address class gs at l e = refl

pub not_from_promise : (gs : List Given) (at : Span) (l : Local) → None ≡ one_place gs → on_handle act.FromPromise gs at l ≡ None
not_from_promise (At p ∷ []) at l e = absurd (cc e)
not_from_promise gs at l e = refl

pub noop : (gs : List Given) (at : Span) (l : Local) → length gs < 1 → on_handle act.Noop gs at l ≡ gives (Scalar value.Noop) l
noop [] at l e = refl
noop (g ∷ gs) at l e = absurd (omega (arith, e))

pub not_noop : (gs : List Given) (at : Span) (l : Local) → 1 ≤ length gs → on_handle act.Noop gs at l ≡ None
not_noop [] at l some = absurd (omega (arith, some))
not_noop (g ∷ gs) at l some = refl
