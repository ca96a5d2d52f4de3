-- The calls of the library whose operands are of another form.
use Rattle.std.specs.Prelude.{◌≡◌, ◌≤◌, ◌<◌, List, [], ◌∷◌, length, None, pos}
use Rattle.std.proofs.Common.{refl, arith}
use Rattle.co_base.specs.declared.span.Span.{Span}
use Rattle.co_core_tree.specs.declared.kinds.LibOp.TheVariants as call
use Rattle.co_eval_library.specs.Operands.{given_back, one_number, one_scalar}
use Rattle.co_meaning.specs.Library.{long_given, of_library}
use Rattle.co_meaning_data.specs.Frames.{Given, Scalar}
use Rattle.co_meaning_data.specs.Turn.{Local, gives}
use Rattle.co_meaning_data.specs.declared.values.Value.TheVariants as value

pub not_print_number : (gs : List Given) (at : Span) (l : Local) → None ≡ one_number gs → of_library call.Print gs at l ≡ None
not_print_number (Scalar (value.Number n y) ∷ []) at l e = absurd (cc e)
not_print_number gs at l e = refl

pub not_print_text : (gs : List Given) (at : Span) (l : Local) → None ≡ one_number gs → of_library call.Lit gs at l ≡ None
not_print_text (Scalar (value.Number n y) ∷ []) at l e = absurd (cc e)
not_print_text gs at l e = refl

pub not_post : (gs : List Given) (at : Span) (l : Local) → None ≡ one_scalar gs → of_library call.Post gs at l ≡ None
not_post (Scalar v ∷ []) at l e = absurd (cc e)
not_post gs at l e = refl

pub not_input : (gs : List Given) (at : Span) (l : Local) → None ≡ one_number gs → of_library call.Input gs at l ≡ None
not_input (Scalar (value.Number n y) ∷ []) at l e = absurd (cc e)
not_input gs at l e = refl

pub not_take : (gs : List Given) (at : Span) (l : Local) → None ≡ one_number gs → of_library call.Take gs at l ≡ None
not_take (Scalar (value.Number n y) ∷ []) at l e = absurd (cc e)
not_take gs at l e = refl

pub not_give : (gs : List Given) (at : Span) (l : Local) → None ≡ given_back gs → of_library call.Give gs at l ≡ None
not_give (Scalar v ∷ []) at l e = absurd (cc e)
not_give (g ∷ Scalar v ∷ []) at l e = absurd (cc e)
not_give gs at l e = refl

pub inputs : (gs : List Given) (at : Span) (l : Local) → length gs < 1 → of_library call.Inputs gs at l ≡ gives (long_given (pos (length l.program.inputs))) l
inputs [] at l e = refl
inputs (g ∷ gs) at l e = absurd (omega (arith, e))

pub not_inputs : (gs : List Given) (at : Span) (l : Local) → 1 ≤ length gs → of_library call.Inputs gs at l ≡ None
not_inputs [] at l some = absurd (omega (arith, some))
not_inputs (g ∷ gs) at l some = refl
