-- The parameters of a class, one after the other, and the temporaries that arguments for them make.
use Rattle.std.specs.Prelude.{◌≡◌, ℕ, zero, suc, List, [], ◌∷◌, length, map, slice_get, Option, None, Some}
use Rattle.std.proofs.Common.{refl}
use Rattle.std.proofs.lemmas.List.{length-map}
use Rattle.co_base.specs.declared.ids.SlotId.{SlotId}
use Rattle.co_base.specs.declared.span.Span.{Span}
use Rattle.co_core_tree.specs.Slots.{class_slots, holds_class, slot_at}
use Rattle.co_core_tree.specs.declared.exprs.CoreExpr.TheBlock.{shape-the_row-Init-2, hidden-the_row-Init-2, shown-the_row-Init-2}
use Rattle.co_core_tree.specs.declared.exprs.CoreExpr.TheVariants as expr
use Rattle.co_core_tree.specs.declared.exprs.Init.{Init}
use Rattle.co_core_tree.specs.declared.units.CoreFunc.{CoreFunc}
use Rattle.co_eval_data.specs.Seen.{given_of}
use Rattle.co_eval_data.specs.declared.outcomes.Given.{Given}
use Rattle.co_meaning_calls.specs.Calls.{temp_of_expr}

pub some_param : (func : CoreFunc) (slots : List SlotId) (n : ℕ) (slot : SlotId) → slice_get slots n ≡ Some slot → slice_get (class_slots func slots) n ≡ Some (holds_class (slot_at func slot))
some_param func [] n slot e = absurd (cc e)
some_param func (s ∷ slots) zero slot e = let same : s ≡ slot = cc e in cc same
some_param func (s ∷ slots) (suc n) slot e = some_param func slots n slot e

pub no_param : (func : CoreFunc) (slots : List SlotId) (n : ℕ) → slice_get slots n ≡ None → slice_get (class_slots func slots) n ≡ None
no_param func [] n e = refl
no_param func (s ∷ slots) zero e = absurd (cc e)
no_param func (s ∷ slots) (suc n) e = no_param func slots n e

pub a_temporary : (slot : SlotId) (i : Init) (at : Span) → temp_of_expr (expr.Temp slot i at) ≡ Some (slot.0, i)
unfolding shape-the_row-Init-2 hidden-the_row-Init-2 shown-the_row-Init-2 denote.Hole.Carrier.hidden
a_temporary slot i at = refl

pub given_counted : (list : List Given) → length (map given_of list) ≡ length list
given_counted list = length-map list given_of
