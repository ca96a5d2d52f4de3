-- The temporaries that are counted and written after some acts.
use Rattle.std.specs.Prelude.{◌+◌, Bool, false, nat_lt, if◌then◌else◌, List, length, slice_set, Option, None}
use Rattle.std.specs.Option.{option_copied}
use Rattle.co_base.specs.declared.ids.SlotId.{SlotId}
use Rattle.co_core_tree.specs.Acts.{Act, Does, Keeps, Passes, Starts}
use Rattle.co_core_tree.specs.Slots.{temporaries}
use Rattle.co_core_tree.specs.declared.exprs.CoreExpr.{CoreExpr}
use Rattle.co_core_tree.specs.declared.exprs.CoreExpr.TheVariants as expr
use Rattle.co_core_tree.specs.declared.units.CoreFunc.{CoreFunc}
use Rattle.co_eval_data.specs.declared.frames.Temporal.{Temporal}
use Rattle.co_eval_fulls.specs.declared.temporals.Count.{Count}
use Rattle.co_eval_fulls.specs.declared.temporals.Unmade.{Unmade}
use Rattle.co_meaning_calls.specs.Calls.{has_mark, unmade_all}
use Rattle.co_meaning_data.specs.Frames as meaning

-- ---- the count

abbrev pub one_more : Count → Count
one_more s = if nat_lt s.count 18446744073709551615 then record s { count = s.count + 1 } else s

abbrev pub expr_counted : Count → CoreExpr → Count
expr_counted s (expr.Temp' slot n i at) = one_more s
expr_counted s e = s

abbrev pub counted_after : Count → Act → Count
counted_after s (Does conditional e) = expr_counted s e
counted_after s (Passes e) = s
counted_after s (Starts i) = s
counted_after s (Keeps part) = s

-- ---- the temporaries

abbrev pub written_after : Unmade → Temporal → Unmade
written_after s t = if nat_lt s.next (length s.written) then record s { written = slice_set s.written s.next t; next = s.next + 1 } else record s { fits = false }

-- a temporary of this slot, which is not made
abbrev pub unmade_as : Option CoreFunc → SlotId → Bool → Temporal
unmade_as func slot conditional = record { slot = slot.0; marked = has_mark func (record { slot = slot; conditional = conditional }); live = false; object = None }

abbrev pub temporary_after : Unmade → SlotId → Bool → Unmade
temporary_after s slot conditional = written_after s (unmade_as (option_copied s.func) slot conditional)

abbrev pub expr_after : Unmade → Bool → CoreExpr → Unmade
expr_after s conditional (expr.Temp' slot n i at) = temporary_after s slot conditional
expr_after s conditional e = s

abbrev pub unmade_after : Unmade → Act → Unmade
unmade_after s (Does conditional e) = expr_after s conditional e
unmade_after s (Passes e) = s
unmade_after s (Starts i) = s
unmade_after s (Keeps part) = s

-- the temporaries of acts in a function, none of which is made
abbrev pub unmade_of : Option CoreFunc → List Act → List meaning.Temporal
unmade_of func list = unmade_all func (temporaries list)
