-- What is left of the marks of a function after those of some temporaries.
use Rattle.std.specs.Prelude.{◌-◌, Bool, true, false, ◌&&◌, nat_lt}
use Rattle.co_base.specs.declared.ids.SlotId.{SlotId}
use Rattle.co_core_tree.specs.declared.exprs.CoreExpr.{CoreExpr}
use Rattle.co_core_tree.specs.declared.exprs.CoreExpr.TheVariants as expr
use Rattle.co_core_tree.specs.Acts.{Act, Does, Keeps, Passes, Starts}
use Rattle.co_core.specs.Counts.{is_marked}
use Rattle.co_core_kept.specs.declared.marks.MarksLeft.{MarksLeft}

abbrev pub one_less : MarksLeft → MarksLeft
one_less s = record s { left = s.left - 1; enough = s.enough && nat_lt 0 s.left }

abbrev pub less_if : Bool → MarksLeft → MarksLeft
less_if true s = one_less s
less_if false s = s

-- after a temporary of this slot
abbrev pub temporary_after : MarksLeft → SlotId → Bool → MarksLeft
temporary_after s slot conditional = less_if (is_marked s.func.now (record { slot = slot; conditional = conditional })) s

abbrev pub expr_after : MarksLeft → Bool → CoreExpr → MarksLeft
expr_after s conditional (expr.Temp' slot n i at) = temporary_after s slot conditional
expr_after s conditional e = s

abbrev pub left_after : MarksLeft → Act → MarksLeft
left_after s (Does conditional e) = expr_after s conditional e
left_after s (Passes e) = s
left_after s (Starts i) = s
left_after s (Keeps part) = s
