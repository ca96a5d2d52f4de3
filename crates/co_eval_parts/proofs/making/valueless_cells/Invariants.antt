use Rattle.std.specs.Prelude.{◌≡◌, if◌then◌else◌, replicate}
use Rattle.co_meaning_data.specs.declared.values.Cell.TheVariants as cell
use Rattle.co_eval_parts.proofs.making.valueless_cells.Given as goal

abbrev pub invariant-loop-i : goal.invariant-loop-i
invariant-loop-i l = l.cells ≡ replicate l._i (if l.indeterminate then cell.Indeterminate else cell.Outside)
