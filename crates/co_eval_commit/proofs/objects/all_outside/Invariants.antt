use Rattle.std.proofs.Common.{◌≡◌, ◌-◌, length}
use Rattle.co_meaning_data.specs.declared.values.Cell.TheVariants as cell
use Rattle.co_meaning_data.specs.Store.{set_cells}
use Rattle.co_eval_commit.proofs.objects.all_outside.Given as goal

abbrev pub invariant-loop-at : goal.invariant-loop-at
invariant-loop-at l = set_cells l.at (length l.fn.cells - l.at) cell.Outside l.cells ≡ set_cells 0 (length l.fn.cells) cell.Outside l.fn.cells
