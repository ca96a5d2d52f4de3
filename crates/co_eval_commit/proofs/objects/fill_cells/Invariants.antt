use Rattle.std.proofs.Common.{◌≡◌, length, replicate}
use Rattle.co_meaning_data.specs.Store.{set_cells}
use Rattle.co_eval_commit.proofs.objects.fill_cells.Given as goal

abbrev pub invariant-loop-at : goal.invariant-loop-at
invariant-loop-at l = record {
  copied : l.copies ≡ replicate (length l.copies) l.cell;
  set : set_cells l.at (length l.copies) l.cell l.cells ≡ set_cells l.fn.from (length l.fn.copies) l.cell l.fn.cells;
}

abbrev pub decreases-loop-at : goal.decreases-loop-at
decreases-loop-at l = length l.copies
