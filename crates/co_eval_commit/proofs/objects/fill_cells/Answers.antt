use Rattle.std.proofs.Common.{◌∙◌, length, sym, arith, rules}
use Rattle.co_eval_commit.proofs.Cells.{nothing_left, past_end}
use Rattle.co_eval_commit.proofs.objects.fill_cells.Goals as goal
use Rattle.co_eval_commit.proofs.objects.fill_cells.Goals.{else-loop-at-test, then-loop-at-test+in_default}

pub returns : goal.returns
returns c = elim c.loop-at-test.branch [
  | else-loop-at-test w ↦ sym (past_end c.loop-at.at (length c.loop-at.copies) c.args.cell.now c.loop-at.cells (omega arith)) ∙ c.loop-at.invariant.set
  | then-loop-at-test+in_default w ↦ sym (nothing_left c.loop-at.copies c.loop-at.at c.args.cell.now c.loop-at.cells (search (rules, w.pop.ensures, w.in_default))) ∙ c.loop-at.invariant.set
]
