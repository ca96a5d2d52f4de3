use Rattle.std.proofs.Common.{◌∙◌, length, sym, arith}
use Rattle.co_meaning_data.specs.declared.values.Cell.TheVariants as cell
use Rattle.co_eval_commit.proofs.Cells.{none_left, outside, step}
use Rattle.co_eval_commit.proofs.objects.all_outside.Goals as goal

pub loop-at-preserved : goal.loop-at-preserved
loop-at-preserved c =
    rw c.set_cell.ensures (step c.loop-at.at (length c.args.cells.now) cell.Outside c.loop-at.cells (omega arith) ∙ c.loop-at.invariant)

pub returns : goal.returns
returns c = sym (none_left c.loop-at.at (length c.args.cells.now) cell.Outside c.loop-at.cells (omega arith)) ∙ c.loop-at.invariant ∙ outside c.args.cells.now
