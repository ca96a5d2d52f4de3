use Rattle.std.proofs.Common.{length}
use Rattle.co_eval_commit.proofs.Lists.{found}
use Rattle.co_eval_commit.proofs.Stored as stored
use Rattle.co_eval_commit.proofs.objects.fill_object.Goals as goal

pub returns-in-Some : goal.returns-in-Some
returns-in-Some c =
    let e = stored.filled c.args.store.now.objects.items c.args.store.now.blocks.items c.args.object c.in-Some.object.now c.args.from (length c.args.copies) c.args.cell.now (found c.args.store.now.objects.items c.args.object c.in-Some.object c.in-Some.ensures.item) in
    rw c.fill_cells.ensures e
