use Rattle.co_meaning_data.specs.declared.values.Cell.TheVariants as cell
use Rattle.co_eval_commit.proofs.Lists.{found}
use Rattle.co_eval_commit.proofs.Stored as stored
use Rattle.co_eval_commit.proofs.objects.write_cell.Goals as goal

pub returns-in-Some : goal.returns-in-Some
returns-in-Some c =
    let e = stored.written c.args.store.now.objects.items c.args.store.now.blocks.items c.args.object c.in-Some.object.now c.args.at (cell.Holds c.args.value) (found c.args.store.now.objects.items c.args.object c.in-Some.object c.in-Some.ensures.item) in
    rw c.set_cell.ensures e
