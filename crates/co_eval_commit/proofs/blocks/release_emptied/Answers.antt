use Rattle.co_eval_commit.proofs.Lists.{found}
use Rattle.co_eval_commit.proofs.Stored as stored
use Rattle.co_eval_commit.proofs.blocks.release_emptied.Goals as goal

pub returns-in-Some : goal.returns-in-Some
returns-in-Some c = stored.released c.args.store.now.objects.items c.args.store.now.blocks.items c.args.block c.in-Some.block.now (found c.args.store.now.blocks.items c.args.block c.in-Some.block c.in-Some.ensures.item)
