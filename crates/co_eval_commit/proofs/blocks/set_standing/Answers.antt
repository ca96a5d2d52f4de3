use Rattle.co_eval_commit.proofs.Lists.{found}
use Rattle.co_eval_commit.proofs.Stored as stored
use Rattle.co_eval_commit.proofs.blocks.set_standing.Goals as goal

pub returns-in-Some : goal.returns-in-Some
returns-in-Some c = stored.stands c.args.store.now.objects.items c.args.store.now.blocks.items c.args.block c.in-Some.block.now c.args.what (found c.args.store.now.blocks.items c.args.block c.in-Some.block c.in-Some.ensures.item)
