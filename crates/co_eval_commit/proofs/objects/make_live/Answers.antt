use Rattle.co_eval_commit.proofs.Lists.{found}
use Rattle.co_eval_commit.proofs.Stored as stored
use Rattle.co_eval_commit.proofs.objects.make_live.Goals as goal

pub returns-in-Some : goal.returns-in-Some
returns-in-Some c = stored.lives c.args.store.now.objects.items c.args.store.now.blocks.items c.args.object c.in-Some.object.now (found c.args.store.now.objects.items c.args.object c.in-Some.object c.in-Some.ensures.item)
