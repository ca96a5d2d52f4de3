use Rattle.std.proofs.Common.{◌∙◌}
use Rattle.co_eval_commit.proofs.Lists.{found}
use Rattle.co_eval_commit.proofs.Stored as stored
use Rattle.co_eval_commit.proofs.objects.end_object.Goals as goal

pub returns-in-Some-block : goal.returns-in-Some-block
returns-in-Some-block c =
    let e = stored.ended c.args.store.now.objects.items c.args.store.now.blocks.items c.args.object c.in-Some.ended.now _ (found c.args.store.now.objects.items c.args.object c.in-Some.ended c.in-Some.ensures.item) c.in-Some-block.is in
    c.leave_block.ensures ∙ rw c.all_outside.ensures e

pub returns-in_default-block : goal.returns-in_default-block
returns-in_default-block c =
    let e = stored.ended c.args.store.now.objects.items c.args.store.now.blocks.items c.args.object c.in-Some.ended.now _ (found c.args.store.now.objects.items c.args.object c.in-Some.ended c.in-Some.ensures.item) c.in_default-block.is in
    rw c.all_outside.ensures e
