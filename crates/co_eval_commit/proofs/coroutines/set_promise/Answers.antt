use Rattle.co_eval_commit.proofs.Lists.{found}
use Rattle.co_eval_commit.proofs.Numbered as numbered
use Rattle.co_eval_commit.proofs.coroutines.set_promise.Goals as goal

pub returns-in-Some-get_mut : goal.returns-in-Some-get_mut
returns-in-Some-get_mut c l =
    numbered.promised c.args.shared.now l c.args.number c.in-Some.at c.in-Some-get_mut.coroutine.now c.args.object c.in-Some.ensures (found c.args.shared.now.coroutines.items c.in-Some.at c.in-Some-get_mut.coroutine c.in-Some-get_mut.ensures.item)
