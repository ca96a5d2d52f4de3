use Rattle.co_eval_commit.proofs.Lists.{found, missing}
use Rattle.co_eval_commit.proofs.Numbered as numbered
use Rattle.co_eval_commit.proofs.coroutines.set_condition.Goals as goal

pub returns-in-Some-get_mut : goal.returns-in-Some-get_mut
returns-in-Some-get_mut c l =
    numbered.conditioned c.args.shared.now l c.args.number c.in-Some.at c.in-Some-get_mut.coroutine.now c.args.condition c.in-Some.ensures (found c.args.shared.now.coroutines.items c.in-Some.at c.in-Some-get_mut.coroutine c.in-Some-get_mut.ensures.item)

pub returns-in_default-get_mut : goal.returns-in_default-get_mut
returns-in_default-get_mut c l =
    numbered.none_conditioned c.args.shared.now l c.args.number c.in-Some.at c.args.condition c.in-Some.ensures (missing c.args.shared.now.coroutines.items c.in-Some.at _ c.in_default-get_mut.is c.get_mut.ensures.item)
