use Rattle.co_eval_commit.proofs.Lists.{found, missing}
use Rattle.co_eval_commit.proofs.Woken.{kept, none_woken, woken_at}
use Rattle.co_eval_commit.proofs.waking.take_woken.Goals as goal

pub returns-in_default-get_mut-clause-made : goal.returns-in_default-get_mut-clause-made
returns-in_default-get_mut-clause-made c l place = none_woken c.args.shared.now l c.args.number c.in-Some.at c.args.kind place c.in-Some.ensures (missing c.args.shared.now.coroutines.items c.in-Some.at _ c.in_default-get_mut.is c.get_mut.ensures.item)

pub returns-in-Ok-clause-made : goal.returns-in-Ok-clause-made
returns-in-Ok-clause-made c l place = woken_at c.args.shared.now l c.args.number c.in-Some.at c.in-Some-get_mut.coroutine.now c.run.new.coroutine c.in-Ok.woken c.args.kind place c.in-Some.ensures (found c.args.shared.now.coroutines.items c.in-Some.at c.in-Some-get_mut.coroutine c.in-Some-get_mut.ensures.item) c.in-Ok.ensures.runs c.in-Ok.ensures.woken

pub returns-in-Err-clause-made : goal.returns-in-Err-clause-made
returns-in-Err-clause-made c l place = kept c.args.shared.now l c.in-Some.at c.in-Some-get_mut.coroutine.now c.run.new.coroutine (found c.args.shared.now.coroutines.items c.in-Some.at c.in-Some-get_mut.coroutine c.in-Some-get_mut.ensures.item) c.in-Err.ensures.same
