use Rattle.std.proofs.Common.{arith}
use Rattle.co_meaning_data.specs.Turn.{coroutines_before}
use Rattle.co_eval_reads.proofs.Counting.{counted_on}
use Rattle.co_eval_reads.proofs.funcs.coroutines_before.Goals as goal

pub loop-rest-preserved : goal.loop-rest-preserved
loop-rest-preserved c =
    counted_on c.loop-rest.before c.one_if_coroutine-before.result c.loop-rest.left (coroutines_before c.args.count c.args.funcs.now) _ c.func-item.result c.loop-rest.rest.now
    c.in-len1-up.len_at_least c.func-item.is (omega arith) c.one_if_coroutine-before.ensures.count c.one_if_coroutine-before.ensures.bound c.loop-rest.invariant.0 c.loop-rest.invariant.1
