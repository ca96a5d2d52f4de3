use Rattle.std.specs.Prelude.{◌≡◌, length}
use Rattle.std.proofs.Common.{arith}
use Rattle.co_eval_commit.proofs.Beside.{promises}
use Rattle.co_eval_commit.proofs.slotted.adds_promise.Goals as goal

pub returns-in-Ok-clause-made : goal.returns-in-Ok-clause-made
returns-in-Ok-clause-made c l fs =
    let count : c.len-number.result ≡ length c.args.shared.now.store.objects.items = omega arith in
    promises c.args.shared.now c.adds.new.shared c.set_promise_of.new.shared c.args.top.now c.adds.new.top fs l c.args.slot c.len-number.result c.args.object c.set_promise_of.ensures (c.in-Ok.ensures.made l fs) count

pub returns-in-Err-clause-made : goal.returns-in-Err-clause-made
returns-in-Err-clause-made c l fs = c.in-Err.ensures.made l fs
