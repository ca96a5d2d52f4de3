use Rattle.std.proofs.Common.{◌<◌, arith, false, length, None}
use Rattle.co_eval_data.specs.declared.frames.Temporal.{Temporal}
use Rattle.co_eval_commit.proofs.Passed.{one_more_at}
use Rattle.co_eval_commit.proofs.temporaries.slot_at.Goals as goal

pub loop-at-preserved : goal.loop-at-preserved
loop-at-preserved c =
    let zero : Temporal = record { slot = 0; marked = false; live = false; object = None } in
    let within : c.loop-at.at < length c.args.temporaries.now = omega arith in
    one_more_at c.args.slot c.args.temporaries.now c.loop-at.at zero within c.if-temporaries-at.false c.loop-at.invariant
