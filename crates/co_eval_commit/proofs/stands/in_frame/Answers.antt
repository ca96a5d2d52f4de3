use Rattle.std.specs.Prelude.{ℕ}
use Rattle.std.proofs.Common.{refl}
use Rattle.std.proofs.lemmas.Result.{IfOk-weaker}
use Rattle.co_eval_commit.specs.Looked.{HoldsTemporaries, StandsInAwait, StandsInFrame, StandsInFull}
use Rattle.co_eval_commit.proofs.Stood.{is_temporaries_step}
use Rattle.co_eval_commit.proofs.stands.in_frame.Goals as goal

pub returns-in-Full : goal.returns-in-Full
returns-in-Full c =
    IfOk-weaker c.among_temporaries.result (λ stand. StandsInFull c.args.at (HoldsTemporaries c.in-Full.temporaries) c.args.slot c.args.x stand) (λ stand. StandsInFrame c.args.at c.args.frame.now c.args.slot c.args.x stand) (λ stand h fs e met others. h fs c.args.frame.now e c.in-Full.is others) c.among_temporaries.ensures

pub returns-in-AwaitSuspend : goal.returns-in-AwaitSuspend
returns-in-AwaitSuspend c =
    IfOk-weaker c.in_await.result (λ stand. (slot : ℕ) → StandsInAwait c.args.at c.args.frame.now.node c.in-AwaitSuspend.into c.in-AwaitSuspend.own slot c.args.x stand) (λ stand. StandsInFrame c.args.at c.args.frame.now c.args.slot c.args.x stand) (λ stand h fs e met others. h c.args.slot fs c.args.frame.now e c.in-AwaitSuspend.is refl met others) c.in_await.ensures

pub returns-in_default : goal.returns-in_default
returns-in_default c fs e met others = absurd (is_temporaries_step c.args.frame.now met c.in_default.not-Full c.in_default.not-AwaitSuspend)
