use Rattle.std.specs.Prelude.{◌≡◌, Some, IfOk}
use Rattle.std.proofs.Common.{sym, subst}
use Rattle.co_eval_data.specs.Agents.{local_of}
use Rattle.co_eval_data.specs.Changed.{after}
use Rattle.co_meaning_calls.specs.Coroutines.{takes_frame}
use Rattle.co_meaning_data.specs.Frames as meaning
use Rattle.co_meaning_data.specs.Turn.{pushed}
use Rattle.co_eval_ramps.proofs.storage.takes_frame.Goals as goal

pub returns-in-Global : goal.returns-in-Global
returns-in-Global c =
    let l = local_of c.args.here.now in
    subst (λ k. IfOk c.takes_block.result (λ x. after x l ≡ takes_frame k c.args.plan.now.take_args (pushed meaning.RampTaken l))) (sym c.in-Global.is) c.takes_block.ensures

pub returns-in-Own : goal.returns-in-Own
returns-in-Own c =
    let l = local_of c.args.here.now in
    subst (λ k. IfOk c.takes_by.result (λ x. after x l ≡ takes_frame k c.args.plan.now.take_args (pushed meaning.RampTaken l))) (sym c.in-Own.is) c.takes_by.ensures

pub returns-in_ok-change-in-OwnWith : goal.returns-in_ok-change-in-OwnWith
returns-in_ok-change-in-OwnWith c =
    let l = local_of c.args.here.now in
    subst (λ k. after (Some c.in_ok-change-in-OwnWith.change) l ≡ takes_frame k c.args.plan.now.take_args (pushed meaning.RampTaken l)) (sym c.in-OwnWith.is) c.in_ok-change-in-OwnWith.ensures
