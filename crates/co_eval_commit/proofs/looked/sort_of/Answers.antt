use Rattle.std.proofs.Common.{◌∙◌, sym}
use Rattle.co_eval_commit.proofs.Sorts.{other_step, sort_is}
use Rattle.co_eval_commit.proofs.looked.sort_of.Goals as goal

pub returns-in_default : goal.returns-in_default
returns-in_default c =
    let f = c.args.frame.now in
    sym (sort_is f.step f.node ∙ other_step f.step f.node c.in_default.not-Scope c.in_default.not-Full c.in_default.not-AwaitSuspend c.in_default.not-Holds c.in_default.not-Guards)
