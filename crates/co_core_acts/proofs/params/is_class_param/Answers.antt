use Rattle.std.proofs.Common.{rules, None, Some}
use Rattle.co_core_acts.proofs.Lists.{flag_at}
use Rattle.co_core_acts.proofs.params.is_class_param.Goals as goal

pub returns-in-Some : goal.returns-in-Some
returns-in-Some c =
    let f = flag_at c.args.func.now c.args.func.now.params c.args.param (Some c.in-Some.slot.now) (search rules) in
    search rules

pub returns-in-None : goal.returns-in-None
returns-in-None c =
    let f = flag_at c.args.func.now c.args.func.now.params c.args.param None (search rules) in
    search rules
