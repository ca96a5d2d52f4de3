use Rattle.std.proofs.Common.{rules}
use Rattle.co_core_plans.proofs.ends.is_main.Goals as goal

pub returns-in-Some : goal.returns-in-Some
returns-in-Some c =
    let e = c.is_main_func.ensures c.args.unit.now in
    search rules
