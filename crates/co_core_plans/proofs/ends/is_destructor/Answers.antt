use Rattle.std.proofs.Common.{rules}
use Rattle.co_core_plans.proofs.ends.is_destructor.Goals as goal

pub returns-in-Some : goal.returns-in-Some
returns-in-Some c =
    let e = c.ends_class.ensures c.args.unit.now in
    search rules
