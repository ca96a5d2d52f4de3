use Rattle.std.proofs.Common.{rules}
use Rattle.co_core_plans.proofs.storage.ends_object.Goals as goal

pub returns-in-Class : goal.returns-in-Class
returns-in-Class c =
    let e = c.ends_by.ensures c.args.unit.now in
    search rules
