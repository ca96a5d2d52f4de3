use Rattle.co_core_scopes.proofs.Small.{plan_marked}
use Rattle.co_core_scopes.proofs.makes.Makes.make_plan.Goals as goal

pub returns-in-Some : goal.returns-in-Some
returns-in-Some c = plan_marked c.args.self.now _ _ _ _ _ _ c.in-Some.is c.as_slice.ensures c.make_copies.ensures c.make_holder.ensures c.make_holder-in-Some.ensures
