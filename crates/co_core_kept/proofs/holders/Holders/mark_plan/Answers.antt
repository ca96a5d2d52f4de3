use Rattle.co_core_kept.proofs.Marking.{plan_marked}
use Rattle.co_core_kept.proofs.holders.Holders.mark_plan.Goals as goal

pub returns-in-Some : goal.returns-in-Some
returns-in-Some c = plan_marked c.args.scene.unit.now c.args.scene.func.now _ _ _ _ _ c.in-Some.is c.mark_holder.ensures c.mark_holder-in-Some.ensures
