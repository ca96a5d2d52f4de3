use Rattle.co_core_plans.proofs.Params.{some_taken}
use Rattle.co_core_plans.proofs.ends.is_main_func.Goals as goal

pub returns-else-is_empty : goal.returns-else-is_empty
returns-else-is_empty c u = some_taken u c.args.func.now _ _ _ _ c.as_slice.ensures c.is_empty.ensures c.if-is_empty.false
