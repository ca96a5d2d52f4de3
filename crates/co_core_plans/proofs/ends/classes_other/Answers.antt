use Rattle.std.proofs.Common.{arith}
use Rattle.co_core.specs.Plans.{info_other}
use Rattle.co_core_plans.proofs.Classes.{all_goes_on, all_stops}
use Rattle.co_core_plans.proofs.ends.classes_other.Goals as goal

pub returns-then-not-info_other : goal.returns-then-not-info_other
returns-then-not-info_other c = all_stops (info_other c.args.unit.now) c.args.unit.now.classes c.loop-class.class c.info.result.now _ c.info_other.result c.info.ensures c.loop-class.invariant.1 c.info_other.ensures c.if-not-info_other.true

pub loop-class-preserved : goal.loop-class-preserved
loop-class-preserved c = (omega arith, all_goes_on (info_other c.args.unit.now) c.args.unit.now.classes c.loop-class.class c.info.result.now _ c.info_other.result c.info.ensures c.loop-class.invariant.1 c.info_other.ensures c.if-not-info_other.false)
