use Rattle.std.proofs.Common.{arith}
use Rattle.co_core_plans.proofs.Classes.{destroyed_goes_on, destroyed_stops}
use Rattle.co_core_plans.proofs.ends.are_destroyed.Goals as goal

pub returns-then-not-is_destroyed : goal.returns-then-not-is_destroyed
returns-then-not-is_destroyed c =
    destroyed_stops c.args.unit.now c.args.unit.now.classes c.loop-class.class _ c.is_destroyed.result (omega (arith, c.loop-class-test.true, c.len.ensures)) c.loop-class.invariant.1 c.is_destroyed.ensures c.if-not-is_destroyed.true

pub loop-class-preserved : goal.loop-class-preserved
loop-class-preserved c = (
  omega (arith, c.loop-class-test.true, c.len.ensures),
  destroyed_goes_on c.args.unit.now c.args.unit.now.classes c.loop-class.class _ c.is_destroyed.result (omega (arith, c.loop-class-test.true, c.len.ensures)) c.loop-class.invariant.1 c.is_destroyed.ensures c.if-not-is_destroyed.false,
)
