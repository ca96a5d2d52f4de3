use Rattle.std.proofs.Common.{refl}
use Rattle.co_core.specs.Ids as spec
use Rattle.co_core_walks.proofs.Loops.{number_fails, number_step, numbers_end}
use Rattle.co_core_walks.proofs.tables.classes_held.Goals as goal

pub loop-class-init : goal.loop-class-init
loop-class-init c = refl

pub loop-class-preserved : goal.loop-class-preserved
loop-class-preserved c = number_step (spec.info_held c.args.unit.now) c.args.unit.now.classes c.loop-class.class _ _ _ c.info.ensures c.info_held-fits.ensures c.if-not-fits.false c.loop-class.invariant

pub returns-then-not-fits : goal.returns-then-not-fits
returns-then-not-fits c = number_fails (spec.info_held c.args.unit.now) c.args.unit.now.classes c.loop-class.class _ _ _ c.info.ensures c.info_held-fits.ensures c.if-not-fits.true c.loop-class.invariant

pub returns : goal.returns
returns c = numbers_end (spec.info_held c.args.unit.now) _ _ _ _ c.len-class-end.ensures c.loop-class-test.false c.loop-class.invariant
