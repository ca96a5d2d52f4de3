use Rattle.std.proofs.Common.{refl}
use Rattle.co_core.specs.Ids as spec
use Rattle.co_core_walks.proofs.Loops.{all_end, all_fails, all_step}
use Rattle.co_core_walks.proofs.ids.copies_held.Goals as goal

pub loop-copy-init : goal.loop-copy-init
loop-copy-init c = refl

pub loop-copy-preserved : goal.loop-copy-preserved
loop-copy-preserved c =
    all_step (spec.copy_held c.args.scene.unit.now c.args.scene.func.now) _ _ _ _ _ c.loop-copy-test.true c.copy-item.is c.copy_held-fits.ensures c.if-not-fits.false c.loop-copy.invariant

pub returns-then-not-fits : goal.returns-then-not-fits
returns-then-not-fits c =
    all_fails (spec.copy_held c.args.scene.unit.now c.args.scene.func.now) _ _ _ _ _ c.loop-copy-test.true c.copy-item.is c.copy_held-fits.ensures c.if-not-fits.true c.loop-copy.invariant

pub returns : goal.returns
returns c =
    all_end (spec.copy_held c.args.scene.unit.now c.args.scene.func.now) _ _ _ c.loop-copy-test.false c.loop-copy.invariant
