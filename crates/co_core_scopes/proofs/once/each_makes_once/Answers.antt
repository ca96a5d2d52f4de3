use Rattle.std.proofs.Common.{refl}
use Rattle.co_core.specs.Counts.{slots_fit}
use Rattle.co_core.specs.Ids.{func_ids_held}
use Rattle.co_core.specs.Scopes as spec
use Rattle.co_core_scopes.proofs.Loops.{all_end, all_fails, all_step}
use Rattle.co_core_scopes.proofs.Small.{at_all}
use Rattle.co_core_scopes.proofs.once.each_makes_once.Goals as goal

pub loop-func-init : goal.loop-func-init
loop-func-init c = refl

pub loop-func-preserved : goal.loop-func-preserved
loop-func-preserved c =
    all_step (spec.func_makes_once c.args.unit.now.funcs) _ _ _ _ _ c.loop-func-test.true c.func-item.is (c.func_makes_once-fits.ensures (at_all slots_fit _ _ _ c.requires.slots c.loop-func-test.true c.func-item.is) (at_all (func_ids_held c.args.unit.now) _ _ _ c.requires.ids c.loop-func-test.true c.func-item.is)) c.if-not-fits.false c.loop-func.invariant

pub returns-then-not-fits : goal.returns-then-not-fits
returns-then-not-fits c =
    all_fails (spec.func_makes_once c.args.unit.now.funcs) _ _ _ _ _ c.loop-func-test.true c.func-item.is (c.func_makes_once-fits.ensures (at_all slots_fit _ _ _ c.requires.slots c.loop-func-test.true c.func-item.is) (at_all (func_ids_held c.args.unit.now) _ _ _ c.requires.ids c.loop-func-test.true c.func-item.is)) c.if-not-fits.true c.loop-func.invariant

pub returns : goal.returns
returns c = all_end (spec.func_makes_once c.args.unit.now.funcs) _ _ _ c.loop-func-test.false c.loop-func.invariant
