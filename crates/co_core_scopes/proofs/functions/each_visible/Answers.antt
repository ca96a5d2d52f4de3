use Rattle.std.proofs.Common.{refl}
use Rattle.co_core.specs.Counts.{slots_fit}
use Rattle.co_core.specs.Ids.{func_ids_held}
use Rattle.co_core.specs.Scopes as spec
use Rattle.co_core_scopes.proofs.Loops.{all_end, all_fails, all_step}
use Rattle.co_core_scopes.proofs.Small.{at_all}
use Rattle.co_core_scopes.proofs.functions.each_visible.Goals as goal

pub loop-func-init : goal.loop-func-init
loop-func-init c = refl

pub loop-func-preserved : goal.loop-func-preserved
loop-func-preserved c =
    let less = c.loop-func-test.true in
    let item = c.func-item.is in
    all_step (spec.func_visible c.args.unit.now.funcs) _ _ _ _ _ less item (c.func_visible-visible.ensures (at_all slots_fit _ _ _ c.requires.slots less item) (at_all (func_ids_held c.args.unit.now) _ _ _ c.requires.ids less item) (at_all (spec.func_makes_once c.args.unit.now.funcs) _ _ _ c.requires.made less item)) c.if-not-visible.false c.loop-func.invariant

pub returns-then-not-visible : goal.returns-then-not-visible
returns-then-not-visible c =
    let less = c.loop-func-test.true in
    let item = c.func-item.is in
    all_fails (spec.func_visible c.args.unit.now.funcs) _ _ _ _ _ less item (c.func_visible-visible.ensures (at_all slots_fit _ _ _ c.requires.slots less item) (at_all (func_ids_held c.args.unit.now) _ _ _ c.requires.ids less item) (at_all (spec.func_makes_once c.args.unit.now.funcs) _ _ _ c.requires.made less item)) c.if-not-visible.true c.loop-func.invariant

pub returns : goal.returns
returns c = all_end (spec.func_visible c.args.unit.now.funcs) _ _ _ c.loop-func-test.false c.loop-func.invariant
