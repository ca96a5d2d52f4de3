use Rattle.std.proofs.Common.{refl}
use Rattle.co_core.specs.Counts.{func_held, slots_fit}
use Rattle.co_core_kept.proofs.Loops.{all_end, all_fails, all_step, at_all}
use Rattle.co_core_kept.proofs.held.each_held.Goals as goal

pub loop-func-init : goal.loop-func-init
loop-func-init c = refl

pub loop-func-preserved : goal.loop-func-preserved
loop-func-preserved c =
    all_step (func_held c.args.unit.now) _ _ _ _ _ c.loop-func-test.true c.func-item.is (c.func_held-held.ensures (at_all slots_fit _ _ _ c.requires.slots c.loop-func-test.true c.func-item.is)) c.if-not-held.false c.loop-func.invariant

pub returns-then-not-held : goal.returns-then-not-held
returns-then-not-held c =
    all_fails (func_held c.args.unit.now) _ _ _ _ _ c.loop-func-test.true c.func-item.is (c.func_held-held.ensures (at_all slots_fit _ _ _ c.requires.slots c.loop-func-test.true c.func-item.is)) c.if-not-held.true c.loop-func.invariant

pub returns : goal.returns
returns c = all_end (func_held c.args.unit.now) _ _ _ c.loop-func-test.false c.loop-func.invariant
