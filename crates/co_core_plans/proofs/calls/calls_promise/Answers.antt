use Rattle.co_core_plans.proofs.Named.{both_hold, first_fails}
use Rattle.co_core_plans.proofs.Params.{all_three}
use Rattle.co_core_plans.proofs.calls.calls_promise.Goals as goal

pub returns-then-returns_fit : goal.returns-then-returns_fit
returns-then-returns_fit c =
    let func = c.args.scene.func.now in
    all_three _ _ _ _ _ _ c.is_promise_call.ensures c.gives_type.ensures (both_hold _ _ _ _ (c.returns_fit.ensures func) (c.unhandled_fits.ensures func) c.if-returns_fit.true) c.if-is_promise_call.true c.if-gives_type.true

pub returns-else-returns_fit : goal.returns-else-returns_fit
returns-else-returns_fit c =
    let func = c.args.scene.func.now in
    all_three _ _ _ _ _ _ c.is_promise_call.ensures c.gives_type.ensures (first_fails _ _ _ (c.returns_fit.ensures func) c.if-returns_fit.false) c.if-is_promise_call.true c.if-gives_type.true
