use Rattle.std.proofs.Common.{◌==◌, ap}
use Rattle.std.proofs.lemmas.Bool.{eq-eqb, ne_eqb}
use Rattle.co_core.specs.Scopes.{is_promise}
use Rattle.co_core_params.proofs.Room.{both_hold, first_fails, kind_count, promised}
use Rattle.co_core_params.proofs.listed.has_one_promise.Goals as goal

pub returns-then-promise_count-eq1 : goal.returns-then-promise_count-eq1
returns-then-promise_count-eq1 c =
    let func = c.args.func.now in
    both_hold _ _ _ _ (ap (λ n. n == 1) (kind_count is_promise c.as_slice-slots.result.now func.slots c.promise_count.result c.promise_count.ensures c.as_slice-slots.ensures))
    (promised func c.args.class c.as_slice-slots.result.now func.slots c.has_promise.result c.has_promise.ensures c.as_slice-slots.ensures) (eq-eqb c.promise_count.result 1 c.if-promise_count-eq1.true)

pub returns-else-promise_count-eq1 : goal.returns-else-promise_count-eq1
returns-else-promise_count-eq1 c =
    let func = c.args.func.now in
    first_fails _ _ _ (ap (λ n. n == 1) (kind_count is_promise c.as_slice-slots.result.now func.slots c.promise_count.result c.promise_count.ensures c.as_slice-slots.ensures)) (ne_eqb c.promise_count.result 1 c.if-promise_count-eq1.false)
