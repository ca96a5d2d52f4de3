use Rattle.std.proofs.Common.{◌==◌, ap}
use Rattle.std.proofs.lemmas.Bool.{eq-eqb, ne_eqb}
use Rattle.co_core.specs.Scopes.{is_copy, is_promise}
use Rattle.co_core_params.proofs.Room.{both_hold, first_fails, kind_count}
use Rattle.co_core_params.proofs.listed.has_no_copies.Goals as goal

pub returns-then-promise_count-eq0 : goal.returns-then-promise_count-eq0
returns-then-promise_count-eq0 c =
    let func = c.args.func.now in
    both_hold _ _ _ _ (ap (λ n. n == 0) (kind_count is_promise c.as_slice-slots.result.now func.slots c.promise_count.result c.promise_count.ensures c.as_slice-slots.ensures))
    (ap (λ n. n == 0) (kind_count is_copy c.as_slice-slots.result.now func.slots c.copy_count.result c.copy_count.ensures c.as_slice-slots.ensures)) (eq-eqb c.promise_count.result 0 c.if-promise_count-eq0.true)

pub returns-else-promise_count-eq0 : goal.returns-else-promise_count-eq0
returns-else-promise_count-eq0 c =
    let func = c.args.func.now in
    first_fails _ _ _ (ap (λ n. n == 0) (kind_count is_promise c.as_slice-slots.result.now func.slots c.promise_count.result c.promise_count.ensures c.as_slice-slots.ensures)) (ne_eqb c.promise_count.result 0 c.if-promise_count-eq0.false)
