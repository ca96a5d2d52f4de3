use Rattle.std.proofs.Common.{ap, ◌∙◌}
use Rattle.co_core.specs.Plans.{copies_to}
use Rattle.co_core.specs.Scopes.{is_copy}
use Rattle.co_core_params.specs.Limited.{each_copies}
use Rattle.co_core_params.specs.Marked.{differ}
use Rattle.co_core_params.proofs.Room.{all_three, as_many, first_fails, kind_count, second_fails}
use Rattle.co_core_params.proofs.listed.has_copies.Goals as goal

pub returns-then-copies_differ : goal.returns-then-copies_differ
returns-then-copies_differ c =
    let func = c.args.func.now in
    let plan = c.args.plan.now in
    all_three _ _ _ _ _ _
    (c.copies_params.ensures ∙ ap (λ l. each_copies func l c.as_slice-copies.result.now) c.as_slice.ensures ∙ ap (each_copies func func.params) c.as_slice-copies.ensures)
    (c.copies_differ.ensures func ∙ ap (λ l. differ (copies_to func l)) c.as_slice-copies.ensures)
    (as_many is_copy c.as_slice-copies.result.now plan.copies func.slots c.copy_count.result c.as_slice-copies.ensures (kind_count is_copy c.as_slice-then-copies_differ.result.now func.slots c.copy_count.result c.copy_count.ensures c.as_slice-then-copies_differ.ensures))
    c.if-copies_params.true c.if-copies_differ.true

pub returns-else-copies_differ : goal.returns-else-copies_differ
returns-else-copies_differ c =
    let func = c.args.func.now in
    second_fails _ _ _ _ _
    (c.copies_params.ensures ∙ ap (λ l. each_copies func l c.as_slice-copies.result.now) c.as_slice.ensures ∙ ap (each_copies func func.params) c.as_slice-copies.ensures)
    (c.copies_differ.ensures func ∙ ap (λ l. differ (copies_to func l)) c.as_slice-copies.ensures) c.if-copies_params.true c.if-copies_differ.false

pub returns-else-copies_params : goal.returns-else-copies_params
returns-else-copies_params c =
    let func = c.args.func.now in
    first_fails _ _ _
    (c.copies_params.ensures ∙ ap (λ l. each_copies func l c.as_slice-copies.result.now) c.as_slice.ensures ∙ ap (each_copies func func.params) c.as_slice-copies.ensures) c.if-copies_params.false
