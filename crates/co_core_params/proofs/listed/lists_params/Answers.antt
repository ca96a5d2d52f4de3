use Rattle.std.proofs.Common.{ap, ◌∙◌}
use Rattle.std.specs.List.{list_all}
use Rattle.co_core.specs.Plans.{is_param_slot}
use Rattle.co_core.specs.Scopes.{is_param}
use Rattle.co_core_params.specs.Marked.{differ}
use Rattle.co_core_params.proofs.Room.{all_three, as_many, kind_count}
use Rattle.co_core_params.proofs.listed.lists_params.Goals as goal

pub returns-then-slots_differ : goal.returns-then-slots_differ
returns-then-slots_differ c =
    let func = c.args.func.now in
    all_three _ _ _ _ _ _ (c.are_params.ensures ∙ ap (list_all (is_param_slot func)) c.as_slice-params.ensures) (c.slots_differ.ensures ∙ ap differ c.as_slice-params.ensures)
    (as_many is_param c.as_slice-params.result.now func.params func.slots c.param_count.result c.as_slice-params.ensures (kind_count is_param c.as_slice.result.now func.slots c.param_count.result c.param_count.ensures c.as_slice.ensures)) c.if-are_params.true c.if-slots_differ.true
