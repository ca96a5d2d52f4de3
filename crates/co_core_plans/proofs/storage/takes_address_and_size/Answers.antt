use Rattle.std.proofs.Common.{◌∙◌, ap}
use Rattle.co_core.specs.Plans.{is_address_type, is_size_type}
use Rattle.co_core_plans.proofs.Params.{both_fit, both_of_few, both_of_many, one_misfits}
use Rattle.co_core_plans.proofs.storage.takes_address_and_size.Goals as goal

pub returns-then-is_address : goal.returns-then-is_address
returns-then-is_address c u =
    both_fit u c.args.func.now c.args.params.now _ _ _ _ c.in-len2.len_at_least c.in-len2.len_below (c.is_address.ensures u ∙ ap (is_address_type u) c.slot_type.ensures) c.if-is_address.true (c.is_size.ensures u ∙ ap (is_size_type u) c.slot_type-then-is_address.ensures)

pub returns-else-is_address : goal.returns-else-is_address
returns-else-is_address c u =
    one_misfits u c.args.func.now c.args.params.now _ _ c.in-len2.len_at_least c.in-len2.len_below (c.is_address.ensures u ∙ ap (is_address_type u) c.slot_type.ensures) c.if-is_address.false

pub returns-in_default : goal.returns-in_default
returns-in_default c u = both_of_few u c.args.func.now c.args.params.now c.in_default.len_below

pub returns-in_default-2 : goal.returns-in_default-2
returns-in_default-2 c u = both_of_many u c.args.func.now c.args.params.now c.in_default.len_at_least
