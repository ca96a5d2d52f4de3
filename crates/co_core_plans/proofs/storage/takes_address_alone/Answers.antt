use Rattle.std.proofs.Common.{◌∙◌, ap}
use Rattle.co_core.specs.Plans.{is_address_type}
use Rattle.co_core_plans.proofs.Params.{address_alone, address_of_many}
use Rattle.co_core_plans.proofs.storage.takes_address_alone.Goals as goal

pub returns-in-len1 : goal.returns-in-len1
returns-in-len1 c u = address_alone u c.args.func.now c.args.params.now _ _ c.in-len1.len_at_least c.in-len1.len_below (c.is_address.ensures u ∙ ap (is_address_type u) c.slot_type.ensures)

pub returns-in_default-2 : goal.returns-in_default-2
returns-in_default-2 c u = address_of_many u c.args.func.now c.args.params.now c.in_default.len_at_least
