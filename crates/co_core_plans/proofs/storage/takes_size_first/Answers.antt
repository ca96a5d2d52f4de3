use Rattle.std.proofs.Common.{◌∙◌, ap}
use Rattle.co_core.specs.Plans.{is_size_type}
use Rattle.co_core_plans.proofs.Named.{size_first}
use Rattle.co_core_plans.proofs.storage.takes_size_first.Goals as goal

pub returns-in-len1-up : goal.returns-in-len1-up
returns-in-len1-up c u = size_first u c.args.func.now c.args.params.now _ _ c.in-len1-up.len_at_least (c.is_size.ensures u ∙ ap (is_size_type u) c.slot_type.ensures)
