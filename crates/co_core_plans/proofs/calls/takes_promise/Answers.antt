use Rattle.std.proofs.Common.{◌∙◌, ap}
use Rattle.co_core.specs.Plans.{is_promise_reference}
use Rattle.co_core_plans.proofs.Named.{promise_alone, promise_of_many}
use Rattle.co_core_plans.proofs.calls.takes_promise.Goals as goal

pub returns-in-len1 : goal.returns-in-len1
returns-in-len1 c u =
    promise_alone u c.args.func.now c.args.class c.args.params.now _ _ c.in-len1.len_at_least c.in-len1.len_below (c.is_promise_reference.ensures u ∙ ap (is_promise_reference u c.args.class) c.slot_type.ensures)

pub returns-in_default : goal.returns-in_default
returns-in_default c u = promise_of_many u c.args.func.now c.args.class c.args.params.now c.in_default.len_at_least
