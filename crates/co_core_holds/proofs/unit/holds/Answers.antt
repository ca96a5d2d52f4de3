use Rattle.std.proofs.Common.{◌∙◌}
use Rattle.co_core_holds.proofs.Order.{order_is_free}
use Rattle.co_core_holds.proofs.unit.holds.Goals as goal

pub returns : goal.returns
returns c = c.hold_in_order.ensures ∙ order_is_free c.args.unit.now
