use Rattle.std.proofs.Common.{◌∙◌, ap}
use Rattle.co_core.specs.Plans.{takes_size_first}
use Rattle.co_core_typing.specs.Tables.{types_of}
use Rattle.co_core_plans.proofs.Params.{all_three, second_fails}
use Rattle.co_core_plans.proofs.storage.takes_storage_first.Goals as goal

pub returns-then-is_address : goal.returns-then-is_address
returns-then-is_address c u =
    all_three _ _ _ _ _ _ c.is_plain.ensures (c.is_address.ensures u) (c.takes_size_first.ensures u ∙ ap (λ l. takes_size_first u (types_of c.args.func.now l)) c.as_slice.ensures) c.if-is_plain.true c.if-is_address.true

pub returns-else-is_address : goal.returns-else-is_address
returns-else-is_address c u = second_fails _ _ _ _ _ c.is_plain.ensures (c.is_address.ensures u) c.if-is_plain.true c.if-is_address.false
