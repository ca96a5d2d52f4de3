use Rattle.std.proofs.Common.{◌∙◌, ap, sym}
use Rattle.std.specs.Option.{option_copied}
use Rattle.co_core.specs.Plans.{takes_size_alone}
use Rattle.co_core_typing.specs.Tables.{types_of}
use Rattle.co_core_plans.proofs.Params.{all_three, alone_found, second_fails}
use Rattle.co_core_plans.proofs.storage.takes_storage_alone.Goals as goal

pub returns-then-is_address : goal.returns-then-is_address
returns-then-is_address c =
    let u = c.args.unit.now in
    all_three _ _ _ _ _ _ c.is_plain.ensures (c.is_address.ensures u) (c.takes_size_alone.ensures u ∙ ap (λ l. takes_size_alone u (types_of c.in-Some.func.now l)) c.as_slice.ensures) c.if-is_plain.true c.if-is_address.true
    ∙ sym (alone_found u c.args.func c.in-Some.func.now (sym c.callee.ensures ∙ ap option_copied c.in-Some.is))

pub returns-else-is_address : goal.returns-else-is_address
returns-else-is_address c =
    let u = c.args.unit.now in
    second_fails _ _ _ _ _ c.is_plain.ensures (c.is_address.ensures u) c.if-is_plain.true c.if-is_address.false
    ∙ sym (alone_found u c.args.func c.in-Some.func.now (sym c.callee.ensures ∙ ap option_copied c.in-Some.is))
