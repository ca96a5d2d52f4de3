use Rattle.std.proofs.Common.{◌∙◌, ap, sym}
use Rattle.std.specs.Option.{option_copied}
use Rattle.co_core.specs.Plans.{takes_promise}
use Rattle.co_core_typing.specs.Tables.{types_of}
use Rattle.co_core_plans.proofs.Named.{both_hold, promise_found}
use Rattle.co_core_plans.proofs.calls.is_promise_call.Goals as goal

pub returns-then-is_plain : goal.returns-then-is_plain
returns-then-is_plain c =
    let u = c.args.unit.now in
    both_hold _ _ _ _ c.is_plain.ensures (c.takes_promise.ensures u ∙ ap (λ l. takes_promise u c.args.class (types_of c.in-Some.func.now l)) c.as_slice.ensures) c.if-is_plain.true
    ∙ sym (promise_found u c.args.func c.in-Some.func.now (sym c.callee.ensures ∙ ap option_copied c.in-Some.is) c.args.class)
