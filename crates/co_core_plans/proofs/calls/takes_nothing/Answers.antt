use Rattle.std.proofs.Common.{◌∙◌, ◌==◌, ap, length, sym}
use Rattle.std.specs.Option.{option_copied}
use Rattle.co_core_plans.proofs.Named.{both_hold, none_taken, nothing_found}
use Rattle.co_core_plans.proofs.calls.takes_nothing.Goals as goal

pub returns-then-is_plain : goal.returns-then-is_plain
returns-then-is_plain c =
    let u = c.args.unit.now in
    let found = c.in-Some.func.now in
    both_hold _ _ _ _ c.is_plain.ensures (c.is_empty.ensures ∙ ap (λ l. length l == 0) c.as_slice.ensures ∙ none_taken u found found.params) c.if-is_plain.true
    ∙ sym (nothing_found u c.args.func found (sym c.callee.ensures ∙ ap option_copied c.in-Some.is))
