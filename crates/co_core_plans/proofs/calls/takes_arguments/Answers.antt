use Rattle.std.proofs.Common.{◌∙◌, ap, sym}
use Rattle.std.specs.Option.{option_copied}
use Rattle.co_core_plans.proofs.Named.{arguments_found, both_hold, first_fails}
use Rattle.co_core_plans.proofs.calls.takes_arguments.Goals as goal

pub returns-then-takes_storage_first : goal.returns-then-takes_storage_first
returns-then-takes_storage_first c =
    let u = c.args.scene.unit.now in
    both_hold _ _ _ _ (c.takes_storage_first.ensures u) c.after_this.ensures c.if-takes_storage_first.true
    ∙ sym (arguments_found u c.args.func c.in-Some.func.now (sym c.callee.ensures ∙ ap option_copied c.in-Some.is) c.args.scene.func.now c.args.args.now)

pub returns-else-takes_storage_first : goal.returns-else-takes_storage_first
returns-else-takes_storage_first c =
    let u = c.args.scene.unit.now in
    first_fails _ _ _ (c.takes_storage_first.ensures u) c.if-takes_storage_first.false
    ∙ sym (arguments_found u c.args.func c.in-Some.func.now (sym c.callee.ensures ∙ ap option_copied c.in-Some.is) c.args.scene.func.now c.args.args.now)
