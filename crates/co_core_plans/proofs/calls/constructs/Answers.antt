use Rattle.std.proofs.Common.{◌∙◌, ap, sym}
use Rattle.std.specs.Option.{option_copied}
use Rattle.co_core_plans.proofs.Named.{both_hold, constructs_found, first_fails}
use Rattle.co_core_plans.proofs.calls.constructs.Goals as goal

pub returns-then-constructs_class : goal.returns-then-constructs_class
returns-then-constructs_class c =
    let u = c.args.scene.unit.now in
    both_hold _ _ _ _ (c.constructs_class.ensures u) c.after_this.ensures c.if-constructs_class.true
    ∙ sym (constructs_found u c.args.ctor c.in-Some.func.now (sym c.callee.ensures ∙ ap option_copied c.in-Some.is) c.args.scene.func.now c.args.class c.args.args.now)

pub returns-else-constructs_class : goal.returns-else-constructs_class
returns-else-constructs_class c =
    let u = c.args.scene.unit.now in
    first_fails _ _ _ (c.constructs_class.ensures u) c.if-constructs_class.false
    ∙ sym (constructs_found u c.args.ctor c.in-Some.func.now (sym c.callee.ensures ∙ ap option_copied c.in-Some.is) c.args.scene.func.now c.args.class c.args.args.now)
