use Rattle.std.proofs.Common.{◌∙◌, ap}
use Rattle.co_core_acts.specs.Fulls.{acts_in}
use Rattle.co_core_acts.specs.Visits.{back}
use Rattle.co_core_acts.specs.declared.stmts.Order.TheVariants as order
use Rattle.co_core_kept.specs.Marked.{marked_after}
use Rattle.co_core_kept.proofs.Marking.{func_marks}
use Rattle.co_core_kept.proofs.holders.holders_of.Goals as goal

pub returns : goal.returns
returns c = λ k below.
    let s = c.none-holders.result in
    let func = c.args.scene.func.now in
    func_marks c.args.scene.unit.now func s _ _ k c.none-holders.ensures.size (c.none-holders.ensures.none k)
    (c.visit_func.ensures.visited ∙ ap (λ fs. back marked_after s (acts_in fs order.Text func)) c.as_slice.ensures) c.mark_plan.ensures below
