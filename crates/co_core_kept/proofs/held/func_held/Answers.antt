use Rattle.std.proofs.Common.{◌∙◌, ap, refl, true}
use Rattle.co_core_acts.specs.Fulls.{acts_in}
use Rattle.co_core_acts.specs.Visits.{back}
use Rattle.co_core_acts.specs.declared.stmts.Order.TheVariants as order
use Rattle.co_core_kept.specs.declared.held.Keeping.{Keeping}
use Rattle.co_core_kept.specs.Kept.{kept_after}
use Rattle.co_core_kept.proofs.Loops.{and_else, and_then}
use Rattle.co_core_kept.proofs.Matching.{held_is}
use Rattle.co_core_kept.proofs.held.func_held.Goals as goal

pub returns-then-keeping : goal.returns-then-keeping
returns-then-keeping c = λ small.
    let s : Keeping = record { scene = c.args.scene; holders = c.holders_of.result; left = c.len.result; fits = true } in
    and_then _ _ _ c.if-keeping.true
    (held_is s _ _ c.len.ensures refl c.holders_of.ensures small (c.visit_func.ensures.visited ∙ ap (λ fs. back kept_after s (acts_in fs order.Evaluation c.args.scene.func.now)) c.as_slice.ensures) c.last_kept.ensures)

pub returns-else-keeping : goal.returns-else-keeping
returns-else-keeping c = λ small.
    let s : Keeping = record { scene = c.args.scene; holders = c.holders_of.result; left = c.len.result; fits = true } in
    and_else _ _ _ c.if-keeping.false
    (held_is s _ _ c.len.ensures refl c.holders_of.ensures small (c.visit_func.ensures.visited ∙ ap (λ fs. back kept_after s (acts_in fs order.Evaluation c.args.scene.func.now)) c.as_slice.ensures) refl)
