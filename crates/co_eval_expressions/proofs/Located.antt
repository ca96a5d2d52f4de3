-- Where the expressions stand that have their place in a plan.
use Rattle.std.specs.Prelude.{◌≡◌}
use Rattle.std.proofs.Common.{refl}
use Rattle.co_core_tree.specs.declared.exprs.AwaitPlan.{AwaitPlan}
use Rattle.co_core_tree.specs.declared.exprs.CoreExpr.TheVariants as expr
use Rattle.co_core_tree.specs.declared.exprs.CoreExpr.TheBlock.{shape-the_row-AwaitPlan-3, hidden-the_row-AwaitPlan-3, shown-the_row-AwaitPlan-3, shape-the_row-NewPlan-5, hidden-the_row-NewPlan-5, shown-the_row-NewPlan-5, shape-the_row-DeletePlan-6, hidden-the_row-DeletePlan-6, shown-the_row-DeletePlan-6}
use Rattle.co_core_tree.specs.declared.exprs.DeletePlan.{DeletePlan}
use Rattle.co_core_tree.specs.declared.exprs.NewPlan.{NewPlan}
use Rattle.co_meaning.specs.Expressions.{span_of}

pub await : (plan : AwaitPlan) → span_of (expr.Await plan) ≡ plan.span
unfolding shape-the_row-AwaitPlan-3 hidden-the_row-AwaitPlan-3 shown-the_row-AwaitPlan-3 denote.Hole.Carrier.hidden
await plan = refl

pub new : (plan : NewPlan) → span_of (expr.New plan) ≡ plan.span
unfolding shape-the_row-NewPlan-5 hidden-the_row-NewPlan-5 shown-the_row-NewPlan-5 denote.Hole.Carrier.hidden
new plan = refl

pub delete : (plan : DeletePlan) → span_of (expr.Delete plan) ≡ plan.span
unfolding shape-the_row-DeletePlan-6 hidden-the_row-DeletePlan-6 shown-the_row-DeletePlan-6 denote.Hole.Carrier.hidden
delete plan = refl

pub ruleset planned = (await, new, delete)
