-- What the rules come to at each form that they name.
use Rattle.std.specs.Prelude.{◌≡◌, ◌&&◌, List}
use Rattle.std.proofs.Common.{refl}
use Rattle.co_types.specs.Types.{head_of}
use Rattle.co_core_tree.specs.declared.exprs.CoreExpr.{CoreExpr}
use Rattle.co_core_tree.specs.declared.exprs.CoreExpr.TheVariants as expr
use Rattle.co_core_tree.specs.declared.exprs.CoreExpr.TheBlock.{shape-the_row-NewPlan-5, hidden-the_row-NewPlan-5, shown-the_row-NewPlan-5, shape-the_row-DeletePlan-6, hidden-the_row-DeletePlan-6, shown-the_row-DeletePlan-6}
use Rattle.co_core_tree.specs.declared.exprs.NewPlan.{NewPlan}
use Rattle.co_core_tree.specs.declared.exprs.DeletePlan.{DeletePlan}
use Rattle.co_core_tree.specs.declared.units.UnitParts.{UnitParts}
use Rattle.co_core.specs.Plans.{ends_object, expr_final, expr_gives_noexcept, expr_other, give_fits, give_noexcept, give_other, is_other_if, new_take, null_fits, take_noexcept, take_other}
use Rattle.co_core_plans.specs.Rules.{expr_functions}

module _ (unit : UnitParts) where
  pub releases_new : (p : NewPlan) → expr_gives_noexcept unit (expr.New p) ≡ give_noexcept unit p.give
  unfolding shape-the_row-NewPlan-5 hidden-the_row-NewPlan-5 shown-the_row-NewPlan-5 denote.Hole.Carrier.hidden
  releases_new p = refl

  pub releases_delete : (p : DeletePlan) → expr_gives_noexcept unit (expr.Delete p) ≡ give_noexcept unit p.give
  unfolding shape-the_row-DeletePlan-6 hidden-the_row-DeletePlan-6 shown-the_row-DeletePlan-6 denote.Hole.Carrier.hidden
  releases_delete p = refl

  pub final_new : (p : NewPlan) → expr_final unit (expr.New p) ≡ take_noexcept unit p.take
  unfolding shape-the_row-NewPlan-5 hidden-the_row-NewPlan-5 shown-the_row-NewPlan-5 denote.Hole.Carrier.hidden
  final_new p = refl

  pub other_new : (p : NewPlan) → expr_other unit (expr.New p) ≡ (take_other unit p.take && give_other unit p.give)
  unfolding shape-the_row-NewPlan-5 hidden-the_row-NewPlan-5 shown-the_row-NewPlan-5 denote.Hole.Carrier.hidden
  other_new p = refl

  pub other_delete : (p : DeletePlan) → expr_other unit (expr.Delete p) ≡ (is_other_if unit p.destroy && give_other unit p.give)
  unfolding shape-the_row-DeletePlan-6 hidden-the_row-DeletePlan-6 shown-the_row-DeletePlan-6 denote.Hole.Carrier.hidden
  other_delete p = refl

  pub functions_new : (p : NewPlan) → expr_functions unit (expr.New p) ≡ (new_take unit p.take && (null_fits unit p.may_be_null p.take && give_fits unit p.give))
  unfolding shape-the_row-NewPlan-5 hidden-the_row-NewPlan-5 shown-the_row-NewPlan-5 denote.Hole.Carrier.hidden
  functions_new p = refl

  pub functions_delete : (p : DeletePlan) → expr_functions unit (expr.Delete p) ≡ (ends_object unit (head_of p.of) p.destroy && give_fits unit p.give)
  unfolding shape-the_row-DeletePlan-6 hidden-the_row-DeletePlan-6 shown-the_row-DeletePlan-6 denote.Hole.Carrier.hidden
  functions_delete p = refl

pub ruleset opened = (releases_new, releases_delete, final_new, other_new, other_delete, functions_new, functions_delete)
