-- The rules on each act.
use Rattle.std.specs.Prelude.{Bool, true, false, ◌&&◌}
use Rattle.co_types.specs.Types.{head_of}
use Rattle.co_core_tree.specs.declared.kinds.HandleOp.{HandleOp}
use Rattle.co_core_tree.specs.declared.kinds.HandleOp.TheVariants as handle
use Rattle.co_core_tree.specs.declared.exprs.CoreExpr.{CoreExpr, end_of-DeletePlan, end_of-NewPlan, more_of-DeletePlan, more_of-NewPlan}
use Rattle.co_core_tree.specs.declared.exprs.CoreExpr.TheVariants as expr
use Rattle.co_core_tree.specs.declared.units.UnitParts.{UnitParts}
use Rattle.co_core_tree.specs.Acts.{Act, Does, Keeps, Passes, Starts}
use Rattle.co_core.specs.Plans.{act_final, act_gives_noexcept, act_other, ends_object, give_fits, new_take, null_fits}
use Rattle.co_core_plans.specs.declared.rules.Rule.{Rule}
use Rattle.co_core_plans.specs.declared.rules.Rule.TheVariants as rule

abbrev pub is_resume : HandleOp → Bool
is_resume handle.Resume = true
is_resume op = false

module _ (unit : UnitParts) where
  -- the functions that a `New` or a `Delete` names fit their places
  abbrev pub expr_functions : CoreExpr → Bool
  expr_functions (expr.New' n (more_of-NewPlan of take may_be_null i give span end_of-NewPlan)) = new_take unit take && (null_fits unit may_be_null take && give_fits unit give)
  expr_functions (expr.Delete' n (more_of-DeletePlan of pointer destroy give span end_of-DeletePlan)) = ends_object unit (head_of of) destroy && give_fits unit give
  expr_functions e = true

  abbrev pub act_functions : Act → Bool
  act_functions (Does conditional e) = expr_functions e
  act_functions (Passes e) = true
  act_functions (Starts i) = true
  act_functions (Keeps part) = true

  abbrev pub follows : Rule → Act → Bool
  follows rule.Releases a = act_gives_noexcept unit a
  follows rule.Final a = act_final unit a
  follows rule.Other a = act_other unit a
  follows rule.Storage a = act_functions a
