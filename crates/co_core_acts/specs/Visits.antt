-- What a visit of all acts comes to, from the last act to the first.
use Rattle.std.specs.Prelude.{Bool, false, ◌||◌, List, [], ◌∷◌, ◌++◌}
use Rattle.std.specs.List.{list_any}
use Rattle.co_core_tree.specs.declared.exprs.CoreExpr.{CoreExpr, end_of-NewPlan, more_of-NewPlan}
use Rattle.co_core_tree.specs.declared.exprs.CoreExpr.TheVariants as expr
use Rattle.co_core_tree.specs.declared.exprs.Init.{Init}
use Rattle.co_core_tree.specs.declared.exprs.AwaitPlan.{AwaitPlan}
use Rattle.co_core_tree.specs.declared.units.CoreFunc.{CoreFunc}
use Rattle.co_core_tree.specs.Acts.{OfExpr, OfInit, Act, Does, Passes, Starts, Keeps, acts, first, init_acts, kept, kept_unless, others, suspends}
use Rattle.co_core_tree.specs.Slots.{class_params, init_acts_of}
use Rattle.co_core_acts.specs.declared.visitor.Awaits.{Awaits}

-- what a visitor is after these acts, each before those that follow it
abbrev pub back : {V : Type 0} → (V → Act → V) → V → List Act → V
back after v [] = v
back after v (act ∷ acts) = after (back after v acts) act

module _ (funcs : List CoreFunc) where
  abbrev pub expr_awaits_in_new : CoreExpr → Bool
  expr_awaits_in_new (expr.New' n (more_of-NewPlan of take may_be_null i give span end_of-NewPlan)) = suspends (init_acts_of funcs i)
  expr_awaits_in_new e = false

  -- whether an await is in the initializer of a `New` whose act this is
  abbrev pub awaits_in_new : Act → Bool
  awaits_in_new (Does conditional e) = expr_awaits_in_new e
  awaits_in_new (Passes e) = false
  awaits_in_new (Starts i) = false
  awaits_in_new (Keeps part) = false

  -- which awaits are among these acts
  abbrev pub awaits_of : List Act → Awaits
  awaits_of acts = record { any = suspends acts; in_new = list_any awaits_in_new acts }

  -- ---- the acts of the parts of a form, as lists

  abbrev pub operands_acts : Bool → List CoreExpr → List Act
  operands_acts c [] = []
  operands_acts c (e ∷ rest) = acts (class_params funcs) c false e ++ kept (OfExpr e) (operands_acts c rest)

  abbrev pub inits_acts : Bool → List Init → List Act
  inits_acts c [] = []
  inits_acts c (i ∷ rest) = init_acts (class_params funcs) c false i ++ inits_acts c rest

  abbrev pub arguments_acts : List Bool → Bool → List Init → List Act
  arguments_acts flags c [] = []
  arguments_acts flags c (i ∷ rest) = init_acts (class_params funcs) c (first flags) i ++ kept_unless (first flags) (OfInit i) (arguments_acts (others flags) c rest)

  abbrev pub plan_acts : Bool → AwaitPlan → List Act
  plan_acts c plan =
      acts (class_params funcs) c false plan.operand ++ (acts (class_params funcs) c false plan.ready ++ (acts (class_params funcs) c false plan.suspend ++ acts (class_params funcs) c false plan.resume))

-- what is known of the acts before and behind one another
abbrev pub joined : Awaits → Awaits → Awaits
joined a b = record { any = a.any || b.any; in_new = a.in_new || b.in_new }
