-- Tests of all acts of a list.
use Rattle.std.specs.Prelude.{◌≡◌, Bool, true, false, not, ◌&&◌, ◌||◌, List, [], ◌∷◌}
use Rattle.std.specs.List.{list_all, list_any}
use Rattle.std.proofs.Common.{refl, ap, sym, ◌∙◌}
use Rattle.co_core_tree.specs.declared.exprs.CoreExpr.{CoreExpr, end_of-NewPlan, more_of-NewPlan}
use Rattle.co_core_tree.specs.declared.exprs.CoreExpr.TheVariants as expr
use Rattle.co_core_tree.specs.declared.units.UnitParts.{UnitParts}
use Rattle.co_core_tree.specs.Acts.{Act, Does, Keeps, Passes, Starts, suspends}
use Rattle.co_core_tree.specs.Slots.{init_acts_of}
use Rattle.co_core.specs.Plans.{act_storage, expr_storage, give_fits, new_take, null_fits}
use Rattle.co_core_acts.specs.declared.visitor.Awaits.{Awaits}
use Rattle.co_core_acts.specs.Visits.{awaits_in_new, awaits_of, back, expr_awaits_in_new}
use Rattle.co_core_plans.specs.declared.rules.Every.{Every}
use Rattle.co_core_plans.specs.declared.rules.Rule.TheVariants as rule
use Rattle.co_core_plans.specs.Every.{every_after}
use Rattle.co_core_plans.specs.Rules.{act_functions, expr_functions, follows}

and_true : (b : Bool) → (b && true) ≡ b
and_true true = refl
and_true false = refl

-- one more test in front
and_front : (h p q : Bool) → ((h && q) && p) ≡ (h && (p && q))
and_front false p q = refl
and_front true true true = refl
and_front true true false = refl
and_front true false true = refl
and_front true false false = refl

pub every_back : (v : Every) (acts : List Act) → back every_after v acts ≡ record v { holds = v.holds && list_all (follows v.unit.now v.rule) acts }
every_back v [] = ap (λ (b : Bool). record v { holds = b }) (sym (and_true v.holds))
every_back v (a ∷ acts) =
    ap (λ (w : Every). every_after w a) (every_back v acts) ∙ ap (λ (b : Bool). record v { holds = b }) (and_front v.holds (follows v.unit.now v.rule a) (list_all (follows v.unit.now v.rule) acts))

and_not : (p q s t : Bool) → ((not s && p) && (q && not t)) ≡ ((p && q) && not (s || t))
and_not true true true t = refl
and_not true true false t = refl
and_not true false true t = refl
and_not true false false t = refl
and_not false q true t = refl
and_not false q false t = refl

module _ (unit : UnitParts) where
  split_expr : (e : CoreExpr) → expr_storage unit e ≡ (not (expr_awaits_in_new unit.funcs e) && expr_functions unit e)
  split_expr (expr.New' n (more_of-NewPlan of take may_be_null i give span end_of-NewPlan)) = refl
  split_expr e = refl

  split_act : (a : Act) → act_storage unit a ≡ (not (awaits_in_new unit.funcs a) && act_functions unit a)
  split_act (Does c e) = split_expr e
  split_act (Passes e) = refl
  split_act (Starts i) = refl
  split_act (Keeps part) = refl

  pub split_storage : (acts : List Act) → list_all (act_storage unit) acts ≡ (list_all (act_functions unit) acts && not (list_any (awaits_in_new unit.funcs) acts))
  split_storage [] = refl
  split_storage (a ∷ acts) =
      ap (λ b. b && list_all (act_storage unit) acts) (split_act a)
      ∙ ap (λ b. (not (awaits_in_new unit.funcs a) && act_functions unit a) && b) (split_storage acts)
      ∙ and_not (act_functions unit a) (list_all (act_functions unit) acts) (awaits_in_new unit.funcs a) (list_any (awaits_in_new unit.funcs) acts)

-- what is left of a test of all acts that began with true
pub every_holds : (v w : Every) (acts : List Act) → w ≡ back every_after v acts → v.holds ≡ true → w.holds ≡ list_all (follows v.unit.now v.rule) acts
every_holds v w acts m t = ap (λ (x : Every). x.holds) (m ∙ every_back v acts) ∙ ap (λ b. b && list_all (follows v.unit.now v.rule) acts) t

-- all acts of a function fit the storage rule
pub storage_holds : (unit : UnitParts) (v w : Every) (acts : List Act) (a : Awaits) → w ≡ back every_after v acts → v.holds ≡ true → v.unit.now ≡ unit → v.rule ≡ rule.Storage → a ≡ awaits_of unit.funcs acts →
    (w.holds && not a.in_new) ≡ list_all (act_storage unit) acts
storage_holds unit v w acts a m t u r e =
    ap (λ b. b && not a.in_new) (every_holds v w acts m t ∙ ap (λ x. list_all (follows x v.rule) acts) u ∙ ap (λ x. list_all (follows unit x) acts) r)
    ∙ ap (λ (x : Awaits). list_all (act_functions unit) acts && not x.in_new) e
    ∙ sym (split_storage unit acts)
