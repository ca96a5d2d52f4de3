-- The functions that a coroutine's plan names, where they are there.
use Rattle.std.specs.Prelude.{◌≡◌, ◌<◌, ◌≤◌, ◌==◌, Bool, false, true, ◌&&◌, List, [], ◌∷◌, length, Some}
use Rattle.std.proofs.Math.Dec.{eqb-suc-zero}
use Rattle.std.proofs.Common.{refl, ◌∙◌, ap, sym, arith, get_or}
use Rattle.co_base.specs.declared.ids.ClassId.{ClassId}
use Rattle.co_base.specs.declared.ids.FuncId.{FuncId}
use Rattle.co_base.specs.declared.ids.SlotId.{SlotId}
use Rattle.co_core_tree.specs.declared.exprs.Init.{Init}
use Rattle.co_core_tree.specs.declared.units.CoreFunc.{CoreFunc}
use Rattle.co_core_tree.specs.declared.units.PromisePlan.{PromisePlan}
use Rattle.co_core_tree.specs.declared.units.UnitParts.{UnitParts}
use Rattle.co_core_typing.specs.Rules.{arguments_typed}
use Rattle.co_core_typing.specs.Tables.{after_first, is_plain, param_types, param_types_of, slot_type, types_of}
use Rattle.co_core.specs.Plans.{callee, constructor_fits, coroutine_take, failure_fits, give_fits, gives_address, is_constructor, is_constructor_role, is_promise_call, is_promise_reference, is_size_type, plan_calls, takes_nothing, takes_promise, takes_size_first, takes_storage}
use Rattle.co_core_plans.specs.Calls.{calls_on, constructs_with, makes_with, takes_first}

pub both_hold : (p q p' q' : Bool) → p ≡ p' → q ≡ q' → p ≡ true → q ≡ (p' && q')
both_hold p q p' q' ep eq tp = eq ∙ ap (λ b. b && q') (sym tp ∙ ep)

pub first_fails : (p p' q' : Bool) → p ≡ p' → p ≡ false → p ≡ (p' && q')
first_fails p p' q' ep fp = fp ∙ ap (λ b. b && q') (sym fp ∙ ep)

module _ (u : UnitParts) (func : CoreFunc) where
  pub size_first : (params : List SlotId) (d : SlotId) (res : Bool) → 1 ≤ length params → res ≡ is_size_type u (slot_type func (get_or params 0 d)) → res ≡ takes_size_first u (types_of func params)
  size_first [] d res some made = absurd (omega (arith, some))
  size_first (x ∷ params) d res some made = made

  pub promise_alone : (class : ClassId) (params : List SlotId) (d : SlotId) (res : Bool) → 1 ≤ length params → length params < 2 → res ≡ is_promise_reference u class (slot_type func (get_or params 0 d)) → res ≡ takes_promise u class (types_of func params)
  promise_alone class [] d res some few made = absurd (omega (arith, some))
  promise_alone class (x ∷ []) d res some few made = made
  promise_alone class (x ∷ y ∷ params) d res some few made = absurd (omega (arith, few))

  pub promise_of_many : (class : ClassId) (params : List SlotId) → 2 ≤ length params → false ≡ takes_promise u class (types_of func params)
  promise_of_many class [] some = absurd (omega (arith, some))
  promise_of_many class (x ∷ []) some = absurd (omega (arith, some))
  promise_of_many class (x ∷ y ∷ params) some = refl

  pub none_taken : (params : List SlotId) → (length params == 0) ≡ takes_nothing u (types_of func params)
  none_taken [] = refl
  none_taken (x ∷ params) = eqb-suc-zero (length params)

module _ (unit : UnitParts) (f : FuncId) (found : CoreFunc) (is : callee unit f ≡ Some found) where
  pub promise_found : (class : ClassId) → is_promise_call unit class f ≡ (is_plain (Some found) && takes_promise unit class (param_types found))
  promise_found class = ap (λ o. is_plain o && takes_promise unit class (param_types_of o)) is

  pub nothing_found : (is_plain (callee unit f) && takes_nothing unit (param_types_of (callee unit f))) ≡ (is_plain (Some found) && takes_nothing unit (param_types found))
  nothing_found = ap (λ o. is_plain o && takes_nothing unit (param_types_of o)) is

  pub constructs_found : (func : CoreFunc) (class : ClassId) (args : List Init) → constructs_with unit func class f args ≡ (is_constructor_role unit class found.role && arguments_typed unit func [] (after_first (param_types found)) args)
  constructs_found func class args = ap (λ o. is_constructor unit class o && arguments_typed unit func [] (after_first (param_types_of o)) args) is

  pub arguments_found : (func : CoreFunc) (args : List Init) → (takes_storage unit false f && arguments_typed unit func [] (after_first (param_types_of (callee unit f))) args) ≡ (takes_first unit found && arguments_typed unit func [] (after_first (param_types found)) args)
  arguments_found func args = ap (λ o. (is_plain o && (gives_address unit o && takes_size_first unit (param_types_of o))) && arguments_typed unit func [] (after_first (param_types_of o)) args) is

regroup : (a b c d e : Bool) → ((a && (b && (c && d))) && e) ≡ (a && (b && (c && (d && e))))
regroup false b c d e = refl
regroup true false c d e = refl
regroup true true false d e = refl
regroup true true true d e = refl

pub plan_split : (unit : UnitParts) (func : CoreFunc) (plan : PromisePlan) → (makes_with unit func plan && calls_on unit func plan) ≡ plan_calls unit func (Some plan)
plan_split unit func plan =
    regroup (coroutine_take unit func plan.take plan.take_args) (constructor_fits unit func plan.promise plan.ctor plan.with_params plan.ctor_args) (failure_fits unit func plan.on_null) (give_fits unit plan.give) (calls_on unit func plan)
