-- The parts of a coroutine's plan that name functions.
use Rattle.std.specs.Prelude.{Bool, true, false, ◌&&◌, ◌==◌, List, [], length, Some}
use Rattle.co_base.specs.declared.ids.ClassId.{ClassId}
use Rattle.co_base.specs.declared.ids.FuncId.{FuncId}
use Rattle.co_core_tree.specs.declared.exprs.Init.{Init}
use Rattle.co_core_tree.specs.declared.units.CoreFunc.{CoreFunc}
use Rattle.co_core_tree.specs.declared.units.PromisePlan.{PromisePlan}
use Rattle.co_core_tree.specs.declared.units.UnitParts.{UnitParts}
use Rattle.co_core_typing.specs.Rules.{arguments_typed}
use Rattle.co_core_typing.specs.Tables.{after_first, is_plain, param_types, param_types_of}
use Rattle.co_core.specs.Plans.{callee, constructor_fits, coroutine_take, failure_fits, give_fits, gives_type, is_address_type, is_constructor, is_promise_call, returns_fit, takes_size_first, unhandled_fits}

module _ (unit : UnitParts) (func : CoreFunc) where
  abbrev pub constructs_with : ClassId → FuncId → List Init → Bool
  constructs_with class f args = is_constructor unit class (callee unit f) && arguments_typed unit func [] (after_first (param_types_of (callee unit f))) args

  -- what makes and releases the storage and the promise
  abbrev pub makes_with : PromisePlan → Bool
  makes_with plan =
      coroutine_take unit func plan.take plan.take_args && (constructor_fits unit func plan.promise plan.ctor plan.with_params plan.ctor_args && (failure_fits unit func plan.on_null && give_fits unit plan.give))

  -- the functions of the promise
  abbrev pub calls_on : PromisePlan → Bool
  calls_on plan =
      is_promise_call unit plan.promise plan.result && (gives_type unit func.result (callee unit plan.result) && (returns_fit unit func plan.promise plan.returns && unhandled_fits unit func plan.promise plan.unhandled))

-- an `operator new` that takes the number of bytes first
abbrev pub takes_first : UnitParts → CoreFunc → Bool
takes_first unit func = is_plain (Some func) && (is_address_type unit func.result && takes_size_first unit (param_types func))

-- all parameters or none
abbrev pub count_fits : CoreFunc → Bool → List Init → Bool
count_fits func true inits = length inits == length func.params
count_fits func false inits = length inits == 0
