-- The parameters of functions, and the functions that plans name.
use Rattle.std.specs.Prelude.{ℕ, Bool, true, false, not, ◌||◌, ◌&&◌, ◌==◌, ◌+◌, List, [], ◌∷◌, length, Option, None, Some, slice_get, is_some}
use Rattle.std.specs.List.{list_all}
use Rattle.co_base.specs.declared.kinds.Num.TheVariants as num
use Rattle.co_base.specs.declared.ids.ClassId.{ClassId}
use Rattle.co_base.specs.declared.ids.FuncId.{FuncId}
use Rattle.co_base.specs.declared.ids.SlotId.{SlotId}
use Rattle.co_types.specs.declared.types.CoType.{CoType}
use Rattle.co_types.specs.declared.types.Head.{Head}
use Rattle.co_types.specs.declared.types.Head.TheVariants as head
use Rattle.co_types.specs.declared.classes.ClassInfo.{ClassInfo}
use Rattle.co_types.specs.declared.classes.FuncInfo.{FuncInfo}
use Rattle.co_types.specs.Types.{head_of, target_of, same_head, same_type}
use Rattle.co_core_tree.specs.declared.kinds.SlotKind.{SlotKind}
use Rattle.co_core_tree.specs.declared.kinds.TakePlan.{TakePlan}
use Rattle.co_core_tree.specs.declared.kinds.TakePlan.TheVariants as take
use Rattle.co_core_tree.specs.declared.kinds.GivePlan.{GivePlan}
use Rattle.co_core_tree.specs.declared.kinds.GivePlan.TheVariants as give
use Rattle.co_core_tree.specs.declared.kinds.HandleOp.TheVariants as handle
use Rattle.co_core_tree.specs.declared.kinds.Returns.{Returns}
use Rattle.co_core_tree.specs.declared.kinds.Returns.TheVariants as returns
use Rattle.co_core_tree.specs.declared.exprs.CoreExpr.{CoreExpr, end_of-NewPlan, more_of-NewPlan, end_of-DeletePlan, more_of-DeletePlan}
use Rattle.co_core_tree.specs.declared.exprs.CoreExpr.TheVariants as expr
use Rattle.co_core_tree.specs.declared.exprs.Init.{Init}
use Rattle.co_core_tree.specs.declared.exprs.Init.TheVariants as init
use Rattle.co_core_tree.specs.declared.units.SlotInfo.{SlotInfo}
use Rattle.co_core_tree.specs.declared.units.FuncRole.{FuncRole}
use Rattle.co_core_tree.specs.declared.units.FuncRole.TheVariants as role
use Rattle.co_core_tree.specs.declared.units.CopyPlan.{CopyPlan}
use Rattle.co_core_tree.specs.declared.units.PromisePlan.{PromisePlan}
use Rattle.co_core_tree.specs.declared.units.CoreFunc.{CoreFunc}
use Rattle.co_core_tree.specs.declared.units.UnitParts.{UnitParts}
use Rattle.co_core_tree.specs.Acts.{Act, Does, Passes, Starts, Keeps, suspends}
use Rattle.co_core_tree.specs.Sizes.{dtor_of}
use Rattle.co_core_tree.specs.Slots.{init_acts_of, slot_at}
use Rattle.co_core_typing.specs.Gives.{is_void}
use Rattle.co_core_typing.specs.Tables.{after_first, is_class_target, is_plain, param_types_of, slot_type}
use Rattle.co_core.specs.Bodies.{await_acts, body_of, func_acts, inits_fulls, joined_acts, placed_fulls}
use Rattle.co_core.specs.Scopes.{distinct, is_copy, is_param, is_promise, slot_is}
use Rattle.co_core_typing.specs.Rules.{arguments_typed}
use Rattle.co_core.specs.Typed.{is_class_head}

-- ---- parameters

abbrev pub count_kind : (SlotKind → Bool) → List SlotInfo → ℕ
count_kind test [] = 0
count_kind test (slot ∷ slots) = (if_counts (test slot.kind)) + count_kind test slots
  where
    if_counts : Bool → ℕ
    if_counts true = 1
    if_counts false = 0

module _ (func : CoreFunc) where
  abbrev pub is_param_slot : SlotId → Bool
  is_param_slot slot = slot_is is_param (slot_at func slot)

  -- the parameters' slots are those of kind Param, each once
  abbrev pub lists_params : Bool
  lists_params = list_all is_param_slot func.params && (distinct func.params && (length func.params == count_kind is_param func.slots))

  -- a copy has the type of the parameter that it copies [dcl.fct.def.coroutine]
  abbrev pub copies_params : List SlotId → List CopyPlan → Bool
  copies_params [] [] = true
  copies_params (param ∷ params) (copy ∷ copies) =
      (copy.from.0 == param.0) && (slot_is is_copy (slot_at func copy.to) && (same_type (slot_type func copy.to) (slot_type func param) && copies_params params copies))
  copies_params params copies = false

  abbrev pub copies_to : List CopyPlan → List SlotId
  copies_to [] = []
  copies_to (copy ∷ copies) = copy.to ∷ copies_to copies

  abbrev pub has_promise : ClassId → List SlotInfo → Bool
  has_promise class [] = false
  has_promise class (slot ∷ slots) = (is_promise slot.kind && same_head (head_of slot.of) (head.Class class)) || has_promise class slots

  abbrev pub names_no_param_at : CoreExpr → Bool
  names_no_param_at (expr.Slot slot at) = not (is_param_slot slot)
  names_no_param_at e = true

  abbrev pub act_names_no_param : Act → Bool
  act_names_no_param (Does conditional e) = names_no_param_at e
  act_names_no_param (Passes e) = true
  act_names_no_param (Starts i) = true
  act_names_no_param (Keeps part) = true

module _ (funcs : List CoreFunc) (func : CoreFunc) where
  -- Without a plan there is no promise and no copy. With one there is one promise, of the plan's class, and one copy of each
  -- parameter; the promise's constructor, the body and the initial and the final await name the copies in place of the parameters
  -- [dcl.fct.def.coroutine].
  abbrev pub plan_params : Option PromisePlan → Bool
  plan_params None = (count_kind is_promise func.slots == 0) && (count_kind is_copy func.slots == 0)
  plan_params (Some plan) =
      (count_kind is_promise func.slots == 1) && (has_promise func plan.promise func.slots && (copies_params func func.params plan.copies &&
      (distinct (copies_to func plan.copies) && ((length plan.copies == count_kind is_copy func.slots) &&
      (list_all (act_names_no_param func) (joined_acts funcs (inits_fulls funcs plan.ctor_args)) && (list_all (act_names_no_param func) (await_acts funcs plan.initial) && (list_all (act_names_no_param func) (await_acts funcs plan.last) &&
      list_all (act_names_no_param func) (joined_acts funcs (placed_fulls funcs (body_of func))))))))))

  abbrev pub func_params : Bool
  func_params = lists_params func && plan_params func.plan

abbrev pub params_listed : UnitParts → Bool
params_listed unit = list_all (func_params unit.funcs) unit.funcs

-- ---- functions that plans name

module _ (unit : UnitParts) where
  abbrev pub callee : FuncId → Option CoreFunc
  callee f = slice_get unit.funcs f.0

  abbrev pub result_of : Option CoreFunc → Head
  result_of None = head.Void
  result_of (Some func) = head_of func.result

  abbrev pub gives_type : CoType → Option CoreFunc → Bool
  gives_type of None = false
  gives_type of (Some func) = same_type func.result of

  abbrev pub is_noexcept : Option CoreFunc → Bool
  is_noexcept None = false
  is_noexcept (Some func) = func.noexcept

  abbrev pub is_address_type : CoType → Bool
  is_address_type of = same_head (head_of of) head.Pointer && targets_void (target_of of)
    where
      targets_void : Option CoType → Bool
      targets_void None = false
      targets_void (Some to) = is_void (head_of to)

  abbrev pub is_size_type : CoType → Bool
  is_size_type of = same_head (head_of of) (head.Num num.Size)

  abbrev pub gives_address : Option CoreFunc → Bool
  gives_address None = false
  gives_address (Some func) = is_address_type func.result

  abbrev pub takes_size_first : List CoType → Bool
  takes_size_first [] = false
  takes_size_first (first ∷ rest) = is_size_type first

  abbrev pub takes_size_alone : List CoType → Bool
  takes_size_alone (first ∷ []) = is_size_type first
  takes_size_alone types = false

  abbrev pub takes_address_alone : List CoType → Bool
  takes_address_alone (first ∷ []) = is_address_type first
  takes_address_alone types = false

  abbrev pub takes_address_and_size : List CoType → Bool
  takes_address_and_size (first ∷ second ∷ []) = is_address_type first && is_size_type second
  takes_address_and_size types = false

  -- an `operator new` takes the number of bytes, and then what the plan gives it, and gives a `void*` [basic.stc.dynamic]
  abbrev pub takes_storage : Bool → FuncId → Bool
  takes_storage alone f = is_plain (callee f) && (gives_address (callee f) && fits_size alone (param_types_of (callee f)))
    where
      fits_size : Bool → List CoType → Bool
      fits_size true types = takes_size_alone types
      fits_size false types = takes_size_first types

  -- an `operator delete` takes the pointer, and maybe the number of bytes [basic.stc.dynamic.deallocation]
  abbrev pub gives_storage : Bool → FuncId → Bool
  gives_storage alone f = is_plain (callee f) && (is_void (result_of (callee f)) && fits_pointer alone (param_types_of (callee f)))
    where
      fits_pointer : Bool → List CoType → Bool
      fits_pointer true types = takes_address_alone types
      fits_pointer false types = takes_address_and_size types

  abbrev pub give_fits : GivePlan → Bool
  give_fits give.Global = true
  give_fits (give.Own f) = gives_storage true f
  give_fits (give.OwnSized f) = gives_storage false f

  abbrev pub is_promise_reference : ClassId → CoType → Bool
  is_promise_reference class of = same_head (head_of of) head.Ref && is_class_target class (target_of of)

  -- a function of the promise takes it, or nothing where it is static
  abbrev pub takes_promise : ClassId → List CoType → Bool
  takes_promise class [] = true
  takes_promise class (first ∷ []) = is_promise_reference class first
  takes_promise class types = false

  abbrev pub is_promise_call : ClassId → FuncId → Bool
  is_promise_call class f = is_plain (callee f) && takes_promise class (param_types_of (callee f))

  abbrev pub takes_nothing : List CoType → Bool
  takes_nothing [] = true
  takes_nothing types = false

  abbrev pub is_constructor_role : ClassId → FuncRole → Bool
  is_constructor_role class (role.Ctor own members) = own.0 == class.0
  is_constructor_role class r = false

  abbrev pub is_constructor : ClassId → Option CoreFunc → Bool
  is_constructor class None = false
  is_constructor class (Some func) = is_constructor_role class func.role

  abbrev pub is_destructor_role : ClassId → FuncRole → Bool
  is_destructor_role class (role.Dtor own) = own.0 == class.0
  is_destructor_role class r = false

  abbrev pub is_destructor : ClassId → Option CoreFunc → Bool
  is_destructor class None = false
  is_destructor class (Some func) = is_destructor_role class func.role

  -- ---- the plan of a coroutine

  module _ (func : CoreFunc) where
    -- the parameters are given to an `operator new` that takes more than the number of bytes [dcl.fct.def.coroutine]
    abbrev pub coroutine_take : TakePlan → List Init → Bool
    coroutine_take take.Global [] = true
    coroutine_take (take.Own f) [] = takes_storage true f
    coroutine_take (take.OwnWith f) args = takes_storage false f && arguments_typed unit func [] (after_first (param_types_of (callee f))) args
    coroutine_take t args = false

    -- the promise's constructor is given all parameters or none [dcl.fct.def.coroutine]
    abbrev pub constructor_fits : ClassId → Option FuncId → Bool → List Init → Bool
    constructor_fits class None with_params args = false
    constructor_fits class (Some f) with_params args =
        is_constructor class (callee f) && (arguments_typed unit func [] (after_first (param_types_of (callee f))) args && count_fits with_params args)
      where
        count_fits : Bool → List Init → Bool
        count_fits true inits = length inits == length func.params
        count_fits false inits = length inits == 0

    abbrev pub failure_fits : Option FuncId → Bool
    failure_fits None = true
    failure_fits (Some f) = is_plain (callee f) && (takes_nothing (param_types_of (callee f)) && gives_type func.result (callee f))

    abbrev pub returns_fit : ClassId → Returns → Bool
    returns_fit class (returns.Void f) = is_promise_call class f
    returns_fit class r = true

    -- what `unhandled_exception` gives is dropped, and has no place to be made in
    abbrev pub unhandled_fits : ClassId → FuncId → Bool
    unhandled_fits class f = is_promise_call class f && not (is_class_head (result_of (callee f)))

    abbrev pub plan_calls : Option PromisePlan → Bool
    plan_calls None = true
    plan_calls (Some plan) =
        coroutine_take plan.take plan.take_args && (constructor_fits plan.promise plan.ctor plan.with_params plan.ctor_args && (failure_fits plan.on_null && (give_fits plan.give &&
        (is_promise_call plan.promise plan.result && (gives_type func.result (callee plan.result) && (returns_fit plan.promise plan.returns && unhandled_fits plan.promise plan.unhandled))))))

    abbrev pub func_plan_calls : Bool
    func_plan_calls = plan_calls func.plan

  -- Each function that a plan names has the parameters and the result that its place needs.
  abbrev pub plans_call : Bool
  plans_call = list_all func_plan_calls unit.funcs

  -- ---- `new` and `delete`

  abbrev pub new_take : TakePlan → Bool
  new_take take.Global = true
  new_take (take.Own f) = takes_storage true f
  new_take (take.OwnWith f) = false

  -- only a noexcept function of the class may give null [expr.new]
  abbrev pub null_fits : Bool → TakePlan → Bool
  null_fits may_be_null take.Global = not may_be_null
  null_fits may_be_null (take.Own f) = not may_be_null || is_noexcept (callee f)
  null_fits may_be_null (take.OwnWith f) = not may_be_null

  abbrev pub ends_by : Option FuncInfo → Option FuncId → Bool
  ends_by None None = true
  ends_by (Some info) (Some f) = info.id.0 == f.0
  ends_by info f = false

  abbrev pub ends_object : Head → Option FuncId → Bool
  ends_object (head.Class class) f = ends_by (dtor_of unit.classes class) f
  ends_object h None = true
  ends_object h (Some f) = false

  abbrev pub expr_storage : CoreExpr → Bool
  expr_storage (expr.New' n (more_of-NewPlan of take may_be_null i give span end_of-NewPlan)) =
      not (suspends (init_acts_of unit.funcs i)) && (new_take take && (null_fits may_be_null take && give_fits give))
  expr_storage (expr.Delete' n (more_of-DeletePlan of pointer destroy give span end_of-DeletePlan)) = ends_object (head_of of) destroy && give_fits give
  expr_storage e = true

  abbrev pub act_storage : Act → Bool
  act_storage (Does conditional e) = expr_storage e
  act_storage (Passes e) = true
  act_storage (Starts i) = true
  act_storage (Keeps part) = true

  abbrev pub func_storage : CoreFunc → Bool
  func_storage func = list_all act_storage (func_acts unit.funcs func)

  -- No `Await` stands in a `New`, and each function that a `New` or a `Delete` names has the parameters and the result that
  -- its place needs [expr.new] [expr.delete].
  abbrev pub storage_fits : Bool
  storage_fits = list_all func_storage unit.funcs

  -- ---- functions from which no exception comes

  abbrev pub give_noexcept : GivePlan → Bool
  give_noexcept give.Global = true
  give_noexcept (give.Own f) = is_noexcept (callee f)
  give_noexcept (give.OwnSized f) = is_noexcept (callee f)

  abbrev pub expr_gives_noexcept : CoreExpr → Bool
  expr_gives_noexcept (expr.New' n (more_of-NewPlan of take may_be_null i give span end_of-NewPlan)) = give_noexcept give
  expr_gives_noexcept (expr.Delete' n (more_of-DeletePlan of pointer destroy give span end_of-DeletePlan)) = give_noexcept give
  expr_gives_noexcept e = true

  abbrev pub act_gives_noexcept : Act → Bool
  act_gives_noexcept (Does conditional e) = expr_gives_noexcept e
  act_gives_noexcept (Passes e) = true
  act_gives_noexcept (Starts i) = true
  act_gives_noexcept (Keeps part) = true

  abbrev pub role_noexcept : FuncRole → Bool → Bool
  role_noexcept (role.Dtor class) noexcept = noexcept
  role_noexcept r noexcept = true

  abbrev pub plan_gives_noexcept : Option PromisePlan → Bool
  plan_gives_noexcept None = true
  plan_gives_noexcept (Some plan) = give_noexcept plan.give

  abbrev pub func_noexcept : CoreFunc → Bool
  func_noexcept func = role_noexcept func.role func.noexcept && (plan_gives_noexcept func.plan && list_all act_gives_noexcept (func_acts unit.funcs func))

  abbrev pub destroys : ClassId → Option FuncInfo → Bool
  destroys class None = true
  destroys class (Some info) = is_destructor class (callee info.id)

  abbrev pub classes_destroyed : ℕ → List ClassInfo → Bool
  classes_destroyed k [] = true
  classes_destroyed k (info ∷ infos) = destroys (record { 0 = k }) (dtor_of unit.classes (record { 0 = k })) && classes_destroyed (k + 1) infos

  -- The destructor of each class is a function that ends its objects; each destructor and each function that releases storage
  -- is noexcept [class.dtor] [basic.stc.dynamic.deallocation].
  abbrev pub ends_noexcept : Bool
  ends_noexcept = classes_destroyed 0 unit.classes && list_all func_noexcept unit.funcs

  -- ---- the final await

  abbrev pub take_noexcept : TakePlan → Bool
  take_noexcept take.Global = true
  take_noexcept (take.Own f) = is_noexcept (callee f)
  take_noexcept (take.OwnWith f) = is_noexcept (callee f)

  abbrev pub expr_final : CoreExpr → Bool
  expr_final (expr.Call' f n args at) = is_noexcept (callee f)
  expr_final (expr.Throw' of n e at) = false
  expr_final (expr.Rethrow at) = false
  expr_final (expr.RethrowPtr' n e at) = false
  expr_final (expr.Await' n plan) = false
  expr_final (expr.Handle' handle.Resume n operands at) = false
  expr_final (expr.New' n (more_of-NewPlan of take may_be_null i give span end_of-NewPlan)) = take_noexcept take
  expr_final e = true

  abbrev pub init_final : Init → Bool
  init_final (init.Ctor' f n args) = is_noexcept (callee f)
  init_final i = true

  abbrev pub act_final : Act → Bool
  act_final (Does conditional e) = expr_final e
  act_final (Passes e) = true
  act_final (Starts i) = init_final i
  act_final (Keeps part) = true

  abbrev pub plan_final : Option PromisePlan → Bool
  plan_final None = true
  plan_final (Some plan) = list_all act_final (await_acts unit.funcs plan.last)

  abbrev pub func_final : CoreFunc → Bool
  func_final func = plan_final func.plan

  -- From the final await no exception comes: it calls noexcept functions alone, and nothing in it throws, suspends or resumes
  -- [dcl.fct.def.coroutine].
  abbrev pub finals_noexcept : Bool
  finals_noexcept = list_all func_final unit.funcs

  -- ---- main

  abbrev pub is_other : FuncId → Bool
  is_other f = not (f.0 == unit.main.0)

  abbrev pub is_other_if : Option FuncId → Bool
  is_other_if None = true
  is_other_if (Some f) = is_other f

  abbrev pub take_other : TakePlan → Bool
  take_other take.Global = true
  take_other (take.Own f) = is_other f
  take_other (take.OwnWith f) = is_other f

  abbrev pub give_other : GivePlan → Bool
  give_other give.Global = true
  give_other (give.Own f) = is_other f
  give_other (give.OwnSized f) = is_other f

  abbrev pub expr_other : CoreExpr → Bool
  expr_other (expr.Call' f n args at) = is_other f
  expr_other (expr.New' n (more_of-NewPlan of take may_be_null i give span end_of-NewPlan)) = take_other take && give_other give
  expr_other (expr.Delete' n (more_of-DeletePlan of pointer destroy give span end_of-DeletePlan)) = is_other_if destroy && give_other give
  expr_other e = true

  abbrev pub init_other : Init → Bool
  init_other (init.Ctor' f n args) = is_other f
  init_other i = true

  abbrev pub act_other : Act → Bool
  act_other (Does conditional e) = expr_other e
  act_other (Passes e) = true
  act_other (Starts i) = init_other i
  act_other (Keeps part) = true

  abbrev pub returns_other : Returns → Bool
  returns_other (returns.Void f) = is_other f
  returns_other r = true

  abbrev pub plan_other : Option PromisePlan → Bool
  plan_other None = true
  plan_other (Some plan) =
      is_other_if plan.ctor && (take_other plan.take && (is_other_if plan.on_null && (give_other plan.give && (is_other plan.result && (returns_other plan.returns && is_other plan.unhandled)))))

  abbrev pub func_other : CoreFunc → Bool
  func_other func = plan_other func.plan && list_all act_other (func_acts unit.funcs func)

  abbrev pub member_other : FuncInfo → Bool
  member_other member = is_other member.id

  abbrev pub info_other : ClassInfo → Bool
  info_other info = list_all member_other info.funcs

  abbrev pub is_main : Option CoreFunc → Bool
  is_main None = false
  is_main (Some func) = takes_nothing (param_types_of (Some func)) && (not (is_some func.plan) && (is_plain (Some func) && same_head (head_of func.result) (head.Num num.Int)))

  -- `main` has no parameter and gives an `int`, is no coroutine, and nothing names it [basic.start.main].
  abbrev pub main_fits : Bool
  main_fits = is_main (callee unit.main) && (list_all func_other unit.funcs && list_all info_other unit.classes)
