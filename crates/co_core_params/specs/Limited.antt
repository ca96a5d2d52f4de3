-- The rules on parameters, with the slots that are listed below 4,096.
use Rattle.std.specs.Prelude.{Bool, true, false, ◌&&◌, ◌==◌, List, [], ◌∷◌, length, Option, None, Some}
use Rattle.std.specs.List.{list_all}
use Rattle.co_base.specs.declared.ids.ClassId.{ClassId}
use Rattle.co_base.specs.declared.ids.SlotId.{SlotId}
use Rattle.co_types.specs.declared.types.Head.TheVariants as head
use Rattle.co_types.specs.Types.{head_of, same_head, same_type}
use Rattle.co_core_tree.specs.declared.units.SlotInfo.{SlotInfo}
use Rattle.co_core_tree.specs.declared.units.CopyPlan.{CopyPlan}
use Rattle.co_core_tree.specs.declared.units.PromisePlan.{PromisePlan}
use Rattle.co_core_tree.specs.declared.units.CoreFunc.{CoreFunc}
use Rattle.co_core_tree.specs.Slots.{slot_at}
use Rattle.co_core_typing.specs.Tables.{slot_type}
use Rattle.co_core.specs.Bodies.{await_acts, body_of, inits_fulls, joined_acts, placed_fulls}
use Rattle.co_core.specs.Plans.{act_names_no_param, copies_to, count_kind, has_promise, is_param_slot}
use Rattle.co_core.specs.Scopes.{is_copy, is_param, is_promise, slot_is}
use Rattle.co_core_params.specs.Marked.{differ}

abbrev pub is_promise_of : ClassId → SlotInfo → Bool
is_promise_of class slot = is_promise slot.kind && same_head (head_of slot.of) (head.Class class)

module _ (func : CoreFunc) where
  abbrev pub copies_param : SlotId → CopyPlan → Bool
  copies_param param copy = (copy.from.0 == param.0) && (slot_is is_copy (slot_at func copy.to) && same_type (slot_type func copy.to) (slot_type func param))

  abbrev pub each_copies : List SlotId → List CopyPlan → Bool
  each_copies [] [] = true
  each_copies (param ∷ params) (copy ∷ copies) = copies_param param copy && each_copies params copies
  each_copies params copies = false

  abbrev pub lists_params : Bool
  lists_params = list_all (is_param_slot func) func.params && (differ func.params && (length func.params == count_kind is_param func.slots))

  abbrev pub has_no_copies : Bool
  has_no_copies = (count_kind is_promise func.slots == 0) && (count_kind is_copy func.slots == 0)

  abbrev pub has_one_promise : ClassId → Bool
  has_one_promise class = (count_kind is_promise func.slots == 1) && has_promise func class func.slots

  abbrev pub has_copies : PromisePlan → Bool
  has_copies plan = each_copies func.params plan.copies && (differ (copies_to func plan.copies) && (length plan.copies == count_kind is_copy func.slots))

module _ (funcs : List CoreFunc) (func : CoreFunc) where
  abbrev pub names_copies : PromisePlan → Bool
  names_copies plan =
      list_all (act_names_no_param func) (joined_acts funcs (inits_fulls funcs plan.ctor_args)) && (list_all (act_names_no_param func) (await_acts funcs plan.initial) && (list_all (act_names_no_param func) (await_acts funcs plan.last) &&
      list_all (act_names_no_param func) (joined_acts funcs (placed_fulls funcs (body_of func)))))

  abbrev pub plan_params : Option PromisePlan → Bool
  plan_params None = has_no_copies func
  plan_params (Some plan) = has_one_promise func plan.promise && (has_copies func plan && names_copies plan)

  abbrev pub func_params : Bool
  func_params = lists_params func && plan_params func.plan
