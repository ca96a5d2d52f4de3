-- Each number that a unit names is in its table.
use Rattle.std.specs.Prelude.{Bool, true, false, ◌&&◌, nat_lt, length, Option, None, Some, ℤ, pos, negsuc}
use Rattle.std.specs.List.{list_all}
use Rattle.co_base.specs.declared.kinds.CatchOf.{CatchOf}
use Rattle.co_base.specs.declared.kinds.CatchOf.TheVariants as catch
use Rattle.co_base.specs.declared.ids.ClassId.{ClassId}
use Rattle.co_base.specs.declared.ids.FuncId.{FuncId}
use Rattle.co_base.specs.declared.ids.SlotId.{SlotId}
use Rattle.co_types.specs.declared.types.CoType.{CoType, end_of-CoType, more_of-CoType}
use Rattle.co_types.specs.declared.types.CoType.TheVariants as type
use Rattle.co_types.specs.declared.classes.ClassInfo.{ClassInfo}
use Rattle.co_types.specs.declared.classes.FieldInfo.{FieldInfo}
use Rattle.co_types.specs.declared.classes.FuncInfo.{FuncInfo}
use Rattle.co_types.specs.declared.classes.AliasInfo.{AliasInfo}
use Rattle.co_core_tree.specs.declared.kinds.HandleOp.TheVariants as handle
use Rattle.co_core_tree.specs.declared.kinds.LibOp.TheVariants as lib
use Rattle.co_core_tree.specs.declared.kinds.TakePlan.{TakePlan}
use Rattle.co_core_tree.specs.declared.kinds.TakePlan.TheVariants as take
use Rattle.co_core_tree.specs.declared.kinds.GivePlan.{GivePlan}
use Rattle.co_core_tree.specs.declared.kinds.GivePlan.TheVariants as give
use Rattle.co_core_tree.specs.declared.kinds.Returns.{Returns}
use Rattle.co_core_tree.specs.declared.kinds.Returns.TheVariants as returns
use Rattle.co_core_tree.specs.declared.stmts.CoreStmt.{CoreStmt, Row_of-Handler, end_of-Handler, more_of-Handler}
use Rattle.co_core_tree.specs.declared.stmts.CoreStmt.TheVariants as stmt
use Rattle.co_core_tree.specs.declared.exprs.CoreExpr.{CoreExpr, Row_of-CoreExpr, end_of-CoreExpr, more_of-CoreExpr, end_of-AwaitPlan, more_of-AwaitPlan, end_of-NewPlan, more_of-NewPlan, end_of-DeletePlan, more_of-DeletePlan}
use Rattle.co_core_tree.specs.declared.exprs.CoreExpr.TheVariants as expr
use Rattle.co_core_tree.specs.declared.exprs.Init.{Init}
use Rattle.co_core_tree.specs.declared.exprs.Init.TheVariants as init
use Rattle.co_core_tree.specs.declared.units.SlotInfo.{SlotInfo}
use Rattle.co_core_tree.specs.declared.units.GlobalInfo.{GlobalInfo}
use Rattle.co_core_tree.specs.declared.units.FuncRole.{FuncRole}
use Rattle.co_core_tree.specs.declared.units.FuncRole.TheVariants as role
use Rattle.co_core_tree.specs.declared.units.CopyPlan.{CopyPlan}
use Rattle.co_core_tree.specs.declared.units.PromisePlan.{PromisePlan}
use Rattle.co_core_tree.specs.declared.units.CoreFunc.{CoreFunc}
use Rattle.co_core_tree.specs.declared.units.UnitParts.{UnitParts}
use Rattle.co_core_tree.specs.Acts.{Act, Does, Passes, Starts, Keeps}
use Rattle.co_core.specs.Bodies.{Placed, body_of, func_acts}

module _ (unit : UnitParts) where
  abbrev pub class_held : ClassId → Bool
  class_held class = nat_lt class.0 (length unit.classes)

  abbrev pub func_held : FuncId → Bool
  func_held f = nat_lt f.0 (length unit.funcs)

  abbrev pub class_held_if : Option ClassId → Bool
  class_held_if None = true
  class_held_if (Some class) = class_held class

  abbrev pub func_held_if : Option FuncId → Bool
  func_held_if None = true
  func_held_if (Some f) = func_held f

  -- the classes that a type names
  abbrev pub type_held : CoType → Bool
  type_held (type.Class class) = class_held class
  type_held (type.Handle promise) = class_held_if promise
  type_held (type.Pointer' n (more_of-CoType to end_of-CoType)) = type_held to
  type_held (type.Ref' n (more_of-CoType to end_of-CoType)) = type_held to
  type_held (type.ConstRef' n (more_of-CoType to end_of-CoType)) = type_held to
  type_held (type.RefRef' n (more_of-CoType to end_of-CoType)) = type_held to
  type_held of = true

  -- ---- classes

  abbrev pub field_held : FieldInfo → Bool
  field_held field = type_held field.of

  abbrev pub member_held : FuncInfo → Bool
  member_held member = func_held member.id && (type_held member.result && list_all type_held member.params)

  abbrev pub alias_held : AliasInfo → Bool
  alias_held alias = type_held alias.of

  abbrev pub info_held : ClassInfo → Bool
  info_held info = class_held_if info.outer && (list_all field_held info.fields && (list_all member_held info.funcs && list_all alias_held info.aliases))

  abbrev pub global_held : GlobalInfo → Bool
  global_held global = type_held global.of

  abbrev pub take_held : TakePlan → Bool
  take_held take.Global = true
  take_held (take.Own f) = func_held f
  take_held (take.OwnWith f) = func_held f

  abbrev pub give_held : GivePlan → Bool
  give_held give.Global = true
  give_held (give.Own f) = func_held f
  give_held (give.OwnSized f) = func_held f

  -- ---- one function

  module _ (func : CoreFunc) where
    abbrev pub slot_held : SlotId → Bool
    slot_held slot = nat_lt slot.0 (length func.slots)

    abbrev pub slot_held_if : Option SlotId → Bool
    slot_held_if None = true
    slot_held_if (Some slot) = slot_held slot

    abbrev pub text_held : ℤ → Bool
    text_held (pos k) = nat_lt k (length unit.texts)
    text_held (negsuc k) = false

    abbrev pub is_text : CoreExpr → Bool
    is_text (expr.Const num k at) = text_held k
    is_text e = false

    -- a `Lit` names the text of the number that is written as its operand
    abbrev pub first_is_text : {m : _} → Row_of-CoreExpr m → Bool
    first_is_text end_of-CoreExpr = false
    first_is_text (more_of-CoreExpr e rest) = is_text e

    abbrev pub expr_held : CoreExpr → Bool
    expr_held (expr.Slot slot at) = slot_held slot
    expr_held (expr.Global k at) = nat_lt k (length unit.globals)
    expr_held (expr.Call' f n args at) = func_held f
    expr_held (expr.Temp' slot n i at) = slot_held slot
    expr_held (expr.Throw' of n e at) = type_held of
    expr_held (expr.Await' n (more_of-AwaitPlan operand holder ready suspend answer resume point span end_of-AwaitPlan)) = slot_held holder
    expr_held (expr.Handle' (handle.FromAddress promise) n operands at) = class_held_if promise
    expr_held (expr.Lib' lib.Lit n operands at) = first_is_text operands
    expr_held (expr.New' n (more_of-NewPlan of take may_be_null i give span end_of-NewPlan)) = type_held of && (take_held take && give_held give)
    expr_held (expr.Delete' n (more_of-DeletePlan of pointer destroy give span end_of-DeletePlan)) = type_held of && (func_held_if destroy && give_held give)
    expr_held e = true

    abbrev pub init_held : Init → Bool
    init_held (init.Ctor' f n args) = func_held f
    init_held i = true

    abbrev pub act_held : Act → Bool
    act_held (Does conditional e) = expr_held e
    act_held (Passes e) = expr_held e
    act_held (Starts i) = init_held i
    act_held (Keeps part) = true

    abbrev pub catch_held : CatchOf → Bool
    catch_held (catch.Class class) = class_held class
    catch_held c = true

    abbrev pub handlers_held : {m : _} → Row_of-Handler m → Bool
    handlers_held end_of-Handler = true
    handlers_held (more_of-Handler of slot body rest) = catch_held of && (slot_held_if slot && handlers_held rest)

    abbrev pub stmt_held : CoreStmt → Bool
    stmt_held (stmt.Local slot i at) = slot_held slot
    stmt_held (stmt.Try' n body m handlers at) = handlers_held handlers
    stmt_held s = true

    abbrev pub placed_held : Placed → Bool
    placed_held p = stmt_held p.stmt

    abbrev pub copy_held : CopyPlan → Bool
    copy_held copy = slot_held copy.from && slot_held copy.to

    abbrev pub returns_held : Returns → Bool
    returns_held (returns.Void f) = func_held f
    returns_held r = true

    abbrev pub plan_held : Option PromisePlan → Bool
    plan_held None = true
    plan_held (Some plan) =
        class_held plan.promise && (func_held_if plan.ctor && (list_all copy_held plan.copies && (take_held plan.take && (func_held_if plan.on_null &&
        (give_held plan.give && (func_held plan.result && (slot_held plan.initial.holder && (slot_held plan.last.holder && (returns_held plan.returns && func_held plan.unhandled)))))))))

    abbrev pub role_held : FuncRole → Bool
    role_held (role.Ctor class members) = class_held class
    role_held (role.Dtor class) = class_held class
    role_held role.Plain = true

    abbrev pub slot_type_held : SlotInfo → Bool
    slot_type_held slot = type_held slot.of

    abbrev pub func_ids_held : Bool
    func_ids_held =
        list_all slot_held func.params && (type_held func.result && (list_all slot_type_held func.slots && (role_held func.role &&
        (plan_held func.plan && (list_all placed_held (body_of func) && list_all act_held (func_acts unit.funcs func))))))

  -- Each class, function, slot, global and text that the unit names is in its table.
  abbrev pub ids_held : Bool
  ids_held = list_all info_held unit.classes && (list_all global_held unit.globals && (list_all func_ids_held unit.funcs && func_held unit.main))
