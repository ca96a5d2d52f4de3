-- Each part of a statement, a function and a plan has the type that it needs.
use Rattle.std.specs.Prelude.{Bool, true, false, not, ◌||◌, ◌&&◌, ◌==◌, List, [], ◌∷◌, Option, None, Some, slice_get, is_some}
use Rattle.std.specs.List.{list_all}
use Rattle.co_base.specs.declared.kinds.CatchOf.{CatchOf}
use Rattle.co_base.specs.declared.kinds.CatchOf.TheVariants as catch
use Rattle.co_base.specs.declared.kinds.Num.TheVariants as num
use Rattle.co_base.specs.declared.ids.ClassId.{ClassId}
use Rattle.co_base.specs.declared.ids.SlotId.{SlotId}
use Rattle.co_types.specs.declared.types.Head.{Head}
use Rattle.co_types.specs.declared.types.Head.TheVariants as head
use Rattle.co_types.specs.Types.{head_of, target_of, same_head}
use Rattle.co_core_tree.specs.declared.kinds.SlotKind.{SlotKind}
use Rattle.co_core_tree.specs.declared.kinds.SlotKind.TheVariants as kind
use Rattle.co_core_tree.specs.declared.stmts.CoreStmt.{CoreStmt, Row_of-Handler, end_of-Handler, more_of-Handler}
use Rattle.co_core_tree.specs.declared.stmts.CoreStmt.TheVariants as stmt
use Rattle.co_core_tree.specs.declared.exprs.CoreExpr.{CoreExpr}
use Rattle.co_core_tree.specs.declared.exprs.Init.{Init}
use Rattle.co_core_tree.specs.declared.units.SlotInfo.{SlotInfo}
use Rattle.co_core_tree.specs.declared.units.GlobalInfo.{GlobalInfo}
use Rattle.co_core_tree.specs.declared.units.FuncRole.{FuncRole}
use Rattle.co_core_tree.specs.declared.units.FuncRole.TheVariants as role
use Rattle.co_core_tree.specs.declared.units.CopyPlan.{CopyPlan}
use Rattle.co_core_tree.specs.declared.units.PromisePlan.{PromisePlan}
use Rattle.co_core_tree.specs.declared.units.CoreFunc.{CoreFunc}
use Rattle.co_core_tree.specs.declared.units.UnitParts.{UnitParts}
use Rattle.co_core_typing.specs.Gives.{is_number, is_reference, is_void, is_scalar}
use Rattle.co_core_typing.specs.Forms.{is_object}
use Rattle.co_core_typing.specs.Tables.{is_class_target, is_thrown_class, slot_type}
use Rattle.co_core_typing.specs.Rules.{await_typed, fields_of, gives, init_typed, members_typed, typed}
use Rattle.co_core.specs.Bodies.{Placed, body_of}

-- ---- slots

abbrev pub is_class_head : Head → Bool
is_class_head (head.Class class) = true
is_class_head h = false

-- what may be declared: an object or a reference
abbrev pub is_declarable : Head → Bool
is_declarable h = is_object h || is_reference h

abbrev pub kind_fits : SlotKind → Head → Bool
kind_fits kind.Param h = is_declarable h
kind_fits kind.Copy h = is_declarable h
kind_fits kind.Promise h = is_class_head h
kind_fits kind.Local h = is_declarable h
kind_fits kind.Temp h = is_object h
kind_fits kind.Held h = is_scalar h
kind_fits kind.Mark h = same_head h (head.Num num.Bool)

abbrev pub slot_fits : SlotInfo → Bool
slot_fits slot = kind_fits slot.kind (head_of slot.of)

abbrev pub global_fits_head : Head → Bool
global_fits_head (head.Num n) = true
global_fits_head (head.Atomic k) = true
global_fits_head head.Pointer = true
global_fits_head h = false

-- a global is an integer, an atomic or a pointer
abbrev pub global_fits : GlobalInfo → Bool
global_fits global = global_fits_head (head_of global.of)

abbrev pub result_fits_head : Head → Bool
result_fits_head head.Void = true
result_fits_head h = is_declarable h

-- ---- functions

module _ (unit : UnitParts) (func : CoreFunc) where
  abbrev pub condition : CoreExpr → Bool
  condition e = typed unit func [] e && is_number num.Bool (gives unit func [] e)

  abbrev pub returned : Option Init → Bool
  returned None = is_void (head_of func.result)
  returned (Some i) = not (is_void (head_of func.result)) && init_typed unit func [] false func.result i

  abbrev pub caught_fits : CatchOf → Option SlotId → Bool
  caught_fits catch.Any None = true
  caught_fits catch.Any (Some slot) = false
  caught_fits c None = true
  caught_fits catch.Int (Some slot) = same_head (head_of (slot_type func slot)) (head.Num num.Int)
  caught_fits catch.Long (Some slot) = same_head (head_of (slot_type func slot)) (head.Num num.Long)
  caught_fits catch.Bool (Some slot) = same_head (head_of (slot_type func slot)) (head.Num num.Bool)
  caught_fits (catch.Class class) (Some slot) = same_head (head_of (slot_type func slot)) (head.Class class)

  abbrev pub catchable : CatchOf → Bool
  catchable (catch.Class class) = is_thrown_class unit.classes class
  catchable c = true

  -- a handler's variable has the type that it catches [except.handle]
  abbrev pub handlers_typed : {m : _} → Row_of-Handler m → Bool
  handlers_typed end_of-Handler = true
  handlers_typed (more_of-Handler of slot body rest) = catchable of && (caught_fits of slot && handlers_typed rest)

  abbrev pub stmt_typed : CoreStmt → Bool
  stmt_typed (stmt.Full e at) = typed unit func [] e
  stmt_typed (stmt.Local slot i at) = init_typed unit func [] false (slot_type func slot) i
  stmt_typed (stmt.If' e n x m y at) = condition e
  stmt_typed (stmt.Loop' e step n body at) = condition e && typed unit func [] step
  stmt_typed (stmt.Return i at) = returned i
  stmt_typed (stmt.Try' n body m handlers at) = handlers_typed handlers
  stmt_typed s = true

  abbrev pub placed_typed : Placed → Bool
  placed_typed p = stmt_typed p.stmt

  -- ---- roles

  abbrev pub is_this : ClassId → SlotId → Bool
  is_this class slot = (slot.0 == 0) && (same_head (head_of (slot_type func slot)) head.Ref && is_class_target class (target_of (slot_type func slot)))

  abbrev pub takes_this : ClassId → List SlotId → Bool
  takes_this class [] = false
  takes_this class (slot ∷ slots) = is_this class slot

  abbrev pub takes_this_alone : ClassId → List SlotId → Bool
  takes_this_alone class (slot ∷ []) = is_this class slot
  takes_this_alone class slots = false

  -- a constructor and a destructor give nothing; the first parameter refers to the object [class.ctor] [class.dtor]
  abbrev pub role_typed : FuncRole → Bool
  role_typed role.Plain = true
  role_typed (role.Ctor class members) =
      takes_this class func.params && (is_void (head_of func.result) && (not (is_some func.plan) && members_typed unit func (class ∷ []) (fields_of (slice_get unit.classes class.0)) members))
  role_typed (role.Dtor class) = takes_this_alone class func.params && (is_void (head_of func.result) && not (is_some func.plan))

  -- ---- plans

  abbrev pub copy_typed : CopyPlan → Bool
  copy_typed copy = init_typed unit func [] false (slot_type func copy.to) copy.init

  abbrev pub plan_typed : Option PromisePlan → Bool
  plan_typed None = true
  plan_typed (Some plan) = list_all copy_typed plan.copies && (await_typed unit func [] plan.initial && await_typed unit func [] plan.last)

  abbrev pub func_typed : Bool
  func_typed = result_fits_head (head_of func.result) && (list_all slot_fits func.slots && (role_typed func.role && (plan_typed func.plan && list_all placed_typed (body_of func))))

-- Each part of the unit has the type that its row needs.
abbrev pub all_typed : UnitParts → Bool
all_typed unit = list_all global_fits unit.globals && list_all (func_typed unit) unit.funcs
