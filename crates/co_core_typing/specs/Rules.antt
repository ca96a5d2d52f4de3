-- The types that each form of the core tree takes and gives.
use Rattle.std.specs.Prelude.{Bool, true, false, ◌&&◌, List, [], ◌∷◌, Option, None, Some, slice_get}
use Rattle.co_base.specs.declared.ids.ClassId.{ClassId}
use Rattle.co_base.specs.declared.ids.FuncId.{FuncId}
use Rattle.co_types.specs.declared.types.CoType.{CoType}
use Rattle.co_types.specs.declared.types.Head.{Head}
use Rattle.co_types.specs.declared.types.Head.TheVariants as head
use Rattle.co_types.specs.declared.classes.ClassInfo.{ClassInfo}
use Rattle.co_types.specs.declared.classes.FieldInfo.{FieldInfo}
use Rattle.co_types.specs.Types.{head_of}
use Rattle.co_core_tree.specs.declared.units.CoreFunc.{CoreFunc}
use Rattle.co_core_tree.specs.declared.units.UnitParts.{UnitParts}
use Rattle.co_core_tree.specs.declared.exprs.CoreExpr.{CoreExpr, Row_of-CoreExpr, end_of-CoreExpr, more_of-CoreExpr, Row_of-Init, end_of-Init, more_of-Init, end_of-AwaitPlan, more_of-AwaitPlan, end_of-NewPlan, more_of-NewPlan, end_of-DeletePlan, more_of-DeletePlan}
use Rattle.co_core_tree.specs.declared.exprs.CoreExpr.TheVariants as expr
use Rattle.co_core_tree.specs.declared.exprs.Init.{Init}
use Rattle.co_core_tree.specs.declared.exprs.AwaitPlan.{AwaitPlan}
use Rattle.co_core_tree.specs.declared.exprs.Init.TheVariants as init
use Rattle.co_core_tree.specs.Slots.{slot_at}
use Rattle.co_core_typing.specs.Gives.{Gives, Value, Nothing, Throws, plain_shape, number, truth, pointer_shape, is_right, is_some_number, value_converts, arith_gives, field_place, referent, pointer_to, loaded, joined, whole_place}
use Rattle.co_core_typing.specs.Forms.{store_fits, arith_fits, update_fits, updated, is_testable, same_fits, are_truths, pick_fits, handle_gives, atomic_gives, lib_gives, is_object, delete_fits, is_raw, value_fits, result_fits, choose_fits, is_temp, makes_temp, await_fits}
use Rattle.co_core_typing.specs.Tables.{slot_place, global_place, slot_type, param_types_of, after_first, is_plain, constructs, call_gives, throw_fits}

-- ---- expressions and initializers

abbrev pub is_some_class : Option ClassInfo → Bool
is_some_class None = false
is_some_class (Some info) = true

abbrev pub fields_of : Option ClassInfo → List FieldInfo
fields_of None = []
fields_of (Some info) = info.fields

abbrev pub fields_of_head : List ClassInfo → Head → List FieldInfo
fields_of_head classes (head.Class class) = fields_of (slice_get classes class.0)
fields_of_head classes h = []

-- an object that is made member by member: one of a class, or a `std::suspend_always` or `std::suspend_never`, which has none
abbrev pub has_members : List ClassInfo → Head → Bool
has_members classes (head.Class class) = is_some_class (slice_get classes class.0)
has_members classes head.SuspendAlways = true
has_members classes head.SuspendNever = true
has_members classes h = false

abbrev pub inside : Head → List ClassId → List ClassId
inside (head.Class class) wholes = class ∷ wholes
inside h wholes = wholes

-- `wholes` are the classes of the objects that the enclosing lists of members are making, the innermost first
module _ (unit : UnitParts) (func : CoreFunc) where
  abbrev pub func_at : FuncId → Option CoreFunc
  func_at f = slice_get unit.funcs f.0

  abbrev mutual
    -- What an expression gives. In a position where nothing is wanted each is taken, and its value is dropped.
    pub gives : List ClassId → CoreExpr → Gives
    gives w (expr.Const num v at) = number num
    gives w (expr.Null at) = Value (plain_shape head.NullPtr)
    gives w (expr.Slot slot at) = slot_place (slot_at func slot)
    gives w (expr.Global k at) = global_place (slice_get unit.globals k)
    gives w (expr.Field' n (more_of-CoreExpr e end_of-CoreExpr) k at) = field_place unit.classes (gives w e) k
    gives w (expr.Deref' n (more_of-CoreExpr e end_of-CoreExpr) at) = referent (gives w e)
    gives w (expr.Address' n (more_of-CoreExpr e end_of-CoreExpr) at) = pointer_to (gives w e)
    gives w (expr.Whole k at) = whole_place w k
    gives w (expr.Load' n (more_of-CoreExpr e end_of-CoreExpr) at) = loaded (gives w e)
    gives w (expr.Store' n (more_of-CoreExpr p end_of-CoreExpr) m (more_of-CoreExpr v end_of-CoreExpr) at) = gives w p
    gives w (expr.Exchange' n (more_of-CoreExpr p end_of-CoreExpr) m (more_of-CoreExpr v end_of-CoreExpr) at) = loaded (gives w p)
    gives w (expr.Update' op num n (more_of-CoreExpr p end_of-CoreExpr) m (more_of-CoreExpr v end_of-CoreExpr) old at) = updated old (gives w p)
    gives w (expr.Arith' op num n (more_of-CoreExpr l end_of-CoreExpr) m (more_of-CoreExpr r end_of-CoreExpr) at) = arith_gives op num
    gives w (expr.Convert' num n (more_of-CoreExpr e end_of-CoreExpr) at) = number num
    gives w (expr.Test' n (more_of-CoreExpr e end_of-CoreExpr) at) = truth
    gives w (expr.Same' n (more_of-CoreExpr l end_of-CoreExpr) m (more_of-CoreExpr r end_of-CoreExpr) at) = truth
    gives w (expr.Both' n (more_of-CoreExpr l end_of-CoreExpr) m (more_of-CoreExpr r end_of-CoreExpr) at) = truth
    gives w (expr.Either' n (more_of-CoreExpr l end_of-CoreExpr) m (more_of-CoreExpr r end_of-CoreExpr) at) = truth
    gives w (expr.Pick' n (more_of-CoreExpr e end_of-CoreExpr) m (more_of-CoreExpr x end_of-CoreExpr) k (more_of-CoreExpr y end_of-CoreExpr) at) = joined (gives w x) (gives w y)
    gives w (expr.Call' f n args at) = call_gives (func_at f)
    gives w (expr.Temp' slot n (more_of-Init i end_of-Init) at) = slot_place (slot_at func slot)
    gives w (expr.Throw' of n (more_of-CoreExpr e end_of-CoreExpr) at) = Throws
    gives w (expr.Rethrow at) = Throws
    gives w (expr.Terminate at) = Nothing
    gives w (expr.Current at) = Value (plain_shape head.ExceptionPtr)
    gives w (expr.RethrowPtr' n (more_of-CoreExpr e end_of-CoreExpr) at) = Nothing
    gives w (expr.Await' n (more_of-AwaitPlan operand holder ready suspend answer resume point span end_of-AwaitPlan)) = gives w resume
    gives w (expr.Handle' op n operands at) = handle_gives op (all_give w operands)
    gives w (expr.Atomic' op n operands at) = atomic_gives op (all_give w operands)
    gives w (expr.Lib' op n operands at) = lib_gives op (all_give w operands)
    gives w (expr.New' n (more_of-NewPlan of take may_be_null i give span end_of-NewPlan)) = Value (pointer_shape of)
    gives w (expr.Delete' n (more_of-DeletePlan of pointer destroy give span end_of-DeletePlan)) = Nothing

    pub all_give : {m : _} → List ClassId → Row_of-CoreExpr m → List Gives
    all_give w end_of-CoreExpr = []
    all_give w (more_of-CoreExpr e rest) = gives w e ∷ all_give w rest

  abbrev mutual
    -- Each part of the expression has the type that its form needs.
    pub typed : List ClassId → CoreExpr → Bool
    typed w (expr.Const num v at) =
        true
    typed w (expr.Null at) =
        true
    typed w (expr.Slot slot at) =
        is_right (slot_place (slot_at func slot))
    typed w (expr.Global k at) =
        is_right (global_place (slice_get unit.globals k))
    typed w (expr.Field' n (more_of-CoreExpr e end_of-CoreExpr) k at) =
        typed w e && is_right (field_place unit.classes (gives w e) k)
    typed w (expr.Deref' n (more_of-CoreExpr e end_of-CoreExpr) at) =
        typed w e && is_right (referent (gives w e))
    typed w (expr.Address' n (more_of-CoreExpr e end_of-CoreExpr) at) =
        typed w e && is_right (pointer_to (gives w e))
    typed w (expr.Whole k at) =
        is_right (whole_place w k)
    typed w (expr.Load' n (more_of-CoreExpr e end_of-CoreExpr) at) =
        typed w e && is_right (loaded (gives w e))
    typed w (expr.Store' n (more_of-CoreExpr p end_of-CoreExpr) m (more_of-CoreExpr v end_of-CoreExpr) at) =
        typed w v && (typed w p && store_fits (gives w p) (gives w v))
    typed w (expr.Exchange' n (more_of-CoreExpr p end_of-CoreExpr) m (more_of-CoreExpr v end_of-CoreExpr) at) =
        typed w p && (typed w v && store_fits (gives w p) (gives w v))
    typed w (expr.Update' op num n (more_of-CoreExpr p end_of-CoreExpr) m (more_of-CoreExpr v end_of-CoreExpr) old at) =
        typed w v && (typed w p && update_fits op num (gives w p) (gives w v))
    typed w (expr.Arith' op num n (more_of-CoreExpr l end_of-CoreExpr) m (more_of-CoreExpr r end_of-CoreExpr) at) =
        typed w l && (typed w r && arith_fits op num (gives w l) (gives w r))
    typed w (expr.Convert' num n (more_of-CoreExpr e end_of-CoreExpr) at) =
        typed w e && is_some_number (gives w e)
    typed w (expr.Test' n (more_of-CoreExpr e end_of-CoreExpr) at) =
        typed w e && is_testable (gives w e)
    typed w (expr.Same' n (more_of-CoreExpr l end_of-CoreExpr) m (more_of-CoreExpr r end_of-CoreExpr) at) =
        typed w l && (typed w r && same_fits (gives w l) (gives w r))
    typed w (expr.Both' n (more_of-CoreExpr l end_of-CoreExpr) m (more_of-CoreExpr r end_of-CoreExpr) at) =
        typed w l && (typed w r && are_truths (gives w l) (gives w r))
    typed w (expr.Either' n (more_of-CoreExpr l end_of-CoreExpr) m (more_of-CoreExpr r end_of-CoreExpr) at) =
        typed w l && (typed w r && are_truths (gives w l) (gives w r))
    typed w (expr.Pick' n (more_of-CoreExpr e end_of-CoreExpr) m (more_of-CoreExpr x end_of-CoreExpr) k (more_of-CoreExpr y end_of-CoreExpr) at) =
        typed w e && (typed w x && (typed w y && pick_fits (gives w e) (joined (gives w x) (gives w y))))
    typed w (expr.Call' f n args at) =
        is_plain (func_at f) && args_typed w (param_types_of (func_at f)) args
    typed w (expr.Temp' slot n (more_of-Init i end_of-Init) at) =
        init_typed w false (slot_type func slot) i
    typed w (expr.Throw' of n (more_of-CoreExpr e end_of-CoreExpr) at) =
        typed w e && throw_fits unit.classes of (gives w e)
    typed w (expr.Rethrow at) =
        true
    typed w (expr.Terminate at) =
        true
    typed w (expr.Current at) =
        true
    typed w (expr.RethrowPtr' n (more_of-CoreExpr e end_of-CoreExpr) at) =
        typed w e && value_converts (plain_shape head.ExceptionPtr) (gives w e)
    typed w (expr.Await' n (more_of-AwaitPlan operand holder ready suspend answer resume point span end_of-AwaitPlan)) =
        typed w operand && (typed w ready && (typed w suspend && (typed w resume && await_fits (slot_at func holder) (makes_temp holder operand) answer (gives w operand) (gives w ready) (gives w suspend))))
    typed w (expr.Handle' op n operands at) =
        all_typed w operands && is_right (handle_gives op (all_give w operands))
    typed w (expr.Atomic' op n operands at) =
        all_typed w operands && is_right (atomic_gives op (all_give w operands))
    typed w (expr.Lib' op n operands at) =
        all_typed w operands && is_right (lib_gives op (all_give w operands))
    typed w (expr.New' n (more_of-NewPlan of take may_be_null i give span end_of-NewPlan)) =
        is_object (head_of of) && init_typed w false of i
    typed w (expr.Delete' n (more_of-DeletePlan of pointer destroy give span end_of-DeletePlan)) =
        typed w pointer && delete_fits of (gives w pointer)

    pub all_typed : {m : _} → List ClassId → Row_of-CoreExpr m → Bool
    all_typed w end_of-CoreExpr = true
    all_typed w (more_of-CoreExpr e rest) = typed w e && all_typed w rest

    -- The initializer makes an object of the type; the flag tells whether that is the object of a parameter.
    pub init_typed : List ClassId → Bool → CoType → Init → Bool
    init_typed w object to (init.Ctor' f n args) = constructs (func_at f) (head_of to) && args_typed w (after_first (param_types_of (func_at f))) args
    init_typed w object to (init.Members' n members) = has_members unit.classes (head_of to) && fields_typed (inside (head_of to) w) (fields_of_head unit.classes (head_of to)) members
    init_typed w object to (init.Value e) = typed w e && value_fits (object && is_temp e) to (gives w e)
    init_typed w object to (init.Result e) = typed w e && result_fits (head_of to) (gives w e)
    init_typed w object to init.Raw = is_raw (head_of to)
    init_typed w object to (init.Choose' e n (more_of-Init x end_of-Init) m (more_of-Init y end_of-Init)) =
        typed w e && (choose_fits (head_of to) (gives w e) && (init_typed w false to x && init_typed w false to y))

    -- there is an initializer for each field
    pub fields_typed : {m : _} → List ClassId → List FieldInfo → Row_of-Init m → Bool
    fields_typed w [] end_of-Init = true
    fields_typed w (field ∷ fields) (more_of-Init i rest) = init_typed w false field.of i && fields_typed w fields rest
    fields_typed w fields rest = false

    -- each argument makes what its parameter holds
    pub args_typed : {m : _} → List ClassId → List CoType → Row_of-Init m → Bool
    args_typed w [] end_of-Init = true
    args_typed w (to ∷ types) (more_of-Init i rest) = init_typed w true to i && args_typed w types rest
    args_typed w types rest = false

  -- the parts of an await, and of one that is no expression [expr.await]
  abbrev pub await_typed : List ClassId → AwaitPlan → Bool
  await_typed w p =
      typed w p.operand && (typed w p.ready && (typed w p.suspend && (typed w p.resume &&
      await_fits (slot_at func p.holder) (makes_temp p.holder p.operand) p.answer (gives w p.operand) (gives w p.ready) (gives w p.suspend))))

  -- the same of a list of initializers: one for each field, and one for each parameter
  abbrev pub members_typed : List ClassId → List FieldInfo → List Init → Bool
  members_typed w [] [] = true
  members_typed w (field ∷ fields) (i ∷ is) = init_typed w false field.of i && members_typed w fields is
  members_typed w fields is = false

  abbrev pub arguments_typed : List ClassId → List CoType → List Init → Bool
  arguments_typed w [] [] = true
  arguments_typed w (to ∷ types) (i ∷ is) = init_typed w true to i && arguments_typed w types is
  arguments_typed w types is = false
