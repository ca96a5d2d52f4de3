-- Runs of coroutines with parameters, with storage of their own, and with exceptions before their bodies.
use Rattle.std.proofs.Common.{◌≡◌, ℕ, List, [], ◌∷◌, true, false, Some, None, refl}
use Rattle.std.specs.Prelude.{pos, Option, option_map}
use Rattle.co_base.specs.declared.kinds.CatchOf.TheVariants as catch
use Rattle.co_base.specs.declared.kinds.Num.TheVariants as num
use Rattle.co_base.specs.declared.kinds.Op.TheVariants as op
use Rattle.co_base.specs.declared.kinds.Print.TheVariants as print
use Rattle.co_base.specs.declared.kinds.Thrown.TheVariants as thrown
use Rattle.co_base.specs.declared.kinds.Undef.TheVariants.{U10}
use Rattle.co_types.specs.declared.types.CoType.{CoType, end_of-CoType, more_of-CoType}
use Rattle.co_types.specs.declared.types.CoType.TheVariants as type
use Rattle.co_core_tree.specs.declared.exprs.AwaitPlan.{AwaitPlan}
use Rattle.co_core_tree.specs.declared.exprs.CoreExpr.{CoreExpr, end_of-CoreExpr, end_of-Init, more_of-CoreExpr, more_of-Init}
use Rattle.co_core_tree.specs.declared.exprs.CoreExpr.TheVariants as expr
use Rattle.co_core_tree.specs.declared.exprs.Init.{Init}
use Rattle.co_core_tree.specs.declared.exprs.Init.TheVariants as init
use Rattle.co_core_tree.specs.declared.kinds.GivePlan.{GivePlan}
use Rattle.co_core_tree.specs.declared.kinds.GivePlan.TheVariants as give
use Rattle.co_core_tree.specs.declared.kinds.HandleOp.TheVariants as handle
use Rattle.co_core_tree.specs.declared.kinds.LibOp.TheVariants as library
use Rattle.co_core_tree.specs.declared.kinds.Returns.TheVariants as returns
use Rattle.co_core_tree.specs.declared.kinds.SlotKind.TheVariants as kind
use Rattle.co_core_tree.specs.declared.kinds.TakePlan.{TakePlan}
use Rattle.co_core_tree.specs.declared.kinds.TakePlan.TheVariants as take_plan
use Rattle.co_core_tree.specs.declared.stmts.CoreStmt.{CoreStmt, end_of-CoreStmt, end_of-Handler, more_of-CoreStmt, more_of-Handler}
use Rattle.co_core_tree.specs.declared.stmts.CoreStmt.TheVariants as stmt
use Rattle.co_core_tree.specs.declared.units.CoreFunc.{CoreFunc}
use Rattle.co_core_tree.specs.declared.units.SlotInfo.{SlotInfo}
use Rattle.co_meaning_data.specs.declared.events.Event.{Event}
use Rattle.co_meaning_data.specs.declared.events.Event.TheVariants as event
use Rattle.co_meaning_data.specs.Turn.{Program}
use Rattle.co_meaning.proofs.Building.{here, slot, long, variable, load, prints, two, three, return_zero, local, function, program, alone, field, class, constructor, destructor, ends_by, made_by, member, of_class, refers, this, param, nothing, one, id, call, handle_op, library_await, awaits, temporary}

-- struct T { long v; T(long x) : v(x) {} T(T&& o) : v(o.v + 100) {} ~T() { corun::print(v); } };  the class 2, functions 8, 9 and 10
-- The promise, the class 0, prints 50 at its end, and the result, the class 1, prints 60.

abbrev moved : CoreFunc
moved = constructor 2 1 (init.Value (expr.Arith' op.Add num.Long _ (more_of-CoreExpr (load (member (expr.Deref' _ (more_of-CoreExpr (load (variable 1)) end_of-CoreExpr) here) 0)) end_of-CoreExpr) _ (more_of-CoreExpr (long 100) end_of-CoreExpr) here) ∷ []) (param (refers (of_class 2)) ∷ []) nothing

abbrev kept : SlotInfo
kept = record { of = of_class 2; kind = kind.Copy }

abbrev throwing : ℕ → CoreFunc
throwing n = function [] type.SuspendAlways [] (stmt.Full (expr.Throw' (type.Num num.Int) _ (more_of-CoreExpr (expr.Const num.Int (pos n) here) end_of-CoreExpr) here) here)

-- the initial await of an awaiter that a function makes
abbrev await_of : ℕ → AwaitPlan
await_of f = record (library_await 1 5 0) { operand = expr.Temp' (slot 5) _ (more_of-Init (init.Value (call f)) end_of-Init) here }

abbrev coroutine : TakePlan → List Init → Option ℕ → GivePlan → AwaitPlan → CoreStmt → CoreFunc
coroutine take take_args on_null gives initial body =
    record (function (slot 0 ∷ slot 1 ∷ []) (of_class 1)
    (param (of_class 2) ∷ param (of_class 2) ∷ record { of = of_class 0; kind = kind.Promise } ∷ kept ∷ kept ∷ temporary ∷ temporary ∷ temporary ∷ local (of_class 2) ∷ []) body) {
      plan = Some (record {
        promise = record { 0 = 0 };
        ctor = Some (id 5);
        with_params = false;
        ctor_args = [];
        copies = record { from = slot 0; to = slot 3; init = made_by 9 (variable 0) } ∷ record { from = slot 1; to = slot 4; init = made_by 9 (variable 1) } ∷ [];
        take = take;
        take_args = take_args;
        on_null = option_map id on_null;
        give = gives;
        result = id 2;
        initial = initial;
        last = library_await 0 6 1;
        returns = returns.Void (id 3);
        unhandled = id 4;
      });
    }

abbrev temp : ℕ → Init → CoreExpr
temp n i = expr.Temp' (slot n) _ (more_of-Init i end_of-Init) here

abbrev makes_job : CoreStmt
makes_job = stmt.Local (slot 0) (init.Result (expr.Call' (id 1) (tt ∷ tt ∷ []) (more_of-Init (init.Value (temp 1 (made_by 8 (long 10)))) (more_of-Init (init.Value (temp 2 (made_by 8 (long 20)))) end_of-Init)) here)) here

abbrev main_of : CoreStmt → CoreFunc
main_of body = function [] (type.Num num.Int) (local (of_class 1) ∷ record { of = of_class 2; kind = kind.Temp } ∷ record { of = of_class 2; kind = kind.Temp } ∷ local (type.Num num.Int) ∷ []) body

abbrev destroys : CoreStmt
destroys = stmt.Full (handle_op handle.Destroy (load (member (variable 0) 0))) here

abbrev life : CoreFunc → CoreFunc → List CoreFunc → Program
life main f more =
    record (program (class 80 (field (type.Num num.Long) ∷ []) (destructor 80 6 ∷ []) ∷ class 74 (field (type.Handle None) ∷ []) (destructor 74 7 ∷ []) ∷ class 84 (field (type.Num num.Long) ∷ []) (destructor 84 10 ∷ []) ∷ [])
    (main ∷ f
    ∷ function (slot 0 ∷ []) (of_class 1) (param (refers (of_class 0)) ∷ []) (stmt.Return (Some (init.Members' (tt ∷ []) (more_of-Init (init.Value (handle_op handle.FromPromise this)) end_of-Init))) here)
    ∷ function (slot 0 ∷ []) type.Void (param (refers (of_class 0)) ∷ []) nothing
    ∷ function (slot 0 ∷ []) type.Void (param (refers (of_class 0)) ∷ []) nothing
    ∷ constructor 0 0 (init.Value (long 0) ∷ []) [] nothing
    ∷ ends_by 0 (prints (long 50)) ∷ ends_by 1 (prints (long 60))
    ∷ constructor 2 1 (init.Value (load (variable 1)) ∷ []) (param (type.Num num.Long) ∷ []) nothing ∷ moved ∷ ends_by 2 (prints (load (member this 0)))
    ∷ more)) { sizes = 96 ∷ [] }

abbrev print_of : ℕ → Event
print_of n = event.Print 0 (print.Num (pos n))

-- T t(1); co_await std::suspend_always{};
abbrev waits : CoreStmt
waits = three (stmt.Local (slot 8) (made_by 8 (long 1)) here) (awaits 7 3) (stmt.Leave here)

-- Job j = f(T(10), T(20)); j.h.destroy(); return 0;
abbrev destroyed : Program
destroyed = life (main_of (three makes_job destroys return_zero)) (coroutine take_plan.Global [] None give.Global (library_await 1 5 0) waits) []

ends_in_order : (alone destroyed 1500).events
    ≡ event.Made 1 ∷ event.Born 1 7 ∷ event.Born 1 10 ∷ event.Born 1 13 ∷ event.Born 1 17
    ∷ print_of 20 ∷ print_of 10
    ∷ print_of 1 ∷ event.Died 1 17 ∷ print_of 50 ∷ event.Died 1 13 ∷ print_of 120 ∷ event.Died 1 10 ∷ print_of 110 ∷ event.Died 1 7 ∷ event.Ended 1
    ∷ print_of 60 ∷ []
ends_in_order = refl

-- the same where `initial_suspend` throws 4: promise, copies, result object, parameters, and then the handler
abbrev catches : CoreStmt → CoreStmt
catches body =
    two (stmt.Try' _ (more_of-CoreStmt body end_of-CoreStmt) (tt ∷ []) (more_of-Handler catch.Int (Some (slot 3)) (prints (expr.Convert' num.Long _ (more_of-CoreExpr (load (variable 3)) end_of-CoreExpr) here)) end_of-Handler) here) return_zero

abbrev begins_by_throw : Program
begins_by_throw = life (main_of (catches (one makes_job))) (coroutine take_plan.Global [] None give.Global (await_of 11) waits) (throwing 4 ∷ [])

ends_before_its_body : (alone begins_by_throw 1500).events
    ≡ event.Made 1 ∷ event.Born 1 7 ∷ event.Born 1 10 ∷ event.Born 1 13
    ∷ print_of 50 ∷ event.Died 1 13 ∷ print_of 120 ∷ event.Died 1 10 ∷ print_of 110 ∷ event.Died 1 7 ∷ event.Ended 1
    ∷ print_of 60 ∷ print_of 20 ∷ print_of 10 ∷ print_of 4 ∷ []
ends_before_its_body = refl

-- ---- storage of a promise's class

abbrev address : CoType
address = type.Pointer' _ (more_of-CoType type.Void end_of-CoType)

abbrev gives_null : CoreFunc
gives_null = function (slot 0 ∷ []) address (param (type.Num num.Size) ∷ []) (stmt.Return (Some (init.Value (expr.Null here))) here)

abbrev null_job : CoreFunc
null_job = function [] (of_class 1) [] (two (prints (long 9)) (stmt.Return (Some (init.Members' (tt ∷ []) (more_of-Init (init.Value (expr.Null here)) end_of-Init))) here))

abbrev without_storage : Option ℕ → Program
without_storage on_null = life (main_of (two makes_job return_zero)) (coroutine (take_plan.Own (id 11)) [] on_null give.Global (library_await 1 5 0) waits) (gives_null ∷ null_job ∷ [])

-- the failure function makes the result, and no coroutine is made
gives_up : (alone (without_storage (Some 12)) 900).events ≡ print_of 9 ∷ print_of 20 ∷ print_of 10 ∷ print_of 60 ∷ []
gives_up = refl

gives_up_badly : (alone (without_storage None) 900).events ≡ event.Undefined 0 U10 here ∷ []
gives_up_badly = refl

-- `operator new` that gets the first parameter too and prints it, and `operator delete` that gets and prints the size
abbrev takes_with : CoreFunc
takes_with = function (slot 0 ∷ slot 1 ∷ []) address (param (type.Num num.Size) ∷ param (refers (of_class 2)) ∷ [])
    (two (prints (load (member (expr.Deref' _ (more_of-CoreExpr (load (variable 1)) end_of-CoreExpr) here) 0))) (stmt.Return (Some (init.Value (expr.Lib' library.Take (tt ∷ []) (more_of-CoreExpr (load (variable 0)) end_of-CoreExpr) here))) here))

abbrev gives_sized : CoreFunc
gives_sized = function (slot 0 ∷ slot 1 ∷ []) type.Void (param address ∷ param (type.Num num.Size) ∷ [])
    (two (prints (expr.Convert' num.Long _ (more_of-CoreExpr (load (variable 1)) end_of-CoreExpr) here)) (stmt.Full (expr.Lib' library.Give (tt ∷ []) (more_of-CoreExpr (load (variable 0)) end_of-CoreExpr) here) here))

abbrev own_storage : Program
own_storage = life (main_of (three makes_job destroys return_zero)) (coroutine (take_plan.OwnWith (id 11)) (init.Value (variable 0) ∷ []) None (give.OwnSized (id 12)) (library_await 1 5 0) (stmt.Leave here)) (takes_with ∷ gives_sized ∷ [])

storage_comes_and_goes : (alone own_storage 1500).events
    ≡ print_of 10 ∷ event.Made 1 ∷ event.Born 1 9 ∷ event.Born 1 12 ∷ event.Born 1 15
    ∷ print_of 20 ∷ print_of 10
    ∷ print_of 50 ∷ event.Died 1 15 ∷ print_of 120 ∷ event.Died 1 12 ∷ print_of 110 ∷ event.Died 1 9 ∷ event.Ended 1 ∷ print_of 96
    ∷ print_of 60 ∷ []
storage_comes_and_goes = refl

-- ---- borders [except.spec]

abbrev noexcept_second : List CoreFunc → List CoreFunc
noexcept_second (main ∷ f ∷ fs) = main ∷ record f { noexcept = true } ∷ fs
noexcept_second fs = fs

-- an exception out of a noexcept coroutine ends its frame, and goes no further
abbrev stopped : Program
stopped = record begins_by_throw { unit = record begins_by_throw.unit { funcs = noexcept_second begins_by_throw.unit.funcs } }

stops_at_the_border : (alone stopped 1500).events
    ≡ event.Made 1 ∷ event.Born 1 7 ∷ event.Born 1 10 ∷ event.Born 1 13
    ∷ print_of 50 ∷ event.Died 1 13 ∷ print_of 120 ∷ event.Died 1 10 ∷ print_of 110 ∷ event.Died 1 7 ∷ event.Ended 1
    ∷ event.Uncaught 0 (thrown.Int (pos 4)) ∷ []
stops_at_the_border = refl
