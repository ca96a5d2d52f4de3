-- Runs of programs with storage of their own, class parameters, conditional temporaries, atomics and undefined acts.
use Rattle.std.specs.Prelude.{map, negsuc}
use Rattle.co_core_tree.specs.declared.kinds.AtomicOp.{AtomicOp}
use Rattle.co_meaning_data.specs.declared.values.Standing.TheVariants as standing
use Rattle.co_base.specs.declared.kinds.Thrown.TheVariants as thrown
use Rattle.std.proofs.Common.{◌≡◌, ℕ, suc, List, [], ◌∷◌, Bool, true, false, Some, refl}
use Rattle.std.specs.Prelude.{pos}
use Rattle.co_base.specs.declared.kinds.AtomicKind.TheVariants as atomic_kind
use Rattle.co_base.specs.declared.kinds.Num.TheVariants as num
use Rattle.co_base.specs.declared.kinds.Op.TheVariants as op
use Rattle.co_base.specs.declared.kinds.Print.TheVariants as print
use Rattle.co_base.specs.declared.kinds.Undef.TheVariants.{U4, U5, U7, U8, U9, U10, U11}
use Rattle.co_types.specs.declared.types.CoType.{CoType, end_of-CoType, more_of-CoType}
use Rattle.co_types.specs.declared.types.CoType.TheVariants as type
use Rattle.co_core_tree.specs.declared.exprs.CoreExpr.{CoreExpr, end_of-CoreExpr, end_of-DeletePlan, end_of-Init, end_of-NewPlan, more_of-CoreExpr, more_of-DeletePlan, more_of-Init, more_of-NewPlan}
use Rattle.co_core_tree.specs.declared.exprs.CoreExpr.TheVariants as expr
use Rattle.co_core_tree.specs.declared.exprs.Init.{Init}
use Rattle.co_core_tree.specs.declared.exprs.Init.TheVariants as init
use Rattle.co_core_tree.specs.declared.kinds.AtomicOp.TheVariants as atomic
use Rattle.co_core_tree.specs.declared.kinds.GivePlan.TheVariants as give
use Rattle.co_core_tree.specs.declared.kinds.HandleOp.TheVariants as handle
use Rattle.co_core_tree.specs.declared.kinds.SlotKind.TheVariants as kind
use Rattle.co_core_tree.specs.declared.kinds.TakePlan.{TakePlan}
use Rattle.co_core_tree.specs.declared.kinds.TakePlan.TheVariants as take_plan
use Rattle.co_core_tree.specs.declared.stmts.CoreStmt.{CoreStmt}
use Rattle.co_core_tree.specs.declared.stmts.CoreStmt.TheVariants as stmt
use Rattle.co_core_tree.specs.declared.units.CoreFunc.{CoreFunc}
use Rattle.co_meaning_data.specs.declared.events.Event.TheVariants as event
use Rattle.co_meaning_data.specs.Turn.{Program}
use Rattle.co_meaning.proofs.Building.{here, slot, long, variable, load, prints, two, three, five, return_zero, function, program, alone, field, class, constructor, destructor, ends_by, made_by, member, of_class, this, param, nothing, id, call, local, job, makes_job, on_job, handle_of_job, awaits, with_this}

abbrev pointer_to : CoType → CoType
pointer_to of = type.Pointer' _ (more_of-CoType of end_of-CoType)

abbrev deref : CoreExpr → CoreExpr
deref e = expr.Deref' _ (more_of-CoreExpr e end_of-CoreExpr) here

abbrev address : CoreExpr → CoreExpr
address e = expr.Address' _ (more_of-CoreExpr e end_of-CoreExpr) here

abbrev declares : ℕ → Init → CoreStmt
declares n i = stmt.Local (slot n) i here

abbrev does : CoreExpr → CoreStmt
does e = stmt.Full e here

-- `struct T { long v; T(long x) : v(x) {} ~T() { corun::print(v); } };` is the class 0, with the functions 1 and 2.
abbrev with_t : List CoreFunc → CoreFunc → Program
with_t more main =
    program (class 84 (field (type.Num num.Long) ∷ []) (destructor 84 2 ∷ []) ∷ [])
    (main ∷ constructor 0 1 (init.Value (load (variable 1)) ∷ []) (param (type.Num num.Long) ∷ []) nothing ∷ ends_by 0 (prints (load (member this 0))) ∷ more)

abbrev main_of : List CoType → CoreStmt → CoreFunc
main_of locals body = function [] (type.Num num.Int) (map local locals) body

-- ---- `new` and `delete` [expr.new] [expr.delete]

abbrev new_t : TakePlan → Bool → Init → CoreExpr
new_t take may_be_null i = expr.New' _ (more_of-NewPlan (of_class 0) take may_be_null i give.Global here end_of-NewPlan)

abbrev delete_t : CoreExpr → CoreExpr
delete_t e = expr.Delete' _ (more_of-DeletePlan (of_class 0) e (Some (id 2)) give.Global here end_of-DeletePlan)

-- T* p = new T(4); delete p; delete p;
abbrev deletes_twice : Program
deletes_twice = with_t [] (main_of (pointer_to (of_class 0) ∷ []) (five (declares 0 (init.Value (new_t take_plan.Global false (made_by 1 (long 4))))) (does (delete_t (load (variable 0)))) (does (delete_t (expr.Null here))) (does (delete_t (load (variable 0)))) return_zero))

deleted_twice : (alone deletes_twice 300).events ≡ event.Print 0 (print.Num (pos 4)) ∷ event.Undefined 0 U11 here ∷ []
deleted_twice = refl

-- an `operator new` of the class that gives null
abbrev gives_null : CoreFunc
gives_null = function (slot 0 ∷ []) (pointer_to type.Void) (param (type.Num num.Size) ∷ []) (stmt.Return (Some (init.Value (expr.Null here))) here)

abbrev takes_null : Bool → Program
takes_null may_be_null = with_t (gives_null ∷ []) (main_of (pointer_to (of_class 0) ∷ []) (three (declares 0 (init.Value (new_t (take_plan.Own (id 3)) may_be_null (made_by 1 (long 4))))) (prints (long 8)) return_zero))

took_null : (alone (takes_null true) 200).events ≡ event.Print 0 (print.Num (pos 8)) ∷ []
took_null = refl

took_null_badly : (alone (takes_null false) 200).events ≡ event.Undefined 0 U10 here ∷ []
took_null_badly = refl

-- an exception out of the initialization releases the storage: new T(g()), where g throws
abbrev throwing : CoreFunc
throwing = function [] (type.Num num.Long) [] (stmt.Full (expr.Throw' (type.Num num.Int) _ (more_of-CoreExpr (expr.Const num.Int (pos 5) here) end_of-CoreExpr) here) here)

abbrev throws_in_new : Program
throws_in_new = with_t (throwing ∷ []) (main_of (pointer_to (of_class 0) ∷ []) (two (declares 0 (init.Value (new_t take_plan.Global false (made_by 1 (call 3))))) return_zero))

threw_in_new : (alone throws_in_new 200).shared.store.blocks ≡ record { words = 1; released = true; standing = standing.Nothing } ∷ []
threw_in_new = refl

-- ---- class parameters [expr.call]

-- f(T(1), T(2)) where f prints the sum: the parameters die in the reverse order
abbrev takes_two : CoreFunc
takes_two = function (slot 0 ∷ slot 1 ∷ []) type.Void (param (of_class 0) ∷ param (of_class 0) ∷ []) (prints (expr.Arith' op.Add num.Long _ (more_of-CoreExpr (load (member (variable 0) 0)) end_of-CoreExpr) _ (more_of-CoreExpr (load (member (variable 1) 0)) end_of-CoreExpr) here))

abbrev temp : ℕ → Init → CoreExpr
temp n i = expr.Temp' (slot n) _ (more_of-Init i end_of-Init) here

abbrev calls_with_two : CoreExpr → Program
calls_with_two second =
    let main : CoreFunc = record (main_of [] (two (does (expr.Call' (id 3) (tt ∷ tt ∷ []) (more_of-Init (init.Value (temp 0 (made_by 1 (long 1)))) (more_of-Init (init.Value (temp 1 (made_by 1 second))) end_of-Init)) here)) return_zero))
    { slots = record { of = of_class 0; kind = kind.Temp } ∷ record { of = of_class 0; kind = kind.Temp } ∷ [] } in
    with_t (takes_two ∷ throwing ∷ []) main

called_with_two : (alone (calls_with_two (long 2)) 300).events ≡ event.Print 0 (print.Num (pos 3)) ∷ event.Print 0 (print.Num (pos 2)) ∷ event.Print 0 (print.Num (pos 1)) ∷ []
called_with_two = refl

-- the second argument throws, and the first one's object dies
call_given_up : (alone (calls_with_two (call 4)) 300).events ≡ event.Print 0 (print.Num (pos 1)) ∷ event.Uncaught 0 (thrown.Int (pos 5)) ∷ []
call_given_up = refl

-- ---- temporaries of conditional operands [class.temporary]

-- (b ? T(1) : T(2)).v as a statement: only the temporary of the chosen branch is made and dies
abbrev picks_one : ℕ → Program
picks_one b =
    let branch : ℕ → CoreExpr = λ n. load (member (temp n (made_by 1 (long (suc n)))) 0) in
    let main : CoreFunc = record (main_of [] (two (prints (expr.Pick' _ (more_of-CoreExpr (expr.Const num.Bool (pos b) here) end_of-CoreExpr) _ (more_of-CoreExpr (branch 0) end_of-CoreExpr) _ (more_of-CoreExpr (branch 1) end_of-CoreExpr) here)) return_zero))
    { slots = record { of = of_class 0; kind = kind.Temp } ∷ record { of = of_class 0; kind = kind.Temp } ∷ [] } in
    with_t [] main

picked_first : (alone (picks_one 1) 200).events ≡ event.Print 0 (print.Num (pos 1)) ∷ event.Print 0 (print.Num (pos 1)) ∷ []
picked_first = refl

picked_second : (alone (picks_one 0) 200).events ≡ event.Print 0 (print.Num (pos 2)) ∷ event.Print 0 (print.Num (pos 2)) ∷ []
picked_second = refl

-- ---- atomics [atomics.types.operations]

abbrev on_atomic : AtomicOp → CoreExpr → CoreExpr
on_atomic o v = expr.Atomic' o (tt ∷ tt ∷ []) (more_of-CoreExpr (expr.Global 0 here) (more_of-CoreExpr v end_of-CoreExpr)) here

abbrev int : ℕ → CoreExpr
int n = expr.Const num.Int (pos n) here

abbrev as_long : CoreExpr → CoreExpr
as_long e = expr.Convert' num.Long _ (more_of-CoreExpr e end_of-CoreExpr) here

-- `std::atomic<int> a{2147483647};` a.fetch_add(1) wraps; then compare_exchange_strong with a wrong expected value loads it
abbrev on_atomics : Program
on_atomics =
    let p : Program = program [] (main_of (type.Num num.Int ∷ []) (five (prints (as_long (on_atomic atomic.Add (int 1)))) (declares 0 (init.Value (int 3)))
    (prints (as_long (expr.Atomic' atomic.Cas (tt ∷ tt ∷ tt ∷ []) (more_of-CoreExpr (expr.Global 0 here) (more_of-CoreExpr (variable 0) (more_of-CoreExpr (int 4) end_of-CoreExpr))) here)))
    (prints (as_long (load (variable 0)))) return_zero) ∷ []) in
    record p { unit = record p.unit { globals = record { of = type.Atomic atomic_kind.Int; value = pos 2147483647 } ∷ [] } }

atomics_wrap : (alone on_atomics 200).events ≡ event.Print 0 (print.Num (pos 2147483647)) ∷ event.Print 0 (print.Num (pos 0)) ∷ event.Print 0 (print.Num (negsuc 2147483647)) ∷ []
atomics_wrap = refl

-- ---- undefined acts

-- int a = 2147483647; a = a + 1;
abbrev overflows : Program
overflows = program [] (main_of (type.Num num.Int ∷ []) (two (declares 0 (init.Value (int 2147483647))) (does (expr.Arith' op.Add num.Int _ (more_of-CoreExpr (load (variable 0)) end_of-CoreExpr) _ (more_of-CoreExpr (int 1) end_of-CoreExpr) here))) ∷ [])

overflowed : (alone overflows 100).events ≡ event.Undefined 0 U5 here ∷ []
overflowed = refl

-- int a; corun::print(a);
abbrev reads_raw : Program
reads_raw = program [] (main_of (type.Num num.Int ∷ []) (two (declares 0 init.Raw) (prints (as_long (load (variable 0))))) ∷ [])

raw_read : (alone reads_raw 100).events ≡ event.Undefined 0 U8 here ∷ []
raw_read = refl

-- int* p; { int a = 1; p = &a; } corun::print(*p);
abbrev reads_ended : Program
reads_ended = program [] (main_of (pointer_to (type.Num num.Int) ∷ type.Num num.Int ∷ []) (three (declares 0 init.Raw)
    (two (declares 1 (init.Value (int 1))) (does (expr.Store' _ (more_of-CoreExpr (variable 0) end_of-CoreExpr) _ (more_of-CoreExpr (address (variable 1)) end_of-CoreExpr) here)))
    (prints (as_long (load (deref (load (variable 0))))))) ∷ [])

ended_read : (alone reads_ended 100).events ≡ event.Undefined 0 U7 here ∷ []
ended_read = refl

-- *p of a null pointer
abbrev reads_null : Program
reads_null = program [] (main_of [] (prints (as_long (load (deref (expr.Null here))))) ∷ [])

null_read : (alone reads_null 100).events ≡ event.Undefined 0 U4 here ∷ []
null_read = refl

-- comparing two handles of a coroutine that has ended
abbrev compares_ended : Program
compares_ended = job (five makes_job (on_job handle.Destroy) (does (expr.Same' _ (more_of-CoreExpr handle_of_job end_of-CoreExpr) _ (more_of-CoreExpr (expr.Null here) end_of-CoreExpr) here)) (does (expr.Same' _ (more_of-CoreExpr handle_of_job end_of-CoreExpr) _ (more_of-CoreExpr handle_of_job end_of-CoreExpr) here)) return_zero) (two (awaits 3 3) (two (with_this 3) (stmt.Leave here)))

ended_compared : (alone compares_ended 600).events ≡ event.Made 1 ∷ event.Born 1 1 ∷ event.Died 1 1 ∷ event.Ended 1 ∷ event.Undefined 0 U9 here ∷ []
ended_compared = refl
