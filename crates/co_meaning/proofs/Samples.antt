-- Runs of small programs.
use Rattle.std.proofs.Common.{◌≡◌, [], ◌∷◌, Some, refl}
use Rattle.std.specs.Prelude.{pos}
use Rattle.co_base.specs.declared.kinds.Num.TheVariants as num
use Rattle.co_base.specs.declared.kinds.Print.TheVariants as print
use Rattle.co_types.specs.declared.types.CoType.TheVariants as type
use Rattle.co_core_tree.specs.declared.exprs.CoreExpr.{end_of-CoreExpr, more_of-CoreExpr, end_of-Init}
use Rattle.co_core_tree.specs.declared.exprs.CoreExpr.TheVariants as expr
use Rattle.co_core_tree.specs.declared.exprs.Init.TheVariants as init
use Rattle.co_core_tree.specs.declared.stmts.CoreStmt.{end_of-CoreStmt, more_of-CoreStmt}
use Rattle.co_core_tree.specs.declared.stmts.CoreStmt.TheVariants as stmt
use Rattle.co_meaning_data.specs.declared.events.Event.TheVariants as event
use Rattle.co_meaning_data.specs.Turn.{Program}
use Rattle.co_base.specs.declared.kinds.CatchOf.TheVariants as catch
use Rattle.co_base.specs.declared.kinds.Undef.TheVariants.{U2}
use Rattle.co_core_tree.specs.declared.kinds.HandleOp.TheVariants as handle
use Rattle.co_core_tree.specs.declared.stmts.CoreStmt.{end_of-Handler, more_of-Handler}
use Rattle.co_meaning.proofs.Building.{here, slot, long, variable, load, prints, less, adds, two, three, return_zero, local, function, program, alone, field, destructor, class, of_class, this, member, param, nothing, one, call, constructor, ends_by, made_by, awaits, five, job, makes_job, on_job, body_of_two}

-- `int main() { for (long i = 0; i < 3; i += 1) corun::print(i); return 0; }`
abbrev counts_to_three : Program
counts_to_three = program [] (function [] (type.Num num.Int) (local (type.Num num.Long) ∷ [])
    (three (stmt.Local (slot 0) (init.Value (long 0)) here)
    (stmt.Loop' (less (load (variable 0)) (long 3)) (adds (variable 0) (long 1)) _ (more_of-CoreStmt (prints (load (variable 0))) end_of-CoreStmt) here)
    return_zero) ∷ [])

prints_three : (alone counts_to_three 200).events ≡ event.Print 0 (print.Num (pos 0)) ∷ event.Print 0 (print.Num (pos 1)) ∷ event.Print 0 (print.Num (pos 2)) ∷ []
prints_three = refl

returns_zero : (alone counts_to_three 200).shared.main ≡ Some (pos 0)
returns_zero = refl

-- ---- objects and exceptions

-- struct T { long v; T(long x) : v(x) {} ~T() { corun::print(v); } };
-- long g() { throw 5; }
-- struct P { T a; T b; P() : a(1), b(g()) {} };
-- int main() { try { P p; } catch (int e) { corun::print(e); } return 0; }
abbrev half_way : Program
half_way = program
    (class 84 (field (type.Num num.Long) ∷ []) (destructor 84 2 ∷ []) ∷ class 80 (field (of_class 0) ∷ field (of_class 0) ∷ []) (destructor 80 5 ∷ []) ∷ [])
    (function [] (type.Num num.Int) (local (of_class 1) ∷ local (type.Num num.Int) ∷ [])
    (two (stmt.Try' _ (more_of-CoreStmt (one (stmt.Local (slot 0) (init.Ctor' (record { 0 = 3 }) [] end_of-Init) here)) end_of-CoreStmt)
    (tt ∷ []) (more_of-Handler (catch.Int) (Some (slot 1)) (prints (expr.Convert' num.Long _ (more_of-CoreExpr (load (variable 1)) end_of-CoreExpr) here)) end_of-Handler) here)
    return_zero)
    ∷ constructor 0 1 (init.Value (load (variable 1)) ∷ []) (param (type.Num num.Long) ∷ []) nothing
    ∷ ends_by 0 (prints (load (member this 0)))
    ∷ constructor 1 0 (made_by 1 (long 1) ∷ made_by 1 (call 4) ∷ []) [] nothing
    ∷ function [] (type.Num num.Long) [] (stmt.Full (expr.Throw' (type.Num num.Int) _ (more_of-CoreExpr (expr.Const num.Int (pos 5) here) end_of-CoreExpr) here) here)
    ∷ ends_by 1 nothing
    ∷ [])

half_way_ends : (alone half_way 300).events ≡ event.Print 0 (print.Num (pos 1)) ∷ event.Print 0 (print.Num (pos 5)) ∷ []
half_way_ends = refl

half_way_returns : (alone half_way 300).shared.main ≡ Some (pos 0)
half_way_returns = refl

-- ---- a coroutine

-- Job f() { corun::print(1); co_await std::suspend_always{}; corun::print(2); }
-- int main() { Job j = f(); j.h.resume(); corun::print(9); j.h.destroy(); return 0; }
abbrev resumes_once : Program
resumes_once = job (five makes_job (on_job handle.Resume) (prints (long 9)) (on_job handle.Destroy) return_zero) body_of_two

resumed_once : (alone resumes_once 600).events
    ≡ event.Made 1 ∷ event.Born 1 1 ∷ event.Print 0 (print.Num (pos 1)) ∷ event.Print 0 (print.Num (pos 2)) ∷ event.Print 0 (print.Num (pos 9)) ∷ event.Died 1 1 ∷ event.Ended 1 ∷ []
resumed_once = refl

-- the same without the first resume: the body ends at its first suspension
abbrev resumes_never : Program
resumes_never = job (three makes_job (on_job handle.Destroy) return_zero) body_of_two

resumed_never : (alone resumes_never 600).events ≡ event.Made 1 ∷ event.Born 1 1 ∷ event.Print 0 (print.Num (pos 1)) ∷ event.Died 1 1 ∷ event.Ended 1 ∷ []
resumed_never = refl

-- a resume at the final suspend point is undefined
abbrev resumes_twice : Program
resumes_twice = job (five makes_job (on_job handle.Resume) (on_job handle.Resume) (prints (long 9)) return_zero) body_of_two

resumed_twice : (alone resumes_twice 600).events
    ≡ event.Made 1 ∷ event.Born 1 1 ∷ event.Print 0 (print.Num (pos 1)) ∷ event.Print 0 (print.Num (pos 2)) ∷ event.Undefined 0 U2 here ∷ []
resumed_twice = refl

-- an exception out of the body is handled, and the coroutine is at its final suspend point
abbrev throws_in_body : Program
throws_in_body = job (five makes_job (on_job handle.Resume) (prints (long 9)) (on_job handle.Destroy) return_zero)
    (two (awaits 3 3) (stmt.Full (expr.Throw' (type.Num num.Int) _ (more_of-CoreExpr (expr.Const num.Int (pos 5) here) end_of-CoreExpr) here) here))

threw_in_body : (alone throws_in_body 600).events
    ≡ event.Made 1 ∷ event.Born 1 1 ∷ event.Print 0 (print.Num (pos 9)) ∷ event.Died 1 1 ∷ event.Ended 1 ∷ []
threw_in_body = refl
