-- Runs of programs with assignments, loops that are left, exceptions that are kept, and members that name their whole.
use Rattle.std.proofs.Common.{◌≡◌, ℕ, List, [], ◌∷◌, true, Some, None, refl}
use Rattle.std.specs.Prelude.{pos, map}
use Rattle.co_base.specs.declared.kinds.CatchOf.TheVariants as catch
use Rattle.co_base.specs.declared.kinds.Num.TheVariants as num
use Rattle.co_base.specs.declared.kinds.Op.TheVariants as op
use Rattle.co_base.specs.declared.kinds.Print.TheVariants as print
use Rattle.co_base.specs.declared.kinds.Thrown.TheVariants as thrown
use Rattle.co_base.specs.declared.kinds.Undef.TheVariants.{U4}
use Rattle.co_types.specs.declared.types.CoType.{CoType}
use Rattle.co_types.specs.declared.types.CoType.TheVariants as type
use Rattle.co_core_tree.specs.declared.exprs.CoreExpr.{CoreExpr, end_of-CoreExpr, end_of-Init, more_of-CoreExpr, more_of-Init}
use Rattle.co_core_tree.specs.declared.exprs.CoreExpr.TheVariants as expr
use Rattle.co_core_tree.specs.declared.exprs.Init.{Init}
use Rattle.co_core_tree.specs.declared.exprs.Init.TheVariants as init
use Rattle.co_core_tree.specs.declared.stmts.CoreStmt.{CoreStmt, end_of-CoreStmt, end_of-Handler, more_of-CoreStmt, more_of-Handler}
use Rattle.co_core_tree.specs.declared.stmts.CoreStmt.TheVariants as stmt
use Rattle.co_meaning_data.specs.declared.events.Event.{Event}
use Rattle.co_meaning_data.specs.declared.events.Event.TheVariants as event
use Rattle.co_meaning_data.specs.Turn.{Program}
use Rattle.co_meaning.proofs.Building.{here, slot, long, variable, load, prints, less, adds, two, three, five, return_zero, local, function, program, alone, field, class, of_class, member, nothing, one}

abbrev print_of : ℕ → Event
print_of n = event.Print 0 (print.Num (pos n))

abbrev declares : ℕ → Init → CoreStmt
declares n i = stmt.Local (slot n) i here

abbrev does : CoreExpr → CoreStmt
does e = stmt.Full e here

abbrev main_of : List CoType → CoreStmt → Program
main_of locals body = program [] (function [] (type.Num num.Int) (map local locals) body ∷ [])

abbrev exchange : CoreExpr → CoreExpr → CoreExpr
exchange p v = expr.Exchange' _ (more_of-CoreExpr p end_of-CoreExpr) _ (more_of-CoreExpr v end_of-CoreExpr) here

abbrev after_old : CoreExpr → CoreExpr → CoreExpr
after_old p v = expr.Update' op.Add num.Long _ (more_of-CoreExpr p end_of-CoreExpr) _ (more_of-CoreExpr v end_of-CoreExpr) true here

-- long a = 1; print(exchange(a, 5)); print(a++); print(a);
abbrev assigns : Program
assigns = main_of (type.Num num.Long ∷ []) (five (declares 0 (init.Value (long 1))) (prints (exchange (variable 0) (long 5))) (prints (after_old (variable 0) (long 1))) (prints (load (variable 0))) return_zero)

assigned : (alone assigns 200).events ≡ print_of 1 ∷ print_of 5 ∷ print_of 6 ∷ []
assigned = refl

-- for (long i = 0; i < 9; i += 1) { if (i < 2) continue; if (3 < i) break; print(i); }
abbrev leaves_loops : Program
leaves_loops = main_of (type.Num num.Long ∷ []) (three (declares 0 (init.Value (long 0)))
    (stmt.Loop' (less (load (variable 0)) (long 9)) (adds (variable 0) (long 1)) _ (more_of-CoreStmt
    (three (stmt.If' (less (load (variable 0)) (long 2)) _ (more_of-CoreStmt (stmt.Continue here) end_of-CoreStmt) _ (more_of-CoreStmt nothing end_of-CoreStmt) here)
    (stmt.If' (less (long 3) (load (variable 0))) _ (more_of-CoreStmt (stmt.Break here) end_of-CoreStmt) _ (more_of-CoreStmt nothing end_of-CoreStmt) here)
    (prints (load (variable 0)))) end_of-CoreStmt) here)
    return_zero)

left_loops : (alone leaves_loops 700).events ≡ print_of 2 ∷ print_of 3 ∷ []
left_loops = refl

-- std::exception_ptr p; try { throw 4; } catch (...) { p = std::current_exception(); } std::rethrow_exception(p);
abbrev throws : ℕ → CoreStmt
throws n = does (expr.Throw' (type.Num num.Int) _ (more_of-CoreExpr (expr.Const num.Int (pos n) here) end_of-CoreExpr) here)

abbrev rethrows : CoreStmt
rethrows = does (expr.RethrowPtr' _ (more_of-CoreExpr (load (variable 0)) end_of-CoreExpr) here)

abbrev keeps_exception : CoreStmt → Program
keeps_exception body = main_of (type.ExceptionPtr ∷ []) (three (declares 0 (init.Value (expr.Null here)))
    (stmt.Try' _ (more_of-CoreStmt body end_of-CoreStmt) (tt ∷ []) (more_of-Handler catch.Any None (does (expr.Store' _ (more_of-CoreExpr (variable 0) end_of-CoreExpr) _ (more_of-CoreExpr (expr.Current here) end_of-CoreExpr) here)) end_of-Handler) here)
    rethrows)

kept_exception : (alone (keeps_exception (throws 4)) 200).events ≡ event.Uncaught 0 (thrown.Int (pos 4)) ∷ []
kept_exception = refl

null_exception : (alone (keeps_exception nothing) 200).events ≡ event.Undefined 0 U4 here ∷ []
null_exception = refl

-- struct E { int code; int line; };  try { throw E{7, 8}; } catch (E e) { print(e.line); throw; }
abbrev throws_object : Program
throws_object =
    let p : Program = main_of (of_class 0 ∷ of_class 0 ∷ []) (one
    (stmt.Try' _ (more_of-CoreStmt (does (expr.Throw' (of_class 0) _ (more_of-CoreExpr (expr.Temp' (slot 0) _ (more_of-Init (init.Members' (tt ∷ tt ∷ []) (more_of-Init (init.Value (expr.Const num.Int (pos 7) here)) (more_of-Init (init.Value (expr.Const num.Int (pos 8) here)) end_of-Init))) end_of-Init) here) end_of-CoreExpr) here)) end_of-CoreStmt)
    (tt ∷ []) (more_of-Handler (catch.Class (record { 0 = 0 })) (Some (slot 1)) (two (prints (expr.Convert' num.Long _ (more_of-CoreExpr (load (member (variable 1) 1)) end_of-CoreExpr) here)) (does (expr.Rethrow here))) end_of-Handler) here)) in
    record p { unit = record p.unit { classes = class 69 (field (type.Num num.Int) ∷ field (type.Num num.Int) ∷ []) [] ∷ [] } }

threw_object : (alone throws_object 300).events ≡ print_of 8 ∷ event.Uncaught 0 (thrown.Class (record { 0 = 0 }) (pos 7) (pos 8) (pos 0)) ∷ []
threw_object = refl

-- struct A { long x = 3; long y = x; };  A a{}; print(a.y);
abbrev names_whole : Program
names_whole =
    let p : Program = main_of (of_class 0 ∷ []) (three (declares 0 (init.Members' (tt ∷ tt ∷ []) (more_of-Init (init.Value (long 3)) (more_of-Init (init.Value (load (member (expr.Whole 0 here) 0))) end_of-Init)))) (prints (load (member (variable 0) 1))) return_zero) in
    record p { unit = record p.unit { classes = class 65 (field (type.Num num.Long) ∷ field (type.Num num.Long) ∷ []) [] ∷ [] } }

named_whole : (alone names_whole 200).events ≡ print_of 3 ∷ []
named_whole = refl
