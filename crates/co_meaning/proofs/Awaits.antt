-- Runs of coroutines with awaiters of their own: each answer of `await_suspend`, exceptions, transfer, and several agents.
use Rattle.std.specs.Prelude.{map}
use Rattle.std.proofs.Common.{◌≡◌, ℕ, List, [], ◌∷◌, ◌++◌, Some, None, refl}
use Rattle.std.specs.Prelude.{pos, replicate}
use Rattle.co_base.specs.declared.kinds.CatchOf.TheVariants as catch
use Rattle.co_base.specs.declared.kinds.Num.TheVariants as num
use Rattle.co_base.specs.declared.kinds.Print.TheVariants as print
use Rattle.co_base.specs.declared.kinds.Thrown.TheVariants as thrown
use Rattle.co_base.specs.declared.kinds.Undef.TheVariants.{U1, U2}
use Rattle.co_types.specs.declared.types.CoType.{CoType}
use Rattle.co_types.specs.declared.types.CoType.TheVariants as type
use Rattle.co_core_tree.specs.declared.exprs.CoreExpr.{CoreExpr, end_of-AwaitPlan, end_of-CoreExpr, end_of-Init, more_of-AwaitPlan, more_of-CoreExpr, more_of-Init}
use Rattle.co_core_tree.specs.declared.exprs.CoreExpr.TheVariants as expr
use Rattle.co_core_tree.specs.declared.exprs.Init.TheVariants as init
use Rattle.co_core_tree.specs.declared.kinds.Answer.{Answer}
use Rattle.co_core_tree.specs.declared.kinds.Answer.TheVariants as answer
use Rattle.co_core_tree.specs.declared.kinds.HandleOp.TheVariants as handle
use Rattle.co_core_tree.specs.declared.kinds.LibOp.TheVariants as library
use Rattle.co_core_tree.specs.declared.kinds.SlotKind.TheVariants as kind
use Rattle.co_core_tree.specs.declared.stmts.CoreStmt.{CoreStmt, end_of-CoreStmt, end_of-Handler, more_of-CoreStmt, more_of-Handler}
use Rattle.co_core_tree.specs.declared.stmts.CoreStmt.TheVariants as stmt
use Rattle.co_core_tree.specs.declared.units.CoreFunc.{CoreFunc}
use Rattle.co_core_tree.specs.declared.units.SlotInfo.{SlotInfo}
use Rattle.co_meaning_data.specs.declared.events.Event.TheVariants as event
use Rattle.co_meaning_data.specs.declared.events.Move.{Move}
use Rattle.co_meaning_data.specs.declared.events.Move.TheVariants as move
use Rattle.co_meaning_data.specs.Turn.{Program}
use Rattle.co_meaning.specs.Runs.{runs}
use Rattle.co_meaning.proofs.Building.{here, slot, long, variable, load, prints, two, three, return_zero, function, program, alone, field, class, of_class, refers, param, id, makes_job, on_job, handle_of_job, job_funcs, awaits, with_this, handle_op, local}

-- ---- programs

-- an expression as a number of type `long`
abbrev as_long : CoreExpr → CoreExpr
as_long e = expr.Convert' num.Long _ (more_of-CoreExpr e end_of-CoreExpr) here

abbrev throws : ℕ → CoreStmt
throws n = stmt.Full (expr.Throw' (type.Num num.Int) _ (more_of-CoreExpr (expr.Const num.Int (pos n) here) end_of-CoreExpr) here) here

abbrev catches : CoreStmt → CoreStmt
catches body =
    stmt.Try' _ (more_of-CoreStmt body end_of-CoreStmt) (tt ∷ []) (more_of-Handler catch.Int (Some (slot 5)) (prints (as_long (load (variable 5)))) end_of-Handler) here

abbrev own_handle : CoreExpr
own_handle = handle_op handle.FromPromise (variable 0)

-- an await of an object of the class 2, whose functions are 6, 7 and 8
abbrev own_await : Answer → ℕ → CoreExpr
own_await a point =
    expr.Await' _ (more_of-AwaitPlan
    (expr.Temp' (slot 4) _ (more_of-Init (init.Members' [] end_of-Init) end_of-Init) here) (slot 4)
    (expr.Call' (id 6) (tt ∷ []) (more_of-Init (init.Value (variable 4)) end_of-Init) here)
    (expr.Call' (id 7) (tt ∷ tt ∷ []) (more_of-Init (init.Value (variable 4)) (more_of-Init (init.Value own_handle) end_of-Init)) here)
    a
    (expr.Call' (id 8) (tt ∷ []) (more_of-Init (init.Value (variable 4)) end_of-Init) here)
    (record { 0 = point }) here end_of-AwaitPlan)

abbrev own_awaits : Answer → CoreStmt
own_awaits a = stmt.Full (own_await a 3) here

abbrev of_awaiter : List SlotInfo → CoType → CoreStmt → CoreFunc
of_awaiter more result body = function (slot 0 ∷ (map (λ s. slot 1) more)) result (param (refers (of_class 2)) ∷ more) body

abbrev returns : CoreExpr → CoreStmt
returns e = stmt.Return (Some (init.Value e)) here

abbrev is_true : ℕ → CoreExpr
is_true n = expr.Const num.Bool (pos n) here

abbrev awaiter : CoType → CoreStmt → List CoreFunc
awaiter answers suspend =
    of_awaiter [] (type.Num num.Bool) (returns (is_true 0))
    ∷ of_awaiter (param (type.Handle None) ∷ []) answers suspend
    ∷ of_awaiter [] type.Void (prints (long 7))
    ∷ []

abbrev with_slots : List SlotInfo → List CoreFunc → List CoreFunc
with_slots more (main ∷ f ∷ fs) = main ∷ record f { slots = f.slots ++ more } ∷ fs
with_slots more fs = fs

abbrev awaiting : List CoreFunc → CoreStmt → CoreStmt → Program
awaiting more main body =
    record (program (class 80 (field (type.Num num.Long) ∷ []) [] ∷ class 74 (field (type.Handle None) ∷ []) [] ∷ class 65 [] [] ∷ [])
    (with_slots (record { of = of_class 2; kind = kind.Temp } ∷ local (type.Num num.Int) ∷ []) (job_funcs main body) ++ more)) { sizes = 64 ∷ [] }

abbrev destroys_job : CoreStmt
destroys_job = three makes_job (on_job handle.Destroy) return_zero

-- ---- the answers [expr.await]

-- `await_suspend` prints 1 and answers false, and the coroutine goes on
abbrev answers_false : Program
answers_false = awaiting (awaiter (type.Num num.Bool) (two (prints (long 1)) (returns (is_true 0)))) destroys_job (three (own_awaits answer.Bool) (prints (long 3)) (two (with_this 3) (stmt.Leave here)))

answered_false : (alone answers_false 900).events
    ≡ event.Made 1 ∷ event.Born 1 1 ∷ event.Born 1 5 ∷ event.Print 0 (print.Num (pos 1)) ∷ event.Print 0 (print.Num (pos 7)) ∷ event.Died 1 5 ∷ event.Print 0 (print.Num (pos 3)) ∷ event.Died 1 1 ∷ event.Ended 1 ∷ []
answered_false = refl

-- it answers true, and the coroutine stays suspended: its awaiter dies when it is destroyed
abbrev answers_true : Program
answers_true = awaiting (awaiter (type.Num num.Bool) (two (prints (long 1)) (returns (is_true 1)))) destroys_job (three (own_awaits answer.Bool) (prints (long 3)) (two (with_this 3) (stmt.Leave here)))

answered_true : (alone answers_true 900).events
    ≡ event.Made 1 ∷ event.Born 1 1 ∷ event.Born 1 5 ∷ event.Print 0 (print.Num (pos 1)) ∷ event.Died 1 5 ∷ event.Died 1 1 ∷ event.Ended 1 ∷ []
answered_true = refl

-- it throws, and the exception is thrown in the coroutine, which catches it
abbrev answers_by_throw : Program
answers_by_throw = awaiting (awaiter type.Void (throws 5)) destroys_job (three (catches (own_awaits answer.Void)) (prints (long 3)) (two (with_this 3) (stmt.Leave here)))

answered_by_throw : (alone answers_by_throw 900).events
    ≡ event.Made 1 ∷ event.Born 1 1 ∷ event.Born 1 5 ∷ event.Died 1 5 ∷ event.Print 0 (print.Num (pos 5)) ∷ event.Print 0 (print.Num (pos 3)) ∷ event.Died 1 1 ∷ event.Ended 1 ∷ []
answered_by_throw = refl

-- it resumes its coroutine, which runs to its end, and then answers false: that is undefined
abbrev answers_late : Program
answers_late = awaiting (awaiter (type.Num num.Bool) (two (stmt.Full (handle_op handle.Resume (load (variable 1))) here) (returns (is_true 0)))) destroys_job (two (own_awaits answer.Bool) (two (with_this 3) (stmt.Leave here)))

answered_late : (alone answers_late 900).events
    ≡ event.Made 1 ∷ event.Born 1 1 ∷ event.Born 1 5 ∷ event.Print 0 (print.Num (pos 7)) ∷ event.Died 1 5 ∷ event.Undefined 0 U1 here ∷ []
answered_late = refl

-- it answers its own handle, which is resumed in its place
abbrev answers_itself : Program
answers_itself = awaiting (awaiter (type.Handle None) (returns (load (variable 1)))) destroys_job (two (own_awaits answer.Handle) (two (with_this 3) (stmt.Leave here)))

answered_itself : (alone answers_itself 900).events
    ≡ event.Made 1 ∷ event.Born 1 1 ∷ event.Born 1 5 ∷ event.Print 0 (print.Num (pos 7)) ∷ event.Died 1 5 ∷ event.Died 1 1 ∷ event.Ended 1 ∷ []
answered_itself = refl

-- it answers the no-op handle, and control returns
abbrev answers_noop : Program
answers_noop = awaiting (awaiter (type.Handle None) (returns (expr.Handle' handle.Noop [] end_of-CoreExpr here))) destroys_job (two (own_awaits answer.Handle) (two (with_this 3) (stmt.Leave here)))

answered_noop : (alone answers_noop 900).events
    ≡ event.Made 1 ∷ event.Born 1 1 ∷ event.Born 1 5 ∷ event.Died 1 5 ∷ event.Died 1 1 ∷ event.Ended 1 ∷ []
answered_noop = refl

-- ---- exceptions out of `unhandled_exception`

abbrev rethrows : List CoreFunc → List CoreFunc
rethrows (main ∷ f ∷ result ∷ void_ ∷ unhandled ∷ fs) = main ∷ f ∷ result ∷ void_ ∷ record unhandled { body = stmt.Full (expr.Rethrow here) here } ∷ fs
rethrows fs = fs

abbrev rethrowing : Program → Program
rethrowing p = record p { unit = record p.unit { funcs = rethrows p.unit.funcs } }

-- the coroutine is at its final suspend point, and the exception comes to the resume
abbrev throws_to_resume : Program
throws_to_resume = rethrowing (awaiting [] (three makes_job (two (stmt.Try' _ (more_of-CoreStmt (on_job handle.Resume) end_of-CoreStmt) (tt ∷ []) (more_of-Handler catch.Any None (prints (as_long (handle_op handle.Done handle_of_job))) end_of-Handler) here) (on_job handle.Destroy)) return_zero) (two (awaits 3 3) (throws 9)))

threw_to_resume : (alone throws_to_resume 900).events
    ≡ event.Made 1 ∷ event.Born 1 1 ∷ event.Print 0 (print.Num (pos 1)) ∷ event.Died 1 1 ∷ event.Ended 1 ∷ []
threw_to_resume = refl

-- ---- several agents

abbrev go : ℕ → ℕ → List Move
go w n = replicate n (move.Go w)

-- `main` posts the handle, another agent takes it, and the coroutine goes on there
abbrev posts : Program
posts = awaiting [] (three makes_job (stmt.Full (expr.Lib' library.Post (tt ∷ []) (more_of-CoreExpr handle_of_job end_of-CoreExpr) here) here) return_zero) (three (awaits 3 3) (prints (long 2)) (two (with_this 3) (stmt.Leave here)))

posted : (runs posts 1 (go 0 400 ++ move.Take 1 0 ∷ go 1 200)).events
    ≡ event.Made 1 ∷ event.Born 1 1 ∷ event.Print 1 (print.Num (pos 2)) ∷ []
posted = refl

-- a second take of the same handle finds the coroutine at its final suspend point
abbrev posts_twice : Program
posts_twice = awaiting [] (three makes_job (two (stmt.Full (expr.Lib' library.Post (tt ∷ []) (more_of-CoreExpr handle_of_job end_of-CoreExpr) here) here) (stmt.Full (expr.Lib' library.Post (tt ∷ []) (more_of-CoreExpr handle_of_job end_of-CoreExpr) here) here)) return_zero) (three (awaits 3 3) (prints (long 2)) (two (with_this 3) (stmt.Leave here)))

posted_twice : (runs posts_twice 1 (go 0 500 ++ move.Take 1 1 ∷ go 1 200 ++ move.Take 1 0 ∷ go 1 5)).events
    ≡ event.Made 1 ∷ event.Born 1 1 ∷ event.Print 1 (print.Num (pos 2)) ∷ event.Undefined 1 U2 (record { line = 0; col = 0 }) ∷ []
posted_twice = refl

-- an exception reaches the end of `main`
abbrev throws_out : Program
throws_out = program [] (function [] (type.Num num.Int) [] (throws 3) ∷ [])

threw_out : (alone throws_out 50).events ≡ event.Uncaught 0 (thrown.Int (pos 3)) ∷ []
threw_out = refl
