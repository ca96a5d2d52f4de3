-- Statements [stmt], and the handlers of exceptions [except.handle].
use Rattle.std.specs.Prelude.{ℕ, Bool, true, false, ◌==◌, if◌then◌else◌, List, [], ◌∷◌, Option, None, Some, ℤ}
use Rattle.co_base.specs.declared.ids.SlotId.{SlotId}
use Rattle.co_base.specs.declared.kinds.CatchOf.{CatchOf}
use Rattle.co_base.specs.declared.kinds.CatchOf.TheVariants as catch
use Rattle.co_base.specs.declared.kinds.Num.{Num}
use Rattle.co_base.specs.declared.kinds.Num.TheVariants as num
use Rattle.co_base.specs.declared.kinds.Thrown.{Thrown}
use Rattle.co_base.specs.declared.kinds.Thrown.TheVariants as thrown
use Rattle.co_base.specs.declared.kinds.Undef.TheVariants.{U6}
use Rattle.co_types.specs.declared.classes.FieldInfo.{FieldInfo}
use Rattle.co_types.specs.declared.types.CoType.{CoType}
use Rattle.co_types.specs.declared.types.Head.{Head}
use Rattle.co_types.specs.declared.types.Head.TheVariants as head
use Rattle.co_types.specs.Types.{head_of}
use Rattle.co_core_tree.specs.Slots.{acts_of, init_acts_of}
use Rattle.co_core_tree.specs.declared.exprs.CoreExpr.{CoreExpr}
use Rattle.co_core_tree.specs.declared.exprs.Init.{Init}
use Rattle.co_core_tree.specs.declared.stmts.CoreStmt.{CoreStmt, end_of-CoreStmt, items-the_row-CoreStmt, items-the_row-Handler, more_of-CoreStmt}
use Rattle.co_core_tree.specs.declared.stmts.CoreStmt.TheVariants as stmt
use Rattle.co_core_tree.specs.declared.stmts.Handler.{Handler}
use Rattle.co_meaning_data.specs.declared.values.Value.{Value}
use Rattle.co_meaning_data.specs.declared.values.Value.TheVariants as value
use Rattle.co_meaning_data.specs.Frames.{Alive, InScope, BranchOn, Breaking, Comes, Continuing, Declares, Drops, Evaluate, Execute, Given, Going, Handled, Initialize, Joined, Leaving, LoopBody, LoopStep, LoopTest, Nothing, Outcome, Passes, Returning, Returns, Scalar, Scope, Throwing, Tries, Writes}
use Rattle.co_meaning_data.specs.Store.{fields_of, next_object, whole}
use Rattle.co_meaning_calls.specs.Calls.{opens}
use Rattle.co_meaning_calls.specs.Coroutines.{is_zero}
use Rattle.co_meaning.specs.Expressions.{flag}
use Rattle.co_meaning_calls.specs.Objects.{counted_in, endings, ends, lives, type_of_slot, with_raw}
use Rattle.co_meaning_data.specs.Turn.{Local, Turned, classes, funcs, goes, is_undefined, leaves, nowhere, passes, pushed, store, under}

-- ---- full-expressions as parts of statements [intro.execution]

-- an expression that stands for itself; what it gives comes to the frame below
abbrev pub full : CoreExpr → Local → Option Turned
full e l = opens (acts_of (funcs l) e) [] (Evaluate e None) l

abbrev pub declare_in : ℕ → Init → Local → Option CoType → Option Turned
declare_in slot i l None = None
declare_in slot i l (Some of) =
    let x = next_object (store l) in
    opens (init_acts_of (funcs l) i) (Declares (record { object = x; coroutine = counted_in l of }) ∷ []) (Initialize i (Some (whole x))) (with_raw slot of (counted_in l of) l)

-- a local is live before the temporaries of its initializer die [stmt.dcl]
abbrev pub declares : Alive → Local → Option Turned
declares x l = lives x InScope Passes l

-- ---- statements

abbrev pub execute : CoreStmt → Local → Option Turned
execute (stmt.Scope' n list at) l = under (Scope [] (items-the_row-CoreStmt _ list)) (Comes Passes) l
execute (stmt.Full e at) l = full e (pushed Drops l)
execute (stmt.Local slot i at) l = declare_in slot.0 i l (type_of_slot l slot.0)
execute (stmt.If' e n (more_of-CoreStmt x end_of-CoreStmt) m (more_of-CoreStmt y end_of-CoreStmt) at) l = full e (pushed (BranchOn x y) l)
execute (stmt.Loop' e step n (more_of-CoreStmt body end_of-CoreStmt) at) l = full e (pushed (LoopTest e step body) l)
execute (stmt.Break at) l = leaves Breaking l
execute (stmt.Continue at) l = leaves Continuing l
execute (stmt.Return None at) l = leaves (Returning Nothing) l
execute (stmt.Return (Some i) at) l = opens (init_acts_of (funcs l) i) [] (Initialize i l.top.into) (pushed Returns l)
execute (stmt.Leave at) l = leaves Leaving l
execute (stmt.Try' n (more_of-CoreStmt body end_of-CoreStmt) m handlers at) l = under (Tries (items-the_row-Handler _ handlers)) (Execute body) l
execute (stmt.OffEnd at) l = is_undefined U6 at l

-- the next statement of a block; at its end its locals die, the newest first [stmt.block]
abbrev pub next_statement : List Alive → List CoreStmt → Local → Option Turned
next_statement alive [] l = ends (endings alive) Passes l
next_statement alive (s ∷ rest) l = under (Scope alive rest) (Execute s) l

-- [stmt.if]
abbrev pub branch : CoreStmt → CoreStmt → Given → Local → Option Turned
branch x y (Scalar (value.Number n z)) l = under Joined (Execute (if is_zero z then y else x)) l
branch x y g l = None

-- the body is done as long as the condition holds [stmt.while]
abbrev pub loop_tested : CoreExpr → CoreExpr → CoreStmt → Given → Local → Option Turned
loop_tested e step body (Scalar (value.Number n z)) l = if is_zero z then passes l else under (LoopBody e step body) (Execute body) l
loop_tested e step body g l = None

-- the step follows the body, and then the condition is evaluated again [stmt.for]
abbrev pub loop_body : CoreExpr → CoreExpr → CoreStmt → Local → Option Turned
loop_body e step body l = full step (pushed Drops (pushed (LoopStep e step body) l))

abbrev pub loop_step : CoreExpr → CoreExpr → CoreStmt → Local → Option Turned
loop_step e step body l = full e (pushed (LoopTest e step body) l)

-- [stmt.break] [stmt.cont]
abbrev pub loop_left : CoreExpr → CoreExpr → CoreStmt → Going → Local → Option Turned
loop_left e step body Breaking l = passes l
loop_left e step body Continuing l = loop_body e step body l
loop_left e step body going l = leaves going l

-- ---- handlers [except.handle]

-- a handler catches values of exactly its type, or all
abbrev pub catches : CatchOf → Thrown → Bool
catches catch.Any v = true
catches catch.Int (thrown.Int z) = true
catches catch.Long (thrown.Long z) = true
catches catch.Bool (thrown.Bool b) = true
catches (catch.Class a) (thrown.Class b x y z) = a.0 == b.0
catches of v = false

abbrev pub first_handler : Thrown → List Handler → Option Handler
first_handler v [] = None
first_handler v (h ∷ handlers) = if catches h.of v then Some h else first_handler v handlers

abbrev pub number_of_head : Head → Num
number_of_head (head.Num n) = n
number_of_head h = num.Long

abbrev pub member_values : List FieldInfo → List ℤ → List Value
member_values [] zs = []
member_values fields [] = []
member_values (field ∷ fields) (z ∷ zs) = value.Number (number_of_head (head_of field.of)) z ∷ member_values fields zs

-- the values of the words of an object of the type that has the thrown value
abbrev pub thrown_values : Local → CoType → Thrown → List Value
thrown_values l of (thrown.Int z) = value.Number num.Int z ∷ []
thrown_values l of (thrown.Long z) = value.Number num.Long z ∷ []
thrown_values l of (thrown.Bool b) = value.Number num.Bool (flag b) ∷ []
thrown_values l of (thrown.Class class x y z) = member_values (fields_of (classes l) of) (x ∷ y ∷ z ∷ [])
thrown_values l of thrown.None = []

abbrev pub catch_into : ℕ → Thrown → Local → Option CoType → Option Turned
catch_into slot v l None = None
catch_into slot v l (Some of) =
    let x = next_object (store l) in
    under (Declares (record { object = x; coroutine = counted_in l of })) (Writes true (whole x) 0 (thrown_values l of v) Passes nowhere) (with_raw slot of (counted_in l of) l)

abbrev pub catch_in : Option SlotId → Thrown → Local → Option Turned
catch_in None v l = passes l
catch_in (Some slot) v l = catch_into slot.0 v l (type_of_slot l slot.0)

abbrev pub enter_handler : Handler → Thrown → Local → Option Turned
enter_handler h v l = catch_in h.slot v (pushed (Scope [] (h.body ∷ [])) (pushed Handled (record l { handled = v ∷ l.handled })))

abbrev pub caught_by : Thrown → Local → Option Handler → Option Turned
caught_by v l None = leaves (Throwing v) l
caught_by v l (Some h) = enter_handler h v l

-- The first handler that fits catches the exception, which is the newest handled one from now on; its variable is a local of the
-- handler.
abbrev pub try_left : List Handler → Going → Local → Option Turned
try_left handlers (Throwing v) l = caught_by v l (first_handler v handlers)
try_left handlers going l = leaves going l

abbrev pub without_newest : List Thrown → List Thrown
without_newest [] = []
without_newest (v ∷ handled) = handled

-- the handler is left, and its exception is handled no more
abbrev pub handler_left : Outcome → Local → Option Turned
handler_left outcome l = goes (Comes outcome) (record l { handled = without_newest l.handled })
