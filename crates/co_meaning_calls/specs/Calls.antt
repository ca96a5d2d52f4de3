-- Calls of functions [expr.call], what stands around their bodies, and how they return.
use Rattle.std.specs.Prelude.{ℕ, zero, suc, Bool, true, false, if◌then◌else◌, List, [], ◌∷◌, ◌++◌, length, replicate, reverse, slice_get, slice_set, Option, None, Some, is_some, ℤ, pos}
use Rattle.co_base.specs.declared.ids.ClassId.{ClassId}
use Rattle.co_base.specs.declared.ids.SlotId.{SlotId}
use Rattle.co_types.specs.declared.types.CoType.{CoType}
use Rattle.co_core_tree.specs.Acts.{Act, init_acts}
use Rattle.co_core_tree.specs.Slots.{Temporary, class_params, holds_class, is_class, slot_at, temporaries}
use Rattle.co_core_tree.specs.declared.exprs.CoreExpr.{CoreExpr, end_of-Init, more_of-Init}
use Rattle.co_core_tree.specs.declared.exprs.CoreExpr.TheVariants as expr
use Rattle.co_core_tree.specs.declared.exprs.Init.{Init}
use Rattle.co_core_tree.specs.declared.exprs.Init.TheVariants as init
use Rattle.co_core_tree.specs.declared.stmts.CoreStmt.{CoreStmt}
use Rattle.co_core_tree.specs.declared.units.CoreFunc.{CoreFunc}
use Rattle.co_core_tree.specs.declared.units.FuncRole.{FuncRole}
use Rattle.co_core_tree.specs.declared.units.FuncRole.TheVariants as role
use Rattle.co_core_tree.specs.declared.units.PromisePlan.{PromisePlan}
use Rattle.co_meaning_data.specs.declared.values.Cell.{Cell}
use Rattle.co_meaning_data.specs.declared.values.Cell.TheVariants as cell
use Rattle.co_meaning_data.specs.declared.values.Value.{Value}
use Rattle.co_meaning_data.specs.declared.values.Value.TheVariants as value
use Rattle.co_meaning_data.specs.Frames.{Activation, ArgumentMade, At, Border, Building, Call, Called, Calling, Comes, Constructing, Doing, Execute, FieldMade, FieldsEnd, Frame, Full, Function, Given, Gives, Goes, Going, Idle, Initialize, Kind, Nothing, OfFunction, OfRamp, Opens, Outcome, Passes, RampTake, Returning, Scalar, Temporal, Throwing}
use Rattle.co_meaning_data.specs.Store.{make_live, Place, Store, add_object, field_of_place, live_object, next_object, whole}
use Rattle.co_meaning_calls.specs.Objects.{unseen_endings, ends, slot_type_in, type_of_slot, with_raw}
use Rattle.co_meaning_data.specs.Turn.{Local, Turned, func_of, funcs, gives, goes, is_uncaught, leaves, parts_for, passes, pushed, rests, store, under, with_frames, with_store}

-- ---- full-expressions [intro.execution]

abbrev pub has_mark : Option CoreFunc → Temporary → Bool
has_mark None t = false
has_mark (Some func) t = if t.conditional then holds_class (slot_at func t.slot) else false

abbrev pub unmade : Option CoreFunc → Temporary → Temporal
unmade func t = record { slot = t.slot.0; marked = has_mark func t; live = false; object = None }

abbrev pub unmade_all : Option CoreFunc → List Temporary → List Temporal
unmade_all func [] = []
unmade_all func (t ∷ ts) = unmade_all func ts ++ unmade func t ∷ []

abbrev pub mark_count : List Temporal → ℕ
mark_count [] = zero
mark_count (t ∷ ts) = if t.marked then suc (mark_count ts) else mark_count ts

abbrev pub opens_with : List Temporal → List Frame → Doing → Local → Option Turned
opens_with ts inner d l = goes (Opens (mark_count ts) d) (with_frames (inner ++ Full ts ∷ l.top.frames) l)

-- A full-expression with these acts and these frames in it is opened: none of its temporaries is made, and its marks are made
-- unset, one in a step. A temporary of a conditional operand has a mark where it is of a class.
abbrev pub opens : List Act → List Frame → Doing → Local → Option Turned
opens list inner d l = opens_with (unmade_all (func_of l) (temporaries list)) inner d l

abbrev pub open_step : ℕ → Doing → Local → Option Turned
open_step zero d l = goes d l
open_step (suc marks) d l = goes (Opens marks d) l

-- the acts of the arguments of a call of a function, of which the first `given` are there already
abbrev pub arguments_acts : List CoreFunc → List Bool → List Init → List Act
arguments_acts fs flags [] = []
arguments_acts fs [] (i ∷ is) = init_acts (class_params fs) false false i ++ arguments_acts fs [] is
arguments_acts fs (flag ∷ flags) (i ∷ is) = init_acts (class_params fs) false flag i ++ arguments_acts fs flags is

abbrev pub without : ℕ → List Bool → List Bool
without zero flags = flags
without (suc n) [] = []
without (suc n) (flag ∷ flags) = without n flags

abbrev pub call_acts : Local → Call → List Act
call_acts l call = arguments_acts (funcs l) (without (length call.given) (class_params (funcs l) call.func)) call.rest

-- ---- arguments

abbrev pub temp_of_expr : CoreExpr → Option (ℕ × Init)
temp_of_expr (expr.Temp' slot n (more_of-Init i end_of-Init) at) = Some (slot.0, i)
temp_of_expr e = None

abbrev pub temp_of : Init → Option (ℕ × Init)
temp_of (init.Value e) = temp_of_expr e
temp_of i = None

abbrev pub argument_object : ℕ → Init → Call → Local → Option CoType → Option Turned
argument_object slot i call l None = None
argument_object slot i call l (Some of) =
    let x = next_object (store l) in
    under (ArgumentMade x) (Initialize i (Some (whole x))) (pushed (Calling call) (with_raw slot of None l))

abbrev pub class_argument : Call → Init → Local → Option (ℕ × Init) → Option Turned
class_argument call i l None = under (Calling call) (Initialize i None) l
class_argument call i l (Some made) = argument_object made.0 made.1 call l (type_of_slot l made.0)

abbrev pub argument_for : Option Bool → Init → Call → Local → Option Turned
argument_for (Some true) i call l = class_argument call i l (temp_of i)
argument_for flag i call l = under (Calling call) (Initialize i None) l

-- The next argument is evaluated. That for a class parameter is an object in a slot of the caller [expr.call].
abbrev pub argument : Call → Init → Local → Option Turned
argument call i l = argument_for (slice_get (class_params (funcs l) call.func) (length call.given)) i call l

abbrev pub argument_made : ℕ → Call → Local → Option Turned
argument_made x call l = gives (At (whole x)) (with_store (make_live x (store l)) (pushed (Calling (record call { objects = x ∷ call.objects })) l))

abbrev pub argument_lives : ℕ → List Frame → Local → Option Turned
argument_lives x (Calling call ∷ fs) l = argument_made x call (with_frames fs l)
argument_lives x fs l = None

-- ---- entering a function

-- the slots of an activation, the store, and the objects of the parameters that are its own, the last first
pub record Bound : Type 0 where
  pub store : Store
  pub slots : List (Option ℕ)
  pub own : List ℕ

abbrev pub cells_of : List Value → List Cell
cells_of [] = []
cells_of (v ∷ vs) = cell.Holds v ∷ cells_of vs

abbrev pub bind_object : ℕ → Given → Bound → Option Bound
bind_object slot (At p) b = Some (record b { slots = slice_set b.slots slot (Some p.object) })
bind_object slot g b = None

abbrev pub bind_parts : ℕ → CoType → Bound → Option (List Value) → Option Bound
bind_parts slot of b None = None
bind_parts slot of b (Some vs) =
    let x = next_object b.store in
    Some (record { store = add_object (live_object of (cells_of vs)) b.store; slots = slice_set b.slots slot (Some x); own = x ∷ b.own })

abbrev pub bind_type : ℕ → CoType → Given → Bound → Option Bound
bind_type slot of g b = if is_class of then bind_object slot g b else bind_parts slot of b (parts_for (Some of) g)

abbrev pub bind_slot : ℕ → Option CoType → Given → Bound → Option Bound
bind_slot slot None g b = None
bind_slot slot (Some of) g b = bind_type slot of g b

abbrev pub slot_type : CoreFunc → ℕ → Option CoType
slot_type func slot = slot_type_in (slice_get func.slots slot)

abbrev pub bind_rest : CoreFunc → List SlotId → List Given → Option Bound → Option Bound
bind_rest func slots given None = None
bind_rest func [] [] (Some b) = Some b
bind_rest func (slot ∷ slots) (g ∷ given) (Some b) = bind_rest func slots given (bind_slot slot.0 (slot_type func slot.0) g b)
bind_rest func slots given (Some b) = None

-- Each parameter is initialized by its argument. One of a class is the object in the caller's slot, and another is an object of
-- the function's own [expr.call].
abbrev pub bind : CoreFunc → List Given → Store → Option Bound
bind func given s = bind_rest func func.params given (Some (record { store = s; slots = replicate (length func.slots) None; own = [] }))

-- a border stands around a function that is noexcept [except.spec]
abbrev pub border : Bool → List Frame
border true = Border ∷ []
border false = []

-- what stands around the body of a function
abbrev pub around : CoreFunc → List ℕ → List Frame
around func own = border func.noexcept ++ Function own ∷ []

abbrev pub this_of : List Given → Option Place
this_of (At p ∷ given) = Some p
this_of given = None

abbrev pub member_frames : Option Place → FuncRole → CoreStmt → List Frame
member_frames (Some p) (role.Ctor class members) body = Constructing p class zero members (body ∷ []) ∷ []
member_frames (Some p) (role.Dtor class) body = FieldsEnd p class ∷ []
member_frames this r body = []

-- a constructor makes the members before its body
abbrev pub first_doing : FuncRole → CoreStmt → Doing
first_doing (role.Ctor class members) body = Comes Passes
first_doing r body = Execute body

abbrev pub kind_for : Option PromisePlan → Kind
kind_for None = OfFunction
kind_for (Some plan) = OfRamp

abbrev pub frames_for : CoreFunc → List Given → List ℕ → List Frame
frames_for func given own = if is_some func.plan then RampTake ∷ around func own else member_frames (this_of given) func.role func.body ++ around func own

abbrev pub doing_for : CoreFunc → Doing
doing_for func = if is_some func.plan then Comes Passes else first_doing func.role func.body

abbrev pub activation_for : CoreFunc → Call → Bound → Activation
activation_for func call b =
    record { kind = kind_for func.plan; func = call.func.0; slots = b.slots; coroutine = None; into = call.into; frames = frames_for func (reverse call.given) b.own }

-- control goes to an activation above the newest one
abbrev pub calls : Doing → Activation → Local → Option Turned
calls d a l = goes d (record l { top = a; below = l.top ∷ l.below })

abbrev pub entered : CoreFunc → Call → Local → Option Bound → Option Turned
entered func call l None = None
entered func call l (Some b) = calls (doing_for func) (activation_for func call b) (pushed (Called call.objects) (with_store b.store l))

abbrev pub enter_in : Call → Local → Option CoreFunc → Option Turned
enter_in call l None = None
enter_in call l (Some func) = entered func call l (bind func (reverse call.given) (store l))

-- all arguments are there, and the function is entered
abbrev pub enter : Call → Local → Option Turned
enter call l = enter_in call l (slice_get (funcs l) call.func.0)

-- ---- the members of an object [class.base.init] [class.dtor]

abbrev pub next_member : Place → ClassId → ℕ → List Init → List CoreStmt → Local → Option Turned
next_member p class built (i ∷ rest) body l =
    opens (init_acts (class_params (funcs l)) false false i) (FieldMade ∷ []) (Initialize i (Some (field_of_place p built))) (pushed (Constructing p class built rest body) l)
next_member p class built [] (s ∷ body) l = under (Constructing p class built [] body) (Execute s) l
next_member p class built [] [] l = passes l

-- the fields are made one after the other, as parts of one full-expression [dcl.init.aggr]
abbrev pub next_element : Place → ℕ → List Init → Local → Option Turned
next_element p built (i ∷ rest) l = under FieldMade (Initialize i (Some (field_of_place p built))) (pushed (Building p built rest) l)
next_element p built [] l = passes l

-- one more field of an object is made, before the temporaries of its initializer die
abbrev pub one_more_field : List Frame → List Frame
one_more_field (Building p built rest ∷ fs) = Building p (suc built) rest ∷ fs
one_more_field (Constructing p class built rest body ∷ fs) = Constructing p class (suc built) rest body ∷ fs
one_more_field (Full ts ∷ fs) = Full ts ∷ one_more_field fs
one_more_field fs = fs

abbrev pub field_made : Local → Option Turned
field_made l = passes (with_frames (one_more_field l.top.frames) l)

-- ---- returning [stmt.return]

abbrev pub main_value : Given → Option ℤ
main_value (Scalar (value.Number n z)) = Some z
main_value g = Some (pos 0)

abbrev pub returned_main : Kind → Given → Local → Local
returned_main OfFunction g l = record l { shared = record l.shared { main = main_value g } }
returned_main k g l = l

-- Control returns from the newest activation to the one below it, with what it gives. `main` and a resume from the posted handles
-- have none below.
abbrev pub returns_to : List Activation → Given → Local → Option Turned
returns_to [] g l = rests Idle (returned_main l.top.kind g l)
returns_to (a ∷ rest) g l = gives g (record l { top = a; below = rest })

abbrev pub returns : Given → Local → Option Turned
returns g l = returns_to l.below g l

-- An exception goes on where the newest activation was called; out of `main` and of a resume from the posted handles none may go
-- [except.terminate].
abbrev pub throws_to : List Activation → Going → Local → Option Turned
throws_to [] (Throwing v) l = is_uncaught v (record l { below = [] })
throws_to (a ∷ rest) (Throwing v) l = leaves (Throwing v) (record l { top = a; below = rest })
throws_to below going l = None

-- the newest activation has no frame left
abbrev pub last_frame : Outcome → Local → Option Turned
last_frame (Gives g) l = returns g l
last_frame Passes l = returns Nothing l
last_frame (Goes going) l = throws_to l.below going l

-- the parameters of a function's own die after its body, the last first [expr.call]
abbrev pub function_left : List ℕ → Going → Local → Option Turned
function_left own (Returning g) l = ends (unseen_endings own) (Gives g) l
function_left own (Throwing v) l = ends (unseen_endings own) (Goes (Throwing v)) l
function_left own going l = None

-- an exception goes no further than the border of a function that is noexcept [except.spec]
abbrev pub at_border : Going → Local → Option Turned
at_border (Throwing v) l = is_uncaught v l
at_border going l = leaves going l

-- what has an end is ended before control is given back to the caller
abbrev pub call_returned : List ℕ → Outcome → Local → Option Turned
call_returned [] outcome l = goes (Comes outcome) l
call_returned (x ∷ xs) outcome l = ends (unseen_endings (x ∷ xs)) outcome l
