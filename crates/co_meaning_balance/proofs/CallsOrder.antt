-- Calls keep the frames in order.
use Rattle.std.proofs.Common.{◌≡◌, ℕ, zero, suc, ◌+◌, ◌≤◌, List, [], ◌∷◌, ◌++◌, Bool, true, false, Some, None, refl, arith, length}
use Rattle.std.specs.Prelude.{if◌then◌else◌, reverse, slice_get, Option, is_some}
use Rattle.co_base.specs.declared.ids.ClassId.{ClassId}
use Rattle.co_types.specs.declared.types.CoType.{CoType}
use Rattle.co_core_tree.specs.Acts.{Act, init_acts}
use Rattle.co_core_tree.specs.Slots.{class_params, temporaries}
use Rattle.co_core_tree.specs.declared.exprs.Init.{Init}
use Rattle.co_core_tree.specs.declared.stmts.CoreStmt.{CoreStmt}
use Rattle.co_core_tree.specs.declared.units.CoreFunc.{CoreFunc}
use Rattle.co_core_tree.specs.declared.units.FuncRole.{FuncRole}
use Rattle.co_core_tree.specs.declared.units.FuncRole.TheVariants as role
use Rattle.co_meaning_data.specs.Frames.{Activation, Call, Calling, Comes, Constructing, Doing, FieldMade, Frame, Function, Given, Gives, Goes, Going, Initialize, Kind, Nothing, OfFunction, Outcome, Passes, RampTake, Returning, Temporal, Throwing}
use Rattle.co_meaning_data.specs.Store.{Place, field_of_place}
use Rattle.co_meaning_data.specs.Turn.{Local, func_of, funcs, pushed, store, with_frames}
use Rattle.co_meaning_calls.specs.Calls.{unmade_all, opens_with, opens, open_step, temp_of, argument_object, class_argument, argument_for, argument, argument_made, argument_lives, bind, border, around, this_of, member_frames, first_doing, frames_for, doing_for, entered, enter_in, enter, next_member, next_element, field_made, returned_main, returns_to, returns, throws_to, last_frame, function_left, at_border, call_returned, Bound}
use Rattle.co_meaning_calls.specs.Objects.{unseen_endings, type_of_slot}
use Rattle.co_meaning_balance.proofs.Frames.{few, one-more}
use Rattle.co_meaning_balance.proofs.ObjectsOrder.{ends-order}
use Rattle.co_meaning_balance.specs.Order.{InOrder, activations_stray, coroutines_stray, doing_strays, frames_hold, frames_inner, needs, frames_stray, local_strays, open_strays, rest_strays}

-- what stands around a body is in order in a function that is of no coroutine yet
around-inner : (func : CoreFunc) (own : List ℕ) → frames_inner (around func own) ≡ 0
around-inner func own = go func.noexcept
  where
    go : (c : Bool) → frames_inner (border c ++ Function own ∷ []) ≡ 0
    go true = refl
    go false = refl

pub around-order : (func : CoreFunc) (own : List ℕ) → frames_stray None (around func own) ≡ 0
around-order func own = go func.noexcept
  where
    go : (c : Bool) → frames_stray None (border c ++ Function own ∷ []) ≡ 0
    go true = refl
    go false = refl

members-order : (this : Option Place) (r : FuncRole) (body : CoreStmt) (fs : List Frame) → frames_stray None fs ≡ 0 → frames_stray None (member_frames this r body ++ fs) ≡ 0
members-order (Some p) (role.Ctor class members) body fs e = omega (arith, e)
members-order (Some p) (role.Dtor class) body fs e = omega (arith, e)
members-order this r body fs e = e

frames-order : (func : CoreFunc) (given : List Given) (own : List ℕ) → frames_stray None (frames_for func given own) ≡ 0
frames-order func given own = go (is_some func.plan)
  where
    go : (c : Bool) → frames_stray None (if c then RampTake ∷ around func own else member_frames (this_of given) func.role func.body ++ around func own) ≡ 0
    go true = let one = around-order func own in let two = around-inner func own in omega (arith, one, two)
    go false = members-order (this_of given) func.role func.body (around func own) (around-order func own)

first-order : (held inner : ℕ) (r : FuncRole) (body : CoreStmt) → doing_strays None held inner (first_doing r body) ≡ 0
first-order held inner (role.Ctor class members) body = refl
first-order held inner r body = refl

doing-order : (held inner : ℕ) (func : CoreFunc) → doing_strays None held inner (doing_for func) ≡ 0
doing-order held inner func = go (is_some func.plan)
  where
    go : (c : Bool) → doing_strays None held inner (if c then Comes Passes else first_doing func.role func.body) ≡ 0
    go true = refl
    go false = first-order held inner func.role func.body

returned-main : (k : Kind) (g : Given) (l : Local) → coroutines_stray 1 (returned_main k g l).shared.coroutines ≡ coroutines_stray 1 l.shared.coroutines
returned-main OfFunction g l = refl
returned-main k g l = refl

pub opens-order : (list : List Act) (inner : List Frame) (d : Doing) (l : Local) → ((us : List Temporal) → InOrder (opens_with us inner d l)) → InOrder (opens list inner d l)
opens-order list inner d l known = known (unmade_all (func_of l) (temporaries list))

pub open_step-order : (marks : ℕ) (d : Doing) (l : Local) → doing_strays l.top.coroutine (frames_hold l.top.coroutine l.top.frames) (frames_inner l.top.frames) d + local_strays l ≤ 0 → InOrder (open_step marks d l)
open_step-order zero d l known = omega (arith, known)
open_step-order (suc marks) d l known = omega (arith, known)

argument_object-order : (slot : ℕ) (i : Init) (call : Call) (l : Local) (o : Option CoType) → open_strays l ≤ 0 → InOrder (argument_object slot i call l o)
argument_object-order slot i call l None known = tt
argument_object-order slot i call l (Some of) known = let fact0 = few (needs l.top.coroutine (frames_hold l.top.coroutine l.top.frames)) call.rest in omega (arith, known, fact0)

class_argument-order : (call : Call) (i : Init) (l : Local) (o : Option (ℕ × Init)) → open_strays l ≤ 0 → InOrder (class_argument call i l o)
class_argument-order call i l None known = let fact0 = few (needs l.top.coroutine (frames_hold l.top.coroutine l.top.frames)) call.rest in omega (arith, known, fact0)
class_argument-order call i l (Some made) known = argument_object-order made.0 made.1 call l (type_of_slot l made.0) (omega (arith, known))

argument_for-order : (flag : Option Bool) (i : Init) (call : Call) (l : Local) → open_strays l ≤ 0 → InOrder (argument_for flag i call l)
argument_for-order (Some true) i call l known = class_argument-order call i l (temp_of i) (omega (arith, known))
argument_for-order flag i call l known = let fact0 = few (needs l.top.coroutine (frames_hold l.top.coroutine l.top.frames)) call.rest in omega (arith, known, fact0)

pub argument-order : (call : Call) (i : Init) (l : Local) → open_strays l ≤ 0 → InOrder (argument call i l)
argument-order call i l known = argument_for-order (slice_get (class_params (funcs l) call.func) (length call.given)) i call l (omega (arith, known))

argument_made-order : (x : ℕ) (call : Call) (l : Local) → frames_stray l.top.coroutine (Calling call ∷ l.top.frames) + rest_strays l ≤ 0 → InOrder (argument_made x call l)
argument_made-order x call l known = omega (arith, known)

pub argument_lives-order : (x : ℕ) (fs : List Frame) (l : Local) → frames_stray l.top.coroutine fs + rest_strays l ≤ 0 → InOrder (argument_lives x fs l)
argument_lives-order x (Calling call ∷ fs) l known = argument_made-order x call (with_frames fs l) (omega (arith, known))
argument_lives-order x fs l known = tt

entered-order : (func : CoreFunc) (call : Call) (l : Local) (b : Option Bound) → local_strays l ≤ 0 → InOrder (entered func call l b)
entered-order func call l None known = tt
entered-order func call l (Some b) known =
    let frames = frames-order func (reverse call.given) b.own in
    let doing = doing-order (frames_hold None (frames_for func (reverse call.given) b.own)) (frames_inner (frames_for func (reverse call.given) b.own)) func in
    omega (arith, known, frames, doing)

enter_in-order : (call : Call) (l : Local) (func : Option CoreFunc) → local_strays l ≤ 0 → InOrder (enter_in call l func)
enter_in-order call l None known = tt
enter_in-order call l (Some func) known = entered-order func call l (bind func (reverse call.given) (store l)) known

pub enter-order : (call : Call) (l : Local) → local_strays l ≤ 0 → InOrder (enter call l)
enter-order call l known = enter_in-order call l (slice_get (funcs l) call.func.0) (omega (arith, known))

pub next_member-order : (p : Place) (class : ClassId) (built : ℕ) (list : List Init) (body : List CoreStmt) (l : Local) → open_strays l ≤ 0 → InOrder (next_member p class built list body l)
next_member-order p class built (i ∷ rest) body l known = opens-order (init_acts (class_params (funcs l)) false false i) (FieldMade ∷ []) (Initialize i (Some (field_of_place p built))) (pushed (Constructing p class built rest body) l) (λ us. omega (arith, known))
next_member-order p class built [] (s ∷ body) l known = omega (arith, known)
next_member-order p class built [] [] l known = omega (arith, known)

pub next_element-order : (p : Place) (built : ℕ) (list : List Init) (l : Local) → open_strays l ≤ 0 → InOrder (next_element p built list l)
next_element-order p built (i ∷ rest) l known = omega (arith, known)
next_element-order p built [] l known = omega (arith, known)

pub field_made-order : (l : Local) → local_strays l ≤ 0 → InOrder (field_made l)
field_made-order l known = let kept = (one-more l.top.coroutine l.top.frames).strays in omega (arith, known, kept)

returns_to-order : (below : List Activation) (g : Given) (l : Local) → activations_stray below + coroutines_stray 1 l.shared.coroutines ≤ 0 → InOrder (returns_to below g l)
returns_to-order [] g l known = let kept = returned-main l.top.kind g l in omega (arith, known, kept)
returns_to-order (a ∷ rest) g l known = omega (arith, known)

pub returns-order : (g : Given) (l : Local) → rest_strays l ≤ 0 → InOrder (returns g l)
returns-order g l known = returns_to-order l.below g l known

throws_to-order : (below : List Activation) (going : Going) (l : Local) → frames_stray l.top.coroutine l.top.frames + (activations_stray below + coroutines_stray 1 l.shared.coroutines) ≤ 0 → InOrder (throws_to below going l)
throws_to-order [] (Throwing v) l known = omega (arith, known)
throws_to-order (a ∷ rest) (Throwing v) l known = omega (arith, known)
throws_to-order below going l known = tt

pub last_frame-order : (outcome : Outcome) (l : Local) → local_strays l ≤ 0 → InOrder (last_frame outcome l)
last_frame-order (Gives g) l known = returns-order g l (omega (arith, known))
last_frame-order Passes l known = returns-order Nothing l (omega (arith, known))
last_frame-order (Goes going) l known = throws_to-order l.below going l (omega (arith, known))

pub function_left-order : (own : List ℕ) (going : Going) (l : Local) → local_strays l ≤ 0 → InOrder (function_left own going l)
function_left-order own (Returning g) l known = ends-order (unseen_endings own) (Gives g) l (omega (arith, known))
function_left-order own (Throwing v) l known = ends-order (unseen_endings own) (Goes (Throwing v)) l (omega (arith, known))
function_left-order own going l known = tt

pub at_border-order : (going : Going) (l : Local) → local_strays l ≤ 0 → InOrder (at_border going l)
at_border-order (Throwing v) l known = omega (arith, known)
at_border-order going l known = omega (arith, known)

pub call_returned-order : (list : List ℕ) (outcome : Outcome) (l : Local) → local_strays l ≤ 0 → InOrder (call_returned list outcome l)
call_returned-order [] outcome l known = omega (arith, known)
call_returned-order (x ∷ xs) outcome l known = ends-order (unseen_endings (x ∷ xs)) outcome l (omega (arith, known))
