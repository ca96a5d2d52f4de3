-- What the types of the runner are in the meaning.
use Rattle.std.specs.Prelude.{ℕ, Bool, true, false, List, [], ◌∷◌, map, reverse, drop, length, slice_get, Option, None, Some}
use Rattle.co_base.specs.declared.ids.ClassId.{ClassId}
use Rattle.co_core_tree.specs.declared.exprs.AwaitPlan.{AwaitPlan}
use Rattle.co_core_tree.specs.declared.exprs.CoreExpr.{CoreExpr, end_of-CoreExpr, end_of-DeletePlan, end_of-Init, end_of-NewPlan, items-the_row-CoreExpr, more_of-CoreExpr, more_of-DeletePlan, more_of-Init, more_of-NewPlan}
use Rattle.co_core_tree.specs.declared.exprs.CoreExpr.TheVariants as expr
use Rattle.co_core_tree.specs.declared.exprs.DeletePlan.{DeletePlan}
use Rattle.co_core_tree.specs.declared.exprs.Init.{Init}
use Rattle.co_core_tree.specs.declared.exprs.Init.TheVariants as init
use Rattle.co_core_tree.specs.declared.exprs.NewPlan.{NewPlan}
use Rattle.co_core_tree.specs.declared.stmts.CoreStmt.{CoreStmt, end_of-CoreStmt, items-the_row-Handler, more_of-CoreStmt}
use Rattle.co_core_tree.specs.declared.stmts.CoreStmt.TheVariants as stmt
use Rattle.co_core_tree.specs.declared.stmts.Handler.{Handler}
use Rattle.co_core_tree.specs.declared.units.CopyPlan.{CopyPlan}
use Rattle.co_core_tree.specs.declared.units.CoreFunc.{CoreFunc}
use Rattle.co_core_tree.specs.declared.units.FuncRole.{FuncRole}
use Rattle.co_core_tree.specs.declared.units.FuncRole.TheVariants as role
use Rattle.co_eval_data.specs.declared.values.Place.{Place}
use Rattle.co_eval_data.specs.declared.outcomes.Given.{Given}
use Rattle.co_eval_data.specs.declared.outcomes.Given.TheVariants as given
use Rattle.co_eval_data.specs.declared.outcomes.Going.{Going}
use Rattle.co_eval_data.specs.declared.outcomes.Going.TheVariants as going
use Rattle.co_eval_data.specs.declared.outcomes.Outcome.{Outcome}
use Rattle.co_eval_data.specs.declared.outcomes.Outcome.TheVariants as outcome
use Rattle.co_eval_data.specs.declared.frames.Alive.{Alive}
use Rattle.co_eval_data.specs.declared.frames.Spot.{Spot}
use Rattle.co_eval_data.specs.declared.frames.Spot.TheVariants as spot
use Rattle.co_eval_data.specs.declared.frames.Temporal.{Temporal}
use Rattle.co_eval_data.specs.declared.frames.Ending.{Ending}
use Rattle.co_eval_data.specs.declared.frames.Ending.TheVariants as ending
use Rattle.co_eval_data.specs.declared.frames.Call.{Call}
use Rattle.co_eval_data.specs.declared.frames.Hold.{Hold}
use Rattle.co_eval_data.specs.declared.frames.Node.{Node}
use Rattle.co_eval_data.specs.declared.frames.Node.TheVariants as node
use Rattle.co_eval_data.specs.declared.frames.Step.{Step}
use Rattle.co_eval_data.specs.declared.frames.Step.TheVariants as step
use Rattle.co_eval_data.specs.declared.frames.Frame.{Frame}
use Rattle.co_meaning_data.specs.Store as stored
use Rattle.co_meaning_data.specs.Frames as meaning
use Rattle.co_meaning_data.specs.Turn.{nowhere}

-- ---- lists

-- a list that ends with its newest item, as the meaning has it: the newest first
abbrev pub newest_first : {A B : Type 0} → (A → B) → List A → List B
newest_first f xs = reverse (map f xs)

abbrev pub option_of : {A B : Type 0} → (A → B) → Option A → Option B
option_of f None = None
option_of f (Some x) = Some (f x)

-- ---- places and outcomes

abbrev pub place_of : Place → stored.Place
place_of p = record { object = p.object; path = p.path }

abbrev pub place_if : Option Place → Option stored.Place
place_if p = option_of place_of p

abbrev pub given_of : Given → meaning.Given
given_of (given.Scalar v) = meaning.Scalar v
given_of (given.Parts vs) = meaning.Parts vs
given_of (given.At p) = meaning.At (place_of p)
given_of given.Nothing = meaning.Nothing

abbrev pub going_of : Going → meaning.Going
going_of (going.Throwing v) = meaning.Throwing v
going_of going.Breaking = meaning.Breaking
going_of going.Continuing = meaning.Continuing
going_of (going.Returning g) = meaning.Returning (given_of g)
going_of going.Leaving = meaning.Leaving
going_of going.Destroying = meaning.Destroying

abbrev pub outcome_of : Outcome → meaning.Outcome
outcome_of (outcome.Gives g) = meaning.Gives (given_of g)
outcome_of outcome.Passes = meaning.Passes
outcome_of (outcome.Goes way) = meaning.Goes (going_of way)

-- ---- parts of the program

-- A frame whose node is none of its kind; nothing goes on with it.
abbrev pub dead : meaning.Frame
dead = meaning.CompareAt (stored.whole 0) (stored.whole 0) meaning.Nothing nowhere

abbrev pub expr_in : Node → Option CoreExpr
expr_in (node.Expr e) = Some e.now
expr_in n = None

abbrev pub init_in : Node → Option Init
init_in (node.Init i) = Some i.now
init_in n = None

abbrev pub await_in : Node → Option AwaitPlan
await_in (node.Await plan) = Some plan.now
await_in n = None

abbrev pub stmt_in : Node → Option CoreStmt
stmt_in (node.Stmt s) = Some s.now
stmt_in n = None

abbrev pub inits_in : Node → List Init
inits_in (node.Inits list from) = drop from list.now
inits_in n = []

abbrev pub copies_in : Node → List CopyPlan
copies_in (node.Copies list from) = drop from list.now
copies_in n = []

abbrev pub body_of : Option Handler → List CoreStmt
body_of None = []
body_of (Some h) = h.body ∷ []

abbrev pub stmts_in : Node → List CoreStmt
stmts_in (node.Stmts list from) = drop from list.now
stmts_in (node.Handler handlers at) = body_of (slice_get handlers.now at)
stmts_in n = []

abbrev pub func_in : Node → Option CoreFunc
func_in (node.Func unit id) = slice_get unit.now.funcs id.0
func_in n = None

-- ---- frames of one expression

abbrev pub store_value : Option CoreExpr → meaning.Frame
store_value (Some (expr.Store' n (more_of-CoreExpr p end_of-CoreExpr) m v at)) = meaning.StoreValue p at
store_value e = dead

abbrev pub exchange_place : Option CoreExpr → meaning.Frame
exchange_place (Some (expr.Exchange' n p m (more_of-CoreExpr v end_of-CoreExpr) at)) = meaning.ExchangePlace v at
exchange_place e = dead

abbrev pub update_value : Option CoreExpr → meaning.Frame
update_value (Some (expr.Update' o k n (more_of-CoreExpr p end_of-CoreExpr) m v old at)) = meaning.UpdateValue o k p old at
update_value e = dead

abbrev pub update_at : meaning.Given → Option CoreExpr → meaning.Frame
update_at g (Some (expr.Update' o k n p m v old at)) = meaning.UpdateAt o k g old at
update_at g e = dead

abbrev pub update_from : meaning.Given → stored.Place → Option CoreExpr → meaning.Frame
update_from g place (Some (expr.Update' o k n p m v old at)) = meaning.UpdateFrom o k g place old at
update_from g place e = dead

abbrev pub arith_right : Option CoreExpr → meaning.Frame
arith_right (Some (expr.Arith' o k n x m (more_of-CoreExpr y end_of-CoreExpr) at)) = meaning.ArithRight o k y at
arith_right e = dead

abbrev pub arith_with : meaning.Given → Option CoreExpr → meaning.Frame
arith_with g (Some (expr.Arith' o k n x m y at)) = meaning.ArithWith o k g at
arith_with g e = dead

abbrev pub same_right : Option CoreExpr → meaning.Frame
same_right (Some (expr.Same' n x m (more_of-CoreExpr y end_of-CoreExpr) at)) = meaning.SameRight y at
same_right e = dead

abbrev pub both_right : Option CoreExpr → meaning.Frame
both_right (Some (expr.Both' n x m (more_of-CoreExpr y end_of-CoreExpr) at)) = meaning.BothRight y
both_right e = dead

abbrev pub either_right : Option CoreExpr → meaning.Frame
either_right (Some (expr.Either' n x m (more_of-CoreExpr y end_of-CoreExpr) at)) = meaning.EitherRight y
either_right e = dead

abbrev pub pick_one : Option CoreExpr → meaning.Frame
pick_one (Some (expr.Pick' n e m (more_of-CoreExpr x end_of-CoreExpr) k (more_of-CoreExpr y end_of-CoreExpr) at)) = meaning.PickOne x y
pick_one e = dead

abbrev pub throw_of : Option CoreExpr → meaning.Frame
throw_of (Some (expr.Throw' of n e at)) = meaning.ThrowOf of at
throw_of e = dead

-- the operands that are left after those that are there
abbrev pub operands : List meaning.Given → Option CoreExpr → meaning.Frame
operands gs (Some (expr.Handle' o n list at)) = meaning.Operands (meaning.OnHandle o) gs (drop (length gs) (items-the_row-CoreExpr _ list)) at
operands gs (Some (expr.Atomic' o n list at)) = meaning.Operands (meaning.OnAtomic o) gs (drop (length gs) (items-the_row-CoreExpr _ list)) at
operands gs (Some (expr.Lib' o n list at)) = meaning.Operands (meaning.OfLibrary o) gs (drop (length gs) (items-the_row-CoreExpr _ list)) at
operands gs e = dead

abbrev pub with_new : (NewPlan → meaning.Frame) → Option CoreExpr → meaning.Frame
with_new f (Some (expr.New' n (more_of-NewPlan of take may_be_null i give span end_of-NewPlan))) = f (record { of = of; take = take; may_be_null = may_be_null; init = i; give = give; span = span })
with_new f e = dead

abbrev pub with_delete : (DeletePlan → meaning.Frame) → Option CoreExpr → meaning.Frame
with_delete f (Some (expr.Delete' n (more_of-DeletePlan of pointer destroy give span end_of-DeletePlan))) = f (record { of = of; pointer = pointer; destroy = destroy; give = give; span = span })
with_delete f e = dead

abbrev pub with_await : (AwaitPlan → meaning.Frame) → Option AwaitPlan → meaning.Frame
with_await f None = dead
with_await f (Some plan) = f plan

abbrev pub choose_one : Option stored.Place → Option Init → meaning.Frame
choose_one p (Some (init.Choose' e n (more_of-Init x end_of-Init) m (more_of-Init y end_of-Init))) = meaning.ChooseOne x y p
choose_one p i = dead

-- ---- frames of one statement

abbrev pub branch_on : Option CoreStmt → meaning.Frame
branch_on (Some (stmt.If' e n (more_of-CoreStmt x end_of-CoreStmt) m (more_of-CoreStmt y end_of-CoreStmt) at)) = meaning.BranchOn x y
branch_on s = dead

abbrev pub with_loop : (CoreExpr → CoreExpr → CoreStmt → meaning.Frame) → Option CoreStmt → meaning.Frame
with_loop f (Some (stmt.Loop' e next n (more_of-CoreStmt body end_of-CoreStmt) at)) = f e next body
with_loop f s = dead

abbrev pub tries : Option CoreStmt → meaning.Frame
tries (Some (stmt.Try' n body m handlers at)) = meaning.Tries (items-the_row-Handler _ handlers)
tries s = dead

-- the body where it is still to be done
abbrev pub body_left : Bool → CoreStmt → List CoreStmt
body_left true body = body ∷ []
body_left false body = []

abbrev pub members_of : FuncRole → Option (List Init)
members_of (role.Ctor class members) = Some members
members_of r = None

abbrev pub constructing_with : stored.Place → ClassId → ℕ → ℕ → List CoreStmt → Option (List Init) → meaning.Frame
constructing_with p class built taken body None = dead
constructing_with p class built taken body (Some members) = meaning.Constructing p class built (drop taken members) body

abbrev pub constructing : stored.Place → ClassId → ℕ → ℕ → Bool → Option CoreFunc → meaning.Frame
constructing p class built taken left None = dead
constructing p class built taken left (Some func) = constructing_with p class built taken (body_left left func.body) (members_of func.role)

-- ---- frames

abbrev pub alive_of : Alive → meaning.Alive
alive_of x = record { object = x.object; coroutine = x.coroutine }

abbrev pub spot_of : Spot → meaning.Spot
spot_of spot.InScope = meaning.InScope
spot_of (spot.InFull slot) = meaning.InFull slot
spot_of spot.InHold = meaning.InHold

abbrev pub temporal_of : Temporal → meaning.Temporal
temporal_of t = record { slot = t.slot; marked = t.marked; live = t.live; object = option_of alive_of t.object }

abbrev pub ending_of : Ending → meaning.Ending
ending_of (ending.EndsObject x) = meaning.EndsObject (alive_of x)
ending_of (ending.EndsPart p) = meaning.EndsPart (place_of p)
ending_of (ending.PassesMark x) = meaning.PassesMark (option_of alive_of x)

abbrev pub call_of : Call → List Init → meaning.Call
call_of c rest = record { func = c.func; given = map given_of c.given; objects = c.objects; rest = rest; into = place_if c.into; at = c.at }

abbrev pub hold_of : Hold → meaning.Hold
hold_of h = record { coroutine = h.coroutine; block = h.block; alive = map alive_of h.alive }

abbrev pub frame_with : Step → Node → meaning.Frame
frame_with (step.FieldOf a) n = meaning.FieldOf a
frame_with (step.Referent a) n = meaning.Referent a
frame_with step.AddressOf n = meaning.AddressOf
frame_with (step.LoadFrom a) n = meaning.LoadFrom a
frame_with step.StoreValue n = store_value (expr_in n)
frame_with (step.StoreInto a b) n = meaning.StoreInto (given_of a) b
frame_with step.ExchangePlace n = exchange_place (expr_in n)
frame_with (step.ExchangeWith a b) n = meaning.ExchangeWith (place_of a) b
frame_with (step.ExchangeFrom a b c) n = meaning.ExchangeFrom (place_of a) (given_of b) c
frame_with step.UpdateValue n = update_value (expr_in n)
frame_with (step.UpdateAt a) n = update_at (given_of a) (expr_in n)
frame_with (step.UpdateFrom a b) n = update_from (given_of a) (place_of b) (expr_in n)
frame_with step.ArithRight n = arith_right (expr_in n)
frame_with (step.ArithWith a) n = arith_with (given_of a) (expr_in n)
frame_with (step.ConvertTo a) n = meaning.ConvertTo a
frame_with step.TestOf n = meaning.TestOf
frame_with step.SameRight n = same_right (expr_in n)
frame_with (step.SameWith a b) n = meaning.SameWith (given_of a) b
frame_with step.BothRight n = both_right (expr_in n)
frame_with step.EitherRight n = either_right (expr_in n)
frame_with step.PickOne n = pick_one (expr_in n)
frame_with step.Joined n = meaning.Joined
frame_with (step.TempMade a b) n = meaning.TempMade a (alive_of b)
frame_with step.ThrowOf n = throw_of (expr_in n)
frame_with (step.ThrowRead a) n = meaning.ThrowRead a
frame_with (step.RethrowOf a) n = meaning.RethrowOf a
frame_with (step.Operands a) n = operands (map given_of a) (expr_in n)
frame_with (step.CompareAt a b c d) n = meaning.CompareAt (place_of a) (place_of b) (given_of c) d
frame_with (step.Calling a) n = meaning.Calling (call_of a (inits_in n))
frame_with (step.ArgumentMade a) n = meaning.ArgumentMade a
frame_with (step.Called a) n = meaning.Called a
frame_with step.NewTaken n = with_new (λ plan. meaning.NewTaken plan) (expr_in n)
frame_with (step.NewMade a b) n = with_new (λ plan. meaning.NewMade a b plan) (expr_in n)
frame_with step.DeleteOf n = with_delete (λ plan. meaning.DeleteOf plan) (expr_in n)
frame_with (step.DeleteEnded a b) n = with_delete (λ plan. meaning.DeleteEnded a b plan) (expr_in n)
frame_with (step.AwaitOperand a) n = with_await (λ plan. meaning.AwaitOperand plan (place_if a)) (await_in n)
frame_with (step.AwaitReady a) n = with_await (λ plan. meaning.AwaitReady plan (place_if a)) (await_in n)
frame_with (step.AwaitSuspend a b) n = with_await (λ plan. meaning.AwaitSuspend plan (place_if a) b) (await_in n)
frame_with (step.AwaitResume a) n = with_await (λ plan. meaning.AwaitResume plan (place_if a)) (await_in n)
frame_with (step.Answers a b c d e) n = meaning.Answers a b c d e
frame_with (step.ValueInto a b) n = meaning.ValueInto (place_of a) b
frame_with step.ResultInto n = meaning.ResultInto
frame_with (step.ChooseOne a) n = choose_one (place_if a) (init_in n)
frame_with step.FieldMade n = meaning.FieldMade
frame_with (step.Building a b) n = meaning.Building (place_of a) b (inits_in n)
frame_with (step.Constructing a b c d e) n = constructing (place_of a) b c d e (func_in n)
frame_with (step.FieldsEnd a b) n = meaning.FieldsEnd (place_of a) b
frame_with (step.Ends a b) n = meaning.Ends (map ending_of a) (outcome_of b)
frame_with (step.ObjectEnds a) n = meaning.ObjectEnds (alive_of a)
frame_with (step.PartEnds a) n = meaning.PartEnds (place_of a)
frame_with step.Drops n = meaning.Drops
frame_with (step.Full a) n = meaning.Full (map temporal_of a)
frame_with (step.Scope a) n = meaning.Scope (map alive_of a) (stmts_in n)
frame_with (step.Declares a) n = meaning.Declares (alive_of a)
frame_with step.BranchOn n = branch_on (stmt_in n)
frame_with step.LoopTest n = with_loop (λ e next body. meaning.LoopTest e next body) (stmt_in n)
frame_with step.LoopBody n = with_loop (λ e next body. meaning.LoopBody e next body) (stmt_in n)
frame_with step.LoopStep n = with_loop (λ e next body. meaning.LoopStep e next body) (stmt_in n)
frame_with step.Returns n = meaning.Returns
frame_with step.Tries n = tries (stmt_in n)
frame_with step.Handled n = meaning.Handled
frame_with step.Border n = meaning.Border
frame_with (step.Function a) n = meaning.Function a
frame_with step.RampTake n = meaning.RampTake
frame_with step.RampTaken n = meaning.RampTaken
frame_with step.RampCopies n = meaning.RampCopies (copies_in n)
frame_with (step.RampMade a) n = meaning.RampMade (alive_of a)
frame_with step.RampResult n = meaning.RampResult
frame_with step.RampBody n = meaning.RampBody
frame_with step.RampDone n = meaning.RampDone
frame_with step.NullDone n = meaning.NullDone
frame_with (step.Holds a) n = meaning.Holds (hold_of a)
frame_with (step.Closes a b c) n = meaning.Closes a b (outcome_of c)
frame_with step.Started n = meaning.Started
frame_with (step.Guards a) n = meaning.Guards a
frame_with step.Unhandled n = meaning.Unhandled

-- the frame of the meaning that this is
abbrev pub frame_of : Frame → meaning.Frame
frame_of f = frame_with f.step f.node

-- frames that end with the innermost one
abbrev pub frames_of : List Frame → List meaning.Frame
frames_of fs = newest_first frame_of fs
