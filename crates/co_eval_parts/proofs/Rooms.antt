-- What frames are where objects can stand, and whether there is a place.
use Rattle.std.specs.Prelude.{◌≡◌, ℕ, Bool, true, false, ◌==◌, if◌then◌else◌, List, [], ◌∷◌, map, Option, None, Some, is_some}
use Rattle.std.specs.Option.{option_map}
use Rattle.std.proofs.Common.{refl, ap, ◌∙◌, sym}
use Rattle.co_base.specs.declared.ids.ClassId.{ClassId}
use Rattle.co_core_tree.specs.declared.exprs.AwaitPlan.{AwaitPlan}
use Rattle.co_core_tree.specs.declared.exprs.CoreExpr.{CoreExpr, end_of-CoreExpr, more_of-CoreExpr, end_of-Init, more_of-Init, end_of-NewPlan, more_of-NewPlan, end_of-DeletePlan, more_of-DeletePlan}
use Rattle.co_core_tree.specs.declared.exprs.CoreExpr.TheVariants as expr
use Rattle.co_core_tree.specs.declared.exprs.DeletePlan.{DeletePlan}
use Rattle.co_core_tree.specs.declared.exprs.Init.{Init}
use Rattle.co_core_tree.specs.declared.exprs.Init.TheVariants as init
use Rattle.co_core_tree.specs.declared.exprs.NewPlan.{NewPlan}
use Rattle.co_core_tree.specs.declared.stmts.CoreStmt.{CoreStmt, end_of-CoreStmt, more_of-CoreStmt}
use Rattle.co_core_tree.specs.declared.stmts.CoreStmt.TheVariants as stmt
use Rattle.co_core_tree.specs.declared.units.CoreFunc.{CoreFunc}
use Rattle.co_eval_data.specs.Seen as seen
use Rattle.co_eval_data.specs.declared.frames.Node.{Node}
use Rattle.co_eval_data.specs.declared.frames.Node.TheVariants as node
use Rattle.co_eval_data.specs.declared.frames.Step.{Step}
use Rattle.co_eval_data.specs.declared.frames.Step.TheVariants as step
use Rattle.co_eval_parts.specs.Rooms.{AtSuspension, Nowhere, has_room, is_no_object, is_none, is_unmade, no_object, node_stand, or_else, room, stand, step_stand}
use Rattle.co_meaning_calls.specs.Objects.{into_full, into_hold, into_scope, made_of, made_temporaries, own_with, stands}
use Rattle.co_meaning_data.specs.Frames as meaning
use Rattle.co_meaning_data.specs.Store as stored

-- ---- frames of parts of the program

store_value : (e : Option CoreExpr) → Nowhere ≡ stand (seen.store_value e)
store_value None = refl
store_value (Some (expr.Store' n (more_of-CoreExpr p end_of-CoreExpr) m v at)) = refl
store_value (Some e) = refl

exchange_place : (e : Option CoreExpr) → Nowhere ≡ stand (seen.exchange_place e)
exchange_place None = refl
exchange_place (Some (expr.Exchange' n p m (more_of-CoreExpr v end_of-CoreExpr) at)) = refl
exchange_place (Some e) = refl

update_value : (e : Option CoreExpr) → Nowhere ≡ stand (seen.update_value e)
update_value None = refl
update_value (Some (expr.Update' o k n (more_of-CoreExpr p end_of-CoreExpr) m v old at)) = refl
update_value (Some e) = refl

update_at : (g : meaning.Given) (e : Option CoreExpr) → Nowhere ≡ stand (seen.update_at g e)
update_at g None = refl
update_at g (Some (expr.Update' o k n p m v old at)) = refl
update_at g (Some e) = refl

update_from : (g : meaning.Given) (p : stored.Place) (e : Option CoreExpr) → Nowhere ≡ stand (seen.update_from g p e)
update_from g p None = refl
update_from g p (Some (expr.Update' o k n q m v old at)) = refl
update_from g p (Some e) = refl

arith_right : (e : Option CoreExpr) → Nowhere ≡ stand (seen.arith_right e)
arith_right None = refl
arith_right (Some (expr.Arith' o k n x m (more_of-CoreExpr y end_of-CoreExpr) at)) = refl
arith_right (Some e) = refl

arith_with : (g : meaning.Given) (e : Option CoreExpr) → Nowhere ≡ stand (seen.arith_with g e)
arith_with g None = refl
arith_with g (Some (expr.Arith' o k n x m y at)) = refl
arith_with g (Some e) = refl

same_right : (e : Option CoreExpr) → Nowhere ≡ stand (seen.same_right e)
same_right None = refl
same_right (Some (expr.Same' n x m (more_of-CoreExpr y end_of-CoreExpr) at)) = refl
same_right (Some e) = refl

both_right : (e : Option CoreExpr) → Nowhere ≡ stand (seen.both_right e)
both_right None = refl
both_right (Some (expr.Both' n x m (more_of-CoreExpr y end_of-CoreExpr) at)) = refl
both_right (Some e) = refl

either_right : (e : Option CoreExpr) → Nowhere ≡ stand (seen.either_right e)
either_right None = refl
either_right (Some (expr.Either' n x m (more_of-CoreExpr y end_of-CoreExpr) at)) = refl
either_right (Some e) = refl

pick_one : (e : Option CoreExpr) → Nowhere ≡ stand (seen.pick_one e)
pick_one None = refl
pick_one (Some (expr.Pick' n e m (more_of-CoreExpr x end_of-CoreExpr) k (more_of-CoreExpr y end_of-CoreExpr) at)) = refl
pick_one (Some e) = refl

throw_of : (e : Option CoreExpr) → Nowhere ≡ stand (seen.throw_of e)
throw_of None = refl
throw_of (Some (expr.Throw' of n e at)) = refl
throw_of (Some e) = refl

operands : (gs : List meaning.Given) (e : Option CoreExpr) → Nowhere ≡ stand (seen.operands gs e)
operands gs None = refl
operands gs (Some (expr.Handle' o n list at)) = refl
operands gs (Some (expr.Atomic' o n list at)) = refl
operands gs (Some (expr.Lib' o n list at)) = refl
operands gs (Some e) = refl

with_new : (f : NewPlan → meaning.Frame) → ((plan : NewPlan) → Nowhere ≡ stand (f plan)) → (e : Option CoreExpr) → Nowhere ≡ stand (seen.with_new f e)
with_new f h None = refl
with_new f h (Some (expr.New' n (more_of-NewPlan of take may_be_null i give span end_of-NewPlan))) =
    h (record { of = of; take = take; may_be_null = may_be_null; init = i; give = give; span = span })
with_new f h (Some e) = refl

with_delete : (f : DeletePlan → meaning.Frame) → ((plan : DeletePlan) → Nowhere ≡ stand (f plan)) → (e : Option CoreExpr) → Nowhere ≡ stand (seen.with_delete f e)
with_delete f h None = refl
with_delete f h (Some (expr.Delete' n (more_of-DeletePlan of pointer destroy give span end_of-DeletePlan))) =
    h (record { of = of; pointer = pointer; destroy = destroy; give = give; span = span })
with_delete f h (Some e) = refl

with_await : (f : AwaitPlan → meaning.Frame) → ((plan : AwaitPlan) → Nowhere ≡ stand (f plan)) → (plan : Option AwaitPlan) → Nowhere ≡ stand (seen.with_await f plan)
with_await f h None = refl
with_await f h (Some plan) = h plan

choose_one : (p : Option stored.Place) (i : Option Init) → Nowhere ≡ stand (seen.choose_one p i)
choose_one p None = refl
choose_one p (Some (init.Choose' e n (more_of-Init x end_of-Init) m (more_of-Init y end_of-Init))) = refl
choose_one p (Some i) = refl

branch_on : (s : Option CoreStmt) → Nowhere ≡ stand (seen.branch_on s)
branch_on None = refl
branch_on (Some (stmt.If' e n (more_of-CoreStmt x end_of-CoreStmt) m (more_of-CoreStmt y end_of-CoreStmt) at)) = refl
branch_on (Some s) = refl

with_loop : (f : CoreExpr → CoreExpr → CoreStmt → meaning.Frame) → ((e next : CoreExpr) (body : CoreStmt) → Nowhere ≡ stand (f e next body)) → (s : Option CoreStmt) → Nowhere ≡ stand (seen.with_loop f s)
with_loop f h None = refl
with_loop f h (Some (stmt.Loop' e next n (more_of-CoreStmt body end_of-CoreStmt) at)) = h e next body
with_loop f h (Some s) = refl

tries : (s : Option CoreStmt) → Nowhere ≡ stand (seen.tries s)
tries None = refl
tries (Some (stmt.Try' n body m handlers at)) = refl
tries (Some s) = refl

constructing_with : (p : stored.Place) (class : ClassId) (built taken : ℕ) (body : List CoreStmt) (members : Option (List Init)) → Nowhere ≡ stand (seen.constructing_with p class built taken body members)
constructing_with p class built taken body None = refl
constructing_with p class built taken body (Some members) = refl

constructing : (p : stored.Place) (class : ClassId) (built taken : ℕ) (left : Bool) (func : Option CoreFunc) → Nowhere ≡ stand (seen.constructing p class built taken left func)
constructing p class built taken left None = refl
constructing p class built taken left (Some func) = constructing_with p class built taken (seen.body_left left func.body) (seen.members_of func.role)

suspension : (into : Option stored.Place) (own : List ℕ) (n : Node) → node_stand n ≡ stand (seen.with_await (λ plan. meaning.AwaitSuspend plan into own) (seen.await_in n))
suspension into own (node.Await plan) = refl
suspension into own n = refl

-- ---- frames

pub step_stands : (s : Step) (n : Node) → step_stand s n ≡ stand (seen.frame_with s n)
step_stands step.StoreValue n = store_value (seen.expr_in n)
step_stands step.ExchangePlace n = exchange_place (seen.expr_in n)
step_stands step.UpdateValue n = update_value (seen.expr_in n)
step_stands (step.UpdateAt a) n = update_at (seen.given_of a) (seen.expr_in n)
step_stands (step.UpdateFrom a b) n = update_from (seen.given_of a) (seen.place_of b) (seen.expr_in n)
step_stands step.ArithRight n = arith_right (seen.expr_in n)
step_stands (step.ArithWith a) n = arith_with (seen.given_of a) (seen.expr_in n)
step_stands step.SameRight n = same_right (seen.expr_in n)
step_stands step.BothRight n = both_right (seen.expr_in n)
step_stands step.EitherRight n = either_right (seen.expr_in n)
step_stands step.PickOne n = pick_one (seen.expr_in n)
step_stands step.ThrowOf n = throw_of (seen.expr_in n)
step_stands (step.Operands a) n = operands (map seen.given_of a) (seen.expr_in n)
step_stands step.NewTaken n = with_new (λ plan. meaning.NewTaken plan) (λ plan. refl) (seen.expr_in n)
step_stands (step.NewMade a b) n = with_new (λ plan. meaning.NewMade a b plan) (λ plan. refl) (seen.expr_in n)
step_stands step.DeleteOf n = with_delete (λ plan. meaning.DeleteOf plan) (λ plan. refl) (seen.expr_in n)
step_stands (step.DeleteEnded a b) n = with_delete (λ plan. meaning.DeleteEnded a b plan) (λ plan. refl) (seen.expr_in n)
step_stands (step.AwaitOperand a) n = with_await (λ plan. meaning.AwaitOperand plan (seen.place_if a)) (λ plan. refl) (seen.await_in n)
step_stands (step.AwaitReady a) n = with_await (λ plan. meaning.AwaitReady plan (seen.place_if a)) (λ plan. refl) (seen.await_in n)
step_stands (step.AwaitSuspend a b) n = suspension (seen.place_if a) b n
step_stands (step.AwaitResume a) n = with_await (λ plan. meaning.AwaitResume plan (seen.place_if a)) (λ plan. refl) (seen.await_in n)
step_stands (step.ChooseOne a) n = choose_one (seen.place_if a) (seen.init_in n)
step_stands (step.Constructing a b c d e) n = constructing (seen.place_of a) b c d e (seen.func_in n)
step_stands step.BranchOn n = branch_on (seen.stmt_in n)
step_stands step.LoopTest n = with_loop (λ e next body. meaning.LoopTest e next body) (λ e next body. refl) (seen.stmt_in n)
step_stands step.LoopBody n = with_loop (λ e next body. meaning.LoopBody e next body) (λ e next body. refl) (seen.stmt_in n)
step_stands step.LoopStep n = with_loop (λ e next body. meaning.LoopStep e next body) (λ e next body. refl) (seen.stmt_in n)
step_stands step.Tries n = tries (seen.stmt_in n)
step_stands s n = refl

-- ---- places

pub some_mapped : {A B : Type 0} (g : A → B) (o : Option A) → is_some (option_map g o) ≡ is_some o
some_mapped g None = refl
some_mapped g (Some x) = refl

own_room : (x : meaning.Alive) (own : List ℕ) (c : Option ℕ) → is_none c ≡ is_some (own_with x own c)
own_room x own None = refl
own_room x own (Some c) = refl

no_object_room : (x : meaning.Alive) (t : meaning.Temporal) (ts : List meaning.Temporal) (o : Option meaning.Alive) → is_no_object o ≡ is_some (made_of x t ts o)
no_object_room x t ts None = refl
no_object_room x t ts (Some y) = refl

unmade_if : (b : Bool) (slot : ℕ) (x : meaning.Alive) (t : meaning.Temporal) (ts : List meaning.Temporal) → is_unmade slot ts ≡ is_some (made_temporaries slot x ts) →
    (if b then no_object t else is_unmade slot ts) ≡ is_some (if b then made_of x t ts t.object else option_map (λ us. t ∷ us) (made_temporaries slot x ts))
unmade_if true slot x t ts h = no_object_room x t ts t.object
unmade_if false slot x t ts h = h ∙ sym (some_mapped (λ us. t ∷ us) (made_temporaries slot x ts))

unmade_room : (slot : ℕ) (x : meaning.Alive) (ts : List meaning.Temporal) → is_unmade slot ts ≡ is_some (made_temporaries slot x ts)
unmade_room slot x [] = refl
unmade_room slot x (t ∷ ts) = unmade_if (t.slot == slot) slot x t ts (unmade_room slot x ts)

scope_room : (x : meaning.Alive) (fs : List meaning.Frame) → has_room meaning.InScope x fs ≡ is_some (into_scope x fs)
scope_room x [] = refl
scope_room x (meaning.Scope alive rest ∷ fs) = refl
scope_room x (f ∷ fs) = scope_room x fs ∙ sym (some_mapped (λ gs. f ∷ gs) (into_scope x fs))

hold_room : (x : meaning.Alive) (fs : List meaning.Frame) → has_room meaning.InHold x fs ≡ is_some (into_hold x fs)
hold_room x [] = refl
hold_room x (meaning.Holds hold ∷ fs) = refl
hold_room x (f ∷ fs) = hold_room x fs ∙ sym (some_mapped (λ gs. f ∷ gs) (into_hold x fs))

full_room : (slot : ℕ) (x : meaning.Alive) (fs : List meaning.Frame) → has_room (meaning.InFull slot) x fs ≡ is_some (into_full slot x fs)
full_room slot x [] = refl
full_room slot x (meaning.Full ts ∷ fs) = unmade_room slot x ts ∙ sym (some_mapped (λ us. meaning.Full us ∷ fs) (made_temporaries slot x ts))
full_room slot x (meaning.AwaitSuspend plan into own ∷ fs) = own_room x own x.coroutine ∙ sym (some_mapped (λ xs. meaning.AwaitSuspend plan into xs ∷ fs) (own_with x own x.coroutine))
full_room slot x (f ∷ fs) = full_room slot x fs ∙ sym (some_mapped (λ gs. f ∷ gs) (into_full slot x fs))

pub room_is_there : (spot : meaning.Spot) (x : meaning.Alive) (fs : List meaning.Frame) → has_room spot x fs ≡ is_some (stands spot x fs)
room_is_there meaning.InScope x fs = scope_room x fs
room_is_there (meaning.InFull slot) x fs = full_room slot x fs
room_is_there meaning.InHold x fs = hold_room x fs
