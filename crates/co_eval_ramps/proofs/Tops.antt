-- The frames on top that a step looks for, and those that are none of them.
use Rattle.std.specs.Prelude.{◌≡◌, ℕ, Bool, true, false, List, ◌∷◌, Option, None, Some}
use Rattle.std.proofs.Common.{refl}
use Rattle.std.proofs.lemmas.Bool.{false≢true}
use Rattle.co_base.specs.declared.ids.ClassId.{ClassId}
use Rattle.co_core_tree.specs.declared.exprs.AwaitPlan.{AwaitPlan}
use Rattle.co_core_tree.specs.declared.exprs.CoreExpr.{CoreExpr, end_of-CoreExpr, end_of-DeletePlan, end_of-Init, end_of-NewPlan, more_of-CoreExpr, more_of-DeletePlan, more_of-Init, more_of-NewPlan}
use Rattle.co_core_tree.specs.declared.exprs.CoreExpr.TheVariants as expr
use Rattle.co_core_tree.specs.declared.exprs.DeletePlan.{DeletePlan}
use Rattle.co_core_tree.specs.declared.exprs.Init.{Init}
use Rattle.co_core_tree.specs.declared.exprs.Init.TheVariants as init
use Rattle.co_core_tree.specs.declared.exprs.NewPlan.{NewPlan}
use Rattle.co_core_tree.specs.declared.stmts.CoreStmt.{CoreStmt, end_of-CoreStmt, more_of-CoreStmt}
use Rattle.co_core_tree.specs.declared.stmts.CoreStmt.TheVariants as stmt
use Rattle.co_core_tree.specs.declared.units.CoreFunc.{CoreFunc}
use Rattle.co_core_tree.specs.declared.units.PromisePlan.{PromisePlan}
use Rattle.co_eval_data.specs.Seen as seen
use Rattle.co_eval_data.specs.Seen.{frame_with}
use Rattle.co_eval_data.specs.declared.frames.Hold.{Hold}
use Rattle.co_eval_data.specs.declared.frames.Node.{Node}
use Rattle.co_eval_data.specs.declared.frames.Step.{Step}
use Rattle.co_eval_data.specs.declared.frames.Step.TheVariants as step
use Rattle.co_meaning_data.specs.Frames as meaning
use Rattle.co_meaning_data.specs.Store as stored
use Rattle.co_meaning_calls.specs.Coroutines.{ramp_body_by}
use Rattle.co_meaning_data.specs.Turn.{Local}

abbrev is_other : meaning.Frame → Bool
is_other (meaning.Holds hold) = false
is_other f = true

no_hold : (f : meaning.Frame) (fs : List meaning.Frame) (l : Local) (p : Option PromisePlan) → is_other f ≡ true → ramp_body_by (f ∷ fs) l p ≡ None
no_hold (meaning.Holds hold) fs l p e = absurd (false≢true e)
no_hold f fs l p e = refl

store_value : (e : Option CoreExpr) → is_other (seen.store_value e) ≡ true
store_value (Some (expr.Store' n (more_of-CoreExpr p end_of-CoreExpr) m v at)) = refl
store_value e = refl

exchange_place : (e : Option CoreExpr) → is_other (seen.exchange_place e) ≡ true
exchange_place (Some (expr.Exchange' n p m (more_of-CoreExpr v end_of-CoreExpr) at)) = refl
exchange_place e = refl

update_value : (e : Option CoreExpr) → is_other (seen.update_value e) ≡ true
update_value (Some (expr.Update' o k n (more_of-CoreExpr p end_of-CoreExpr) m v old at)) = refl
update_value e = refl

update_at : (g : meaning.Given) (e : Option CoreExpr) → is_other (seen.update_at g e) ≡ true
update_at g (Some (expr.Update' o k n p m v old at)) = refl
update_at g e = refl

update_from : (g : meaning.Given) (place : stored.Place) (e : Option CoreExpr) → is_other (seen.update_from g place e) ≡ true
update_from g place (Some (expr.Update' o k n p m v old at)) = refl
update_from g place e = refl

arith_right : (e : Option CoreExpr) → is_other (seen.arith_right e) ≡ true
arith_right (Some (expr.Arith' o k n x m (more_of-CoreExpr y end_of-CoreExpr) at)) = refl
arith_right e = refl

arith_with : (g : meaning.Given) (e : Option CoreExpr) → is_other (seen.arith_with g e) ≡ true
arith_with g (Some (expr.Arith' o k n x m y at)) = refl
arith_with g e = refl

same_right : (e : Option CoreExpr) → is_other (seen.same_right e) ≡ true
same_right (Some (expr.Same' n x m (more_of-CoreExpr y end_of-CoreExpr) at)) = refl
same_right e = refl

both_right : (e : Option CoreExpr) → is_other (seen.both_right e) ≡ true
both_right (Some (expr.Both' n x m (more_of-CoreExpr y end_of-CoreExpr) at)) = refl
both_right e = refl

either_right : (e : Option CoreExpr) → is_other (seen.either_right e) ≡ true
either_right (Some (expr.Either' n x m (more_of-CoreExpr y end_of-CoreExpr) at)) = refl
either_right e = refl

pick_one : (e : Option CoreExpr) → is_other (seen.pick_one e) ≡ true
pick_one (Some (expr.Pick' n e m (more_of-CoreExpr x end_of-CoreExpr) k (more_of-CoreExpr y end_of-CoreExpr) at)) = refl
pick_one e = refl

throw_of : (e : Option CoreExpr) → is_other (seen.throw_of e) ≡ true
throw_of (Some (expr.Throw' of n e at)) = refl
throw_of e = refl

operands : (gs : List meaning.Given) (e : Option CoreExpr) → is_other (seen.operands gs e) ≡ true
operands gs (Some (expr.Handle' o n list at)) = refl
operands gs (Some (expr.Atomic' o n list at)) = refl
operands gs (Some (expr.Lib' o n list at)) = refl
operands gs e = refl

with_new : (f : NewPlan → meaning.Frame) (e : Option CoreExpr) → ((plan : NewPlan) → is_other (f plan) ≡ true) → is_other (seen.with_new f e) ≡ true
with_new f (Some (expr.New' n (more_of-NewPlan of take may_be_null i give span end_of-NewPlan))) h = h (record { of = of; take = take; may_be_null = may_be_null; init = i; give = give; span = span })
with_new f e h = refl

with_delete : (f : DeletePlan → meaning.Frame) (e : Option CoreExpr) → ((plan : DeletePlan) → is_other (f plan) ≡ true) → is_other (seen.with_delete f e) ≡ true
with_delete f (Some (expr.Delete' n (more_of-DeletePlan of pointer destroy give span end_of-DeletePlan))) h = h (record { of = of; pointer = pointer; destroy = destroy; give = give; span = span })
with_delete f e h = refl

with_await : (f : AwaitPlan → meaning.Frame) (e : Option AwaitPlan) → ((plan : AwaitPlan) → is_other (f plan) ≡ true) → is_other (seen.with_await f e) ≡ true
with_await f None h = refl
with_await f (Some plan) h = h plan

choose_one : (p : Option stored.Place) (i : Option Init) → is_other (seen.choose_one p i) ≡ true
choose_one p (Some (init.Choose' e n (more_of-Init x end_of-Init) m (more_of-Init y end_of-Init))) = refl
choose_one p i = refl

branch_on : (s : Option CoreStmt) → is_other (seen.branch_on s) ≡ true
branch_on (Some (stmt.If' e n (more_of-CoreStmt x end_of-CoreStmt) m (more_of-CoreStmt y end_of-CoreStmt) at)) = refl
branch_on s = refl

with_loop : (f : CoreExpr → CoreExpr → CoreStmt → meaning.Frame) (s : Option CoreStmt) → ((e next : CoreExpr) (body : CoreStmt) → is_other (f e next body) ≡ true) → is_other (seen.with_loop f s) ≡ true
with_loop f (Some (stmt.Loop' e next n (more_of-CoreStmt body end_of-CoreStmt) at)) h = h e next body
with_loop f s h = refl

tries : (s : Option CoreStmt) → is_other (seen.tries s) ≡ true
tries (Some (stmt.Try' n body m handlers at)) = refl
tries s = refl

constructing_with : (p : stored.Place) (class : ClassId) (built taken : ℕ) (body : List CoreStmt) (members : Option (List Init)) → is_other (seen.constructing_with p class built taken body members) ≡ true
constructing_with p class built taken body None = refl
constructing_with p class built taken body (Some members) = refl

constructing : (p : stored.Place) (class : ClassId) (built taken : ℕ) (left : Bool) (func : Option CoreFunc) → is_other (seen.constructing p class built taken left func) ≡ true
constructing p class built taken left None = refl
constructing p class built taken left (Some func) = constructing_with p class built taken (seen.body_left left func.body) (seen.members_of func.role)

abbrev is_other_step : Step → Bool
is_other_step (step.Holds hold) = false
is_other_step s = true

other_step : (s : Step) (n : Node) → is_other_step s ≡ true → is_other (frame_with s n) ≡ true
other_step (step.Holds a) n h = absurd (false≢true h)
other_step step.StoreValue n h = store_value (seen.expr_in n)
other_step step.ExchangePlace n h = exchange_place (seen.expr_in n)
other_step step.UpdateValue n h = update_value (seen.expr_in n)
other_step (step.UpdateAt a) n h = update_at (seen.given_of a) (seen.expr_in n)
other_step (step.UpdateFrom a b) n h = update_from (seen.given_of a) (seen.place_of b) (seen.expr_in n)
other_step step.ArithRight n h = arith_right (seen.expr_in n)
other_step (step.ArithWith a) n h = arith_with (seen.given_of a) (seen.expr_in n)
other_step step.SameRight n h = same_right (seen.expr_in n)
other_step step.BothRight n h = both_right (seen.expr_in n)
other_step step.EitherRight n h = either_right (seen.expr_in n)
other_step step.PickOne n h = pick_one (seen.expr_in n)
other_step step.ThrowOf n h = throw_of (seen.expr_in n)
other_step (step.Operands a) n h = operands _ (seen.expr_in n)
other_step step.NewTaken n h = with_new (λ plan. meaning.NewTaken plan) (seen.expr_in n) (λ plan. refl)
other_step (step.NewMade a b) n h = with_new (λ plan. meaning.NewMade a b plan) (seen.expr_in n) (λ plan. refl)
other_step step.DeleteOf n h = with_delete (λ plan. meaning.DeleteOf plan) (seen.expr_in n) (λ plan. refl)
other_step (step.DeleteEnded a b) n h = with_delete (λ plan. meaning.DeleteEnded a b plan) (seen.expr_in n) (λ plan. refl)
other_step (step.AwaitOperand a) n h = with_await _ (seen.await_in n) (λ plan. refl)
other_step (step.AwaitReady a) n h = with_await _ (seen.await_in n) (λ plan. refl)
other_step (step.AwaitSuspend a b) n h = with_await _ (seen.await_in n) (λ plan. refl)
other_step (step.AwaitResume a) n h = with_await _ (seen.await_in n) (λ plan. refl)
other_step (step.ChooseOne a) n h = choose_one (seen.place_if a) (seen.init_in n)
other_step (step.Constructing a b c d e) n h = constructing (seen.place_of a) b c d e (seen.func_in n)
other_step step.BranchOn n h = branch_on (seen.stmt_in n)
other_step step.LoopTest n h = with_loop _ (seen.stmt_in n) (λ e next body. refl)
other_step step.LoopBody n h = with_loop _ (seen.stmt_in n) (λ e next body. refl)
other_step step.LoopStep n h = with_loop _ (seen.stmt_in n) (λ e next body. refl)
other_step step.Tries n h = tries (seen.stmt_in n)
other_step s n h = refl

not_holding : (s : Step) → ((a : Hold) → s ≡ step.Holds a → ⊥) → is_other_step s ≡ true
not_holding (step.Holds a) h = absurd (h a refl)
not_holding s h = refl

pub no_hold_step : (s : Step) (n : Node) (fs : List meaning.Frame) (l : Local) (p : Option PromisePlan) → ((a : Hold) → s ≡ step.Holds a → ⊥) → ramp_body_by (frame_with s n ∷ fs) l p ≡ None
no_hold_step s n fs l p h = no_hold (frame_with s n) fs l p (other_step s n (not_holding s h))
