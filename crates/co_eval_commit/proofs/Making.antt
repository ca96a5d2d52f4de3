-- What becomes of frames where one more field of an object is made.
use Rattle.std.specs.Prelude.{◌≡◌, ℕ, suc, Bool, true, false, List, ◌∷◌, take, drop, slice_get, Option, Some, None}
use Rattle.std.proofs.Common.{refl, ap, sym, ◌∙◌}
use Rattle.std.proofs.lemmas.Bool.{true≢false}
use Rattle.co_base.specs.declared.ids.ClassId.{ClassId}
use Rattle.co_core_tree.specs.declared.exprs.AwaitPlan.{AwaitPlan}
use Rattle.co_core_tree.specs.declared.exprs.CoreExpr.{CoreExpr, end_of-CoreExpr, end_of-DeletePlan, end_of-Init, end_of-NewPlan, more_of-CoreExpr, more_of-DeletePlan, more_of-Init, more_of-NewPlan}
use Rattle.co_core_tree.specs.declared.exprs.CoreExpr.TheVariants as expr
use Rattle.co_core_tree.specs.declared.exprs.DeletePlan.{DeletePlan}
use Rattle.co_core_tree.specs.declared.exprs.Init.{Init}
use Rattle.co_core_tree.specs.declared.exprs.Init.TheVariants as init
use Rattle.co_core_tree.specs.declared.exprs.NewPlan.{NewPlan}
use Rattle.co_core_tree.specs.declared.stmts.CoreStmt.{CoreStmt, end_of-CoreStmt, more_of-CoreStmt}
use Rattle.co_core_tree.specs.declared.stmts.CoreStmt.TheVariants as stmt
use Rattle.co_core_tree.specs.declared.units.CoreFunc.{CoreFunc}
use Rattle.co_eval_data.specs.Seen as seen
use Rattle.co_eval_data.specs.Seen.{frame_of, frame_with, frames_of}
use Rattle.co_eval_data.specs.declared.frames.Frame.{Frame}
use Rattle.co_eval_data.specs.declared.frames.Node.{Node}
use Rattle.co_eval_data.specs.declared.frames.Node.TheVariants as node
use Rattle.co_eval_data.specs.declared.frames.Step.{Step}
use Rattle.co_eval_data.specs.declared.frames.Step.TheVariants as step
use Rattle.co_meaning_calls.specs.Calls.{one_more_field}
use Rattle.co_meaning_data.specs.Frames as meaning
use Rattle.co_meaning_data.specs.Store.{Place}
use Rattle.co_eval_commit.specs.Fields.{fielded_by, fields_after, with_fields}
use Rattle.co_eval_commit.specs.Looked.{AreOthers, is_full, is_no_full, meets, sort_of}
use Rattle.co_eval_commit.specs.declared.looked.Looked.TheVariants as looked
use Rattle.co_eval_commit.specs.declared.looked.Sort.{Sort}
use Rattle.co_eval_commit.specs.declared.looked.Sort.TheVariants as sort
use Rattle.co_eval_commit.proofs.Innermost.{changed_at, none_changed, same_at}
use Rattle.co_eval_commit.proofs.Sorts.{sort_is, sort_of_step}

-- no object is made in the frame
abbrev Stays : meaning.Frame → Type 0
Stays f = (fs : List meaning.Frame) → one_more_field (f ∷ fs) ≡ f ∷ fs

-- ---- the frames that depend on the part of the program

store_value : (e : Option CoreExpr) → Stays (seen.store_value e)
store_value (Some (expr.Store' n (more_of-CoreExpr p end_of-CoreExpr) m v at)) = λ fs. refl
store_value e = λ fs. refl

exchange_place : (e : Option CoreExpr) → Stays (seen.exchange_place e)
exchange_place (Some (expr.Exchange' n p m (more_of-CoreExpr v end_of-CoreExpr) at)) = λ fs. refl
exchange_place e = λ fs. refl

update_value : (e : Option CoreExpr) → Stays (seen.update_value e)
update_value (Some (expr.Update' o k n (more_of-CoreExpr p end_of-CoreExpr) m v old at)) = λ fs. refl
update_value e = λ fs. refl

update_at : (g : meaning.Given) (e : Option CoreExpr) → Stays (seen.update_at g e)
update_at g (Some (expr.Update' o k n p m v old at)) = λ fs. refl
update_at g e = λ fs. refl

update_from : (g : meaning.Given) (place : Place) (e : Option CoreExpr) → Stays (seen.update_from g place e)
update_from g place (Some (expr.Update' o k n p m v old at)) = λ fs. refl
update_from g place e = λ fs. refl

arith_right : (e : Option CoreExpr) → Stays (seen.arith_right e)
arith_right (Some (expr.Arith' o k n x m (more_of-CoreExpr y end_of-CoreExpr) at)) = λ fs. refl
arith_right e = λ fs. refl

arith_with : (g : meaning.Given) (e : Option CoreExpr) → Stays (seen.arith_with g e)
arith_with g (Some (expr.Arith' o k n x m y at)) = λ fs. refl
arith_with g e = λ fs. refl

same_right : (e : Option CoreExpr) → Stays (seen.same_right e)
same_right (Some (expr.Same' n x m (more_of-CoreExpr y end_of-CoreExpr) at)) = λ fs. refl
same_right e = λ fs. refl

both_right : (e : Option CoreExpr) → Stays (seen.both_right e)
both_right (Some (expr.Both' n x m (more_of-CoreExpr y end_of-CoreExpr) at)) = λ fs. refl
both_right e = λ fs. refl

either_right : (e : Option CoreExpr) → Stays (seen.either_right e)
either_right (Some (expr.Either' n x m (more_of-CoreExpr y end_of-CoreExpr) at)) = λ fs. refl
either_right e = λ fs. refl

pick_one : (e : Option CoreExpr) → Stays (seen.pick_one e)
pick_one (Some (expr.Pick' n e m (more_of-CoreExpr x end_of-CoreExpr) k (more_of-CoreExpr y end_of-CoreExpr) at)) = λ fs. refl
pick_one e = λ fs. refl

throw_of : (e : Option CoreExpr) → Stays (seen.throw_of e)
throw_of (Some (expr.Throw' of n e at)) = λ fs. refl
throw_of e = λ fs. refl

operands : (gs : List meaning.Given) (e : Option CoreExpr) → Stays (seen.operands gs e)
operands gs (Some (expr.Handle' o n list at)) = λ fs. refl
operands gs (Some (expr.Atomic' o n list at)) = λ fs. refl
operands gs (Some (expr.Lib' o n list at)) = λ fs. refl
operands gs e = λ fs. refl

with_new : (f : NewPlan → meaning.Frame) → ((plan : NewPlan) → Stays (f plan)) → (e : Option CoreExpr) → Stays (seen.with_new f e)
with_new f is (Some (expr.New' n (more_of-NewPlan of take may_be_null i give span end_of-NewPlan))) = is (record { of = of; take = take; may_be_null = may_be_null; init = i; give = give; span = span })
with_new f is e = λ fs. refl

with_delete : (f : DeletePlan → meaning.Frame) → ((plan : DeletePlan) → Stays (f plan)) → (e : Option CoreExpr) → Stays (seen.with_delete f e)
with_delete f is (Some (expr.Delete' n (more_of-DeletePlan of pointer destroy give span end_of-DeletePlan))) = is (record { of = of; pointer = pointer; destroy = destroy; give = give; span = span })
with_delete f is e = λ fs. refl

with_await : (f : AwaitPlan → meaning.Frame) → ((plan : AwaitPlan) → Stays (f plan)) → (plan : Option AwaitPlan) → Stays (seen.with_await f plan)
with_await f is None = λ fs. refl
with_await f is (Some plan) = is plan

choose_one : (p : Option Place) (i : Option Init) → Stays (seen.choose_one p i)
choose_one p (Some (init.Choose' e n (more_of-Init x end_of-Init) m (more_of-Init y end_of-Init))) = λ fs. refl
choose_one p i = λ fs. refl

branch_on : (s : Option CoreStmt) → Stays (seen.branch_on s)
branch_on (Some (stmt.If' e n (more_of-CoreStmt x end_of-CoreStmt) m (more_of-CoreStmt y end_of-CoreStmt) at)) = λ fs. refl
branch_on s = λ fs. refl

with_loop : (f : CoreExpr → CoreExpr → CoreStmt → meaning.Frame) → ((e next : CoreExpr) (body : CoreStmt) → Stays (f e next body)) → (s : Option CoreStmt) → Stays (seen.with_loop f s)
with_loop f is (Some (stmt.Loop' e next n (more_of-CoreStmt body end_of-CoreStmt) at)) = is e next body
with_loop f is s = λ fs. refl

tries : (s : Option CoreStmt) → Stays (seen.tries s)
tries (Some (stmt.Try' n body m handlers at)) = λ fs. refl
tries s = λ fs. refl

constructing_with : (p : Place) (class : ClassId) (built taken : ℕ) (body : List CoreStmt) (members : Option (List Init)) (fs : List meaning.Frame) → one_more_field (seen.constructing_with p class built taken body members ∷ fs) ≡ seen.constructing_with p class (suc built) taken body members ∷ fs
constructing_with p class built taken body None fs = refl
constructing_with p class built taken body (Some members) fs = refl

constructing : (p : Place) (class : ClassId) (built taken : ℕ) (left : Bool) (func : Option CoreFunc) (fs : List meaning.Frame) → one_more_field (seen.constructing p class built taken left func ∷ fs) ≡ seen.constructing p class (suc built) taken left func ∷ fs
constructing p class built taken left None fs = refl
constructing p class built taken left (Some func) fs = constructing_with p class built taken (seen.body_left left func.body) (seen.members_of func.role) fs

stays_is : (s : Step) (n : Node) → fields_after s ≡ None → is_full (sort_of_step s n) ≡ false → Stays (seen.frame_with s n)
stays_is (step.Building a b) n none full = λ fs. cc
stays_is (step.Constructing a b c d e) n none full = λ fs. cc
stays_is (step.Full a) n none full = absurd (true≢false full)
stays_is step.StoreValue n none full = store_value (seen.expr_in n)
stays_is step.ExchangePlace n none full = exchange_place (seen.expr_in n)
stays_is step.UpdateValue n none full = update_value (seen.expr_in n)
stays_is (step.UpdateAt a) n none full = update_at (seen.given_of a) (seen.expr_in n)
stays_is (step.UpdateFrom a b) n none full = update_from (seen.given_of a) (seen.place_of b) (seen.expr_in n)
stays_is step.ArithRight n none full = arith_right (seen.expr_in n)
stays_is (step.ArithWith a) n none full = arith_with (seen.given_of a) (seen.expr_in n)
stays_is step.SameRight n none full = same_right (seen.expr_in n)
stays_is step.BothRight n none full = both_right (seen.expr_in n)
stays_is step.EitherRight n none full = either_right (seen.expr_in n)
stays_is step.PickOne n none full = pick_one (seen.expr_in n)
stays_is step.ThrowOf n none full = throw_of (seen.expr_in n)
stays_is (step.Operands a) n none full = operands _ (seen.expr_in n)
stays_is step.NewTaken n none full = with_new (λ plan. meaning.NewTaken plan) (λ plan fs. refl) (seen.expr_in n)
stays_is (step.NewMade a b) n none full = with_new (λ plan. meaning.NewMade a b plan) (λ plan fs. refl) (seen.expr_in n)
stays_is step.DeleteOf n none full = with_delete (λ plan. meaning.DeleteOf plan) (λ plan fs. refl) (seen.expr_in n)
stays_is (step.DeleteEnded a b) n none full = with_delete (λ plan. meaning.DeleteEnded a b plan) (λ plan fs. refl) (seen.expr_in n)
stays_is (step.AwaitOperand a) n none full = with_await (λ plan. meaning.AwaitOperand plan (seen.place_if a)) (λ plan fs. refl) (seen.await_in n)
stays_is (step.AwaitReady a) n none full = with_await (λ plan. meaning.AwaitReady plan (seen.place_if a)) (λ plan fs. refl) (seen.await_in n)
stays_is (step.AwaitSuspend a b) (node.Await plan) none full = λ fs. refl
stays_is (step.AwaitSuspend a b) n none full = λ fs. refl
stays_is (step.AwaitResume a) n none full = with_await (λ plan. meaning.AwaitResume plan (seen.place_if a)) (λ plan fs. refl) (seen.await_in n)
stays_is (step.ChooseOne a) n none full = choose_one _ (seen.init_in n)
stays_is step.BranchOn n none full = branch_on (seen.stmt_in n)
stays_is step.LoopTest n none full = with_loop (λ e next body. meaning.LoopTest e next body) (λ e next body fs. refl) (seen.stmt_in n)
stays_is step.LoopBody n none full = with_loop (λ e next body. meaning.LoopBody e next body) (λ e next body fs. refl) (seen.stmt_in n)
stays_is step.LoopStep n none full = with_loop (λ e next body. meaning.LoopStep e next body) (λ e next body fs. refl) (seen.stmt_in n)
stays_is step.Tries n none full = tries (seen.stmt_in n)
stays_is s n none full = λ fs. refl

made_is : (s : Step) (n : Node) (fields : ℕ) (fs : List meaning.Frame) → fields_after s ≡ Some fields → one_more_field (frame_with s n ∷ fs) ≡ frame_with (with_fields fields s) n ∷ fs
made_is (step.Building a b) n fields fs e = let h : suc b ≡ fields = cc in ap (λ m. frame_with (step.Building a m) n ∷ fs) h
made_is (step.Constructing a b c d e') n fields fs e =
    let h : suc c ≡ fields = cc in
    constructing (seen.place_of a) b c d e' (seen.func_in n) fs ∙ ap (λ m. frame_with (step.Constructing a b m d e') n ∷ fs) h
made_is s n fields fs e = cc

-- ---- the innermost frame beside full-expressions

past_making : (f : meaning.Frame) (fs : List meaning.Frame) → is_no_full (sort_of f) ≡ false → one_more_field (f ∷ fs) ≡ f ∷ one_more_field fs
past_making (meaning.Full ts) fs e = refl
past_making f fs e = absurd (true≢false e)

full_is : (s : Sort) → is_no_full s ≡ true → is_full s ≡ false
full_is sort.Full e = absurd (true≢false (sym e))
full_is s e = refl

no_full : (s : Step) (n : Node) → is_no_full (sort_of_step s n) ≡ true → is_full (sort_of_step s n) ≡ false
no_full s n e = full_is (sort_of_step s n) e

pub fielded_at : (fs : List Frame) (at : ℕ) (f : Frame) (fields : ℕ) → slice_get fs at ≡ Some f → AreOthers looked.Making (drop (suc at) fs) → fields_after f.step ≡ Some fields → frames_of (fielded_by (Some (record { at = at; fields = fields })) fs) ≡ one_more_field (frames_of fs)
fielded_at fs at f fields e others is =
    rw e (changed_at looked.Making one_more_field past_making fs at f (with_fields fields f.step) e others (made_is f.step f.node fields (frames_of (take at fs)) is))

pub fielded_same : (fs : List Frame) (at : ℕ) (f : Frame) → slice_get fs at ≡ Some f → AreOthers looked.Making (drop (suc at) fs) → meets looked.Making (sort_of (frame_of f)) ≡ true → fields_after f.step ≡ None → frames_of fs ≡ one_more_field (frames_of fs)
fielded_same fs at f e others met none =
    let never : is_full (sort_of_step f.step f.node) ≡ false = no_full f.step f.node (ap is_no_full (sym (sort_is f.step f.node)) ∙ met) in
    same_at looked.Making one_more_field past_making fs at f e others (stays_is f.step f.node none never (frames_of (take at fs)))

pub none_fielded : (fs : List Frame) → AreOthers looked.Making fs → frames_of fs ≡ one_more_field (frames_of fs)
none_fielded fs others = none_changed looked.Making one_more_field past_making fs others refl
