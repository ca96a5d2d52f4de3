-- The objects that are made by frames, the innermost first.
use Rattle.std.specs.Prelude.{◌≡◌, ◌≤◌, ◌<◌, ℕ, zero, suc, ◌+◌, ◌-◌, Bool, true, false, List, [], ◌∷◌, ◌++◌, map, reverse, length, take, get_or, slice_get, if◌then◌else◌, Option, None, Some}
use Rattle.std.proofs.Common.{refl, ap, ◌∙◌, sym, arith}
use Rattle.std.proofs.lemmas.List.{map-append, reverse-append}
use Rattle.co_base.specs.declared.ids.ClassId.{ClassId}
use Rattle.co_core_tree.specs.declared.exprs.AwaitPlan.{AwaitPlan}
use Rattle.co_core_tree.specs.declared.exprs.CoreExpr.{CoreExpr, end_of-CoreExpr, end_of-DeletePlan, end_of-Init, end_of-NewPlan, more_of-CoreExpr, more_of-DeletePlan, more_of-Init, more_of-NewPlan}
use Rattle.co_core_tree.specs.declared.exprs.CoreExpr.TheVariants as expr
use Rattle.co_core_tree.specs.declared.exprs.DeletePlan.{DeletePlan}
use Rattle.co_core_tree.specs.declared.exprs.Init.{Init}
use Rattle.co_core_tree.specs.declared.exprs.Init.TheVariants as init
use Rattle.co_core_tree.specs.declared.exprs.NewPlan.{NewPlan}
use Rattle.co_core_tree.specs.declared.stmts.CoreStmt.{CoreStmt, end_of-CoreStmt, more_of-CoreStmt}
use Rattle.co_core_tree.specs.declared.stmts.CoreStmt.TheVariants as stmt
use Rattle.co_core_tree.specs.declared.units.CoreFunc.{CoreFunc}
use Rattle.co_core_tree.specs.declared.units.FuncRole.{FuncRole}
use Rattle.co_core_tree.specs.declared.units.FuncRole.TheVariants as role
use Rattle.co_eval_data.specs.declared.frames.Frame.{Frame}
use Rattle.co_eval_data.specs.declared.frames.Node.{Node}
use Rattle.co_eval_data.specs.declared.frames.Step.{Step}
use Rattle.co_eval_data.specs.declared.frames.Step.TheVariants as step
use Rattle.co_eval_data.specs.Seen as seen
use Rattle.co_meaning_data.specs.Frames as meaning
use Rattle.co_meaning_data.specs.Store as stored
use Rattle.co_meaning.specs.Expressions.{wholes}
use Rattle.co_eval_expressions.specs.Made.{has_members, is_made_in, made_in, made_with}

-- the object of a frame is made inside those of the others
abbrev added : Option stored.Place → List stored.Place → List stored.Place
added None ps = ps
added (Some p) ps = p ∷ ps

store_plain : (e : Option CoreExpr) (fs : List meaning.Frame) → wholes (seen.store_value e ∷ fs) ≡ wholes fs
store_plain (Some (expr.Store' n (more_of-CoreExpr p end_of-CoreExpr) m v at)) fs = refl
store_plain e fs = refl

exchange_plain : (e : Option CoreExpr) (fs : List meaning.Frame) → wholes (seen.exchange_place e ∷ fs) ≡ wholes fs
exchange_plain (Some (expr.Exchange' n p m (more_of-CoreExpr v end_of-CoreExpr) at)) fs = refl
exchange_plain e fs = refl

update_value_plain : (e : Option CoreExpr) (fs : List meaning.Frame) → wholes (seen.update_value e ∷ fs) ≡ wholes fs
update_value_plain (Some (expr.Update' o k n (more_of-CoreExpr p end_of-CoreExpr) m v old at)) fs = refl
update_value_plain e fs = refl

update_at_plain : (g : meaning.Given) (e : Option CoreExpr) (fs : List meaning.Frame) → wholes (seen.update_at g e ∷ fs) ≡ wholes fs
update_at_plain g (Some (expr.Update' o k n p m v old at)) fs = refl
update_at_plain g e fs = refl

update_from_plain : (g : meaning.Given) (place : stored.Place) (e : Option CoreExpr) (fs : List meaning.Frame) → wholes (seen.update_from g place e ∷ fs) ≡ wholes fs
update_from_plain g place (Some (expr.Update' o k n p m v old at)) fs = refl
update_from_plain g place e fs = refl

arith_right_plain : (e : Option CoreExpr) (fs : List meaning.Frame) → wholes (seen.arith_right e ∷ fs) ≡ wholes fs
arith_right_plain (Some (expr.Arith' o k n x m (more_of-CoreExpr y end_of-CoreExpr) at)) fs = refl
arith_right_plain e fs = refl

arith_with_plain : (g : meaning.Given) (e : Option CoreExpr) (fs : List meaning.Frame) → wholes (seen.arith_with g e ∷ fs) ≡ wholes fs
arith_with_plain g (Some (expr.Arith' o k n x m y at)) fs = refl
arith_with_plain g e fs = refl

same_right_plain : (e : Option CoreExpr) (fs : List meaning.Frame) → wholes (seen.same_right e ∷ fs) ≡ wholes fs
same_right_plain (Some (expr.Same' n x m (more_of-CoreExpr y end_of-CoreExpr) at)) fs = refl
same_right_plain e fs = refl

both_right_plain : (e : Option CoreExpr) (fs : List meaning.Frame) → wholes (seen.both_right e ∷ fs) ≡ wholes fs
both_right_plain (Some (expr.Both' n x m (more_of-CoreExpr y end_of-CoreExpr) at)) fs = refl
both_right_plain e fs = refl

either_right_plain : (e : Option CoreExpr) (fs : List meaning.Frame) → wholes (seen.either_right e ∷ fs) ≡ wholes fs
either_right_plain (Some (expr.Either' n x m (more_of-CoreExpr y end_of-CoreExpr) at)) fs = refl
either_right_plain e fs = refl

pick_plain : (e : Option CoreExpr) (fs : List meaning.Frame) → wholes (seen.pick_one e ∷ fs) ≡ wholes fs
pick_plain (Some (expr.Pick' n e m (more_of-CoreExpr x end_of-CoreExpr) k (more_of-CoreExpr y end_of-CoreExpr) at)) fs = refl
pick_plain e fs = refl

throw_plain : (e : Option CoreExpr) (fs : List meaning.Frame) → wholes (seen.throw_of e ∷ fs) ≡ wholes fs
throw_plain (Some (expr.Throw' of n e at)) fs = refl
throw_plain e fs = refl

operands_plain : (gs : List meaning.Given) (e : Option CoreExpr) (fs : List meaning.Frame) → wholes (seen.operands gs e ∷ fs) ≡ wholes fs
operands_plain gs (Some (expr.Handle' o n list at)) fs = refl
operands_plain gs (Some (expr.Atomic' o n list at)) fs = refl
operands_plain gs (Some (expr.Lib' o n list at)) fs = refl
operands_plain gs e fs = refl

new_plain : (f : NewPlan → meaning.Frame) → ((plan : NewPlan) (fs : List meaning.Frame) → wholes (f plan ∷ fs) ≡ wholes fs) → (e : Option CoreExpr) (fs : List meaning.Frame) → wholes (seen.with_new f e ∷ fs) ≡ wholes fs
new_plain f h (Some (expr.New' n (more_of-NewPlan of take may_be_null i give span end_of-NewPlan))) fs = h (record { of = of; take = take; may_be_null = may_be_null; init = i; give = give; span = span }) fs
new_plain f h e fs = refl

delete_plain : (f : DeletePlan → meaning.Frame) → ((plan : DeletePlan) (fs : List meaning.Frame) → wholes (f plan ∷ fs) ≡ wholes fs) → (e : Option CoreExpr) (fs : List meaning.Frame) → wholes (seen.with_delete f e ∷ fs) ≡ wholes fs
delete_plain f h (Some (expr.Delete' n (more_of-DeletePlan of pointer destroy give span end_of-DeletePlan))) fs = h (record { of = of; pointer = pointer; destroy = destroy; give = give; span = span }) fs
delete_plain f h e fs = refl

await_plain : (f : AwaitPlan → meaning.Frame) → ((plan : AwaitPlan) (fs : List meaning.Frame) → wholes (f plan ∷ fs) ≡ wholes fs) → (e : Option AwaitPlan) (fs : List meaning.Frame) → wholes (seen.with_await f e ∷ fs) ≡ wholes fs
await_plain f h None fs = refl
await_plain f h (Some plan) fs = h plan fs

choose_plain : (p : Option stored.Place) (i : Option Init) (fs : List meaning.Frame) → wholes (seen.choose_one p i ∷ fs) ≡ wholes fs
choose_plain p (Some (init.Choose' e n (more_of-Init x end_of-Init) m (more_of-Init y end_of-Init))) fs = refl
choose_plain p i fs = refl

branch_plain : (s : Option CoreStmt) (fs : List meaning.Frame) → wholes (seen.branch_on s ∷ fs) ≡ wholes fs
branch_plain (Some (stmt.If' e n (more_of-CoreStmt x end_of-CoreStmt) m (more_of-CoreStmt y end_of-CoreStmt) at)) fs = refl
branch_plain s fs = refl

loop_plain : (f : CoreExpr → CoreExpr → CoreStmt → meaning.Frame) → ((e next : CoreExpr) (body : CoreStmt) (fs : List meaning.Frame) → wholes (f e next body ∷ fs) ≡ wholes fs) → (s : Option CoreStmt) (fs : List meaning.Frame) → wholes (seen.with_loop f s ∷ fs) ≡ wholes fs
loop_plain f h (Some (stmt.Loop' e next n (more_of-CoreStmt body end_of-CoreStmt) at)) fs = h e next body fs
loop_plain f h s fs = refl

tries_plain : (s : Option CoreStmt) (fs : List meaning.Frame) → wholes (seen.tries s ∷ fs) ≡ wholes fs
tries_plain (Some (stmt.Try' n body m handlers at)) fs = refl
tries_plain s fs = refl

by_role : (p : stored.Place) (class : ClassId) (built taken : ℕ) (body : List CoreStmt) (r : FuncRole) (fs : List meaning.Frame) → wholes (seen.constructing_with p class built taken body (seen.members_of r) ∷ fs) ≡ added (if has_members r then Some p else None) (wholes fs)
by_role p class built taken body (role.Ctor c members) fs = refl
by_role p class built taken body r fs = refl

constructing_made : (p : stored.Place) (class : ClassId) (built taken : ℕ) (left : Bool) (func : Option CoreFunc) (fs : List meaning.Frame) → wholes (seen.constructing p class built taken left func ∷ fs) ≡ added (if is_made_in func then Some p else None) (wholes fs)
constructing_made p class built taken left None fs = refl
constructing_made p class built taken left (Some func) fs = by_role p class built taken (seen.body_left left func.body) func.role fs

made_outermost : (s : Step) (n : Node) (fs : List meaning.Frame) → wholes (seen.frame_with s n ∷ fs) ≡ added (made_with s n) (wholes fs)
made_outermost step.StoreValue n fs = store_plain (seen.expr_in n) fs
made_outermost step.ExchangePlace n fs = exchange_plain (seen.expr_in n) fs
made_outermost step.UpdateValue n fs = update_value_plain (seen.expr_in n) fs
made_outermost (step.UpdateAt a) n fs = update_at_plain (seen.given_of a) (seen.expr_in n) fs
made_outermost (step.UpdateFrom a b) n fs = update_from_plain (seen.given_of a) (seen.place_of b) (seen.expr_in n) fs
made_outermost step.ArithRight n fs = arith_right_plain (seen.expr_in n) fs
made_outermost (step.ArithWith a) n fs = arith_with_plain (seen.given_of a) (seen.expr_in n) fs
made_outermost step.SameRight n fs = same_right_plain (seen.expr_in n) fs
made_outermost step.BothRight n fs = both_right_plain (seen.expr_in n) fs
made_outermost step.EitherRight n fs = either_right_plain (seen.expr_in n) fs
made_outermost step.PickOne n fs = pick_plain (seen.expr_in n) fs
made_outermost step.ThrowOf n fs = throw_plain (seen.expr_in n) fs
made_outermost (step.Operands a) n fs = operands_plain (map seen.given_of a) (seen.expr_in n) fs
made_outermost step.NewTaken n fs = new_plain (λ plan. meaning.NewTaken plan) (λ plan gs. refl) (seen.expr_in n) fs
made_outermost (step.NewMade a b) n fs = new_plain (λ plan. meaning.NewMade a b plan) (λ plan gs. refl) (seen.expr_in n) fs
made_outermost step.DeleteOf n fs = delete_plain (λ plan. meaning.DeleteOf plan) (λ plan gs. refl) (seen.expr_in n) fs
made_outermost (step.DeleteEnded a b) n fs = delete_plain (λ plan. meaning.DeleteEnded a b plan) (λ plan gs. refl) (seen.expr_in n) fs
made_outermost (step.AwaitOperand a) n fs = await_plain (λ plan. meaning.AwaitOperand plan (seen.place_if a)) (λ plan gs. refl) (seen.await_in n) fs
made_outermost (step.AwaitReady a) n fs = await_plain (λ plan. meaning.AwaitReady plan (seen.place_if a)) (λ plan gs. refl) (seen.await_in n) fs
made_outermost (step.AwaitSuspend a b) n fs = await_plain (λ plan. meaning.AwaitSuspend plan (seen.place_if a) b) (λ plan gs. refl) (seen.await_in n) fs
made_outermost (step.AwaitResume a) n fs = await_plain (λ plan. meaning.AwaitResume plan (seen.place_if a)) (λ plan gs. refl) (seen.await_in n) fs
made_outermost (step.ChooseOne a) n fs = choose_plain (seen.place_if a) (seen.init_in n) fs
made_outermost (step.Constructing a b c d e) n fs = constructing_made (seen.place_of a) b c d e (seen.func_in n) fs
made_outermost step.BranchOn n fs = branch_plain (seen.stmt_in n) fs
made_outermost step.LoopTest n fs = loop_plain (λ e next body. meaning.LoopTest e next body) (λ e next body gs. refl) (seen.stmt_in n) fs
made_outermost step.LoopBody n fs = loop_plain (λ e next body. meaning.LoopBody e next body) (λ e next body gs. refl) (seen.stmt_in n) fs
made_outermost step.LoopStep n fs = loop_plain (λ e next body. meaning.LoopStep e next body) (λ e next body gs. refl) (seen.stmt_in n) fs
made_outermost step.Tries n fs = tries_plain (seen.stmt_in n) fs
made_outermost s n fs = refl

-- a list as what stands before its last item, and that item
last_apart : {A : Type 0} (xs : List A) (x : A) → 1 ≤ length xs → x ≡ get_or xs (length xs - 1) x → xs ≡ take (length xs - 1) xs ++ x ∷ []
last_apart [] x some is = absurd (omega (arith, some))
last_apart (y ∷ []) x some is = ap (λ k. k ∷ []) (sym is)
last_apart (y ∷ z ∷ ys) x some is =
    let more : 1 ≤ length (z ∷ ys) = omega arith in
    let count : suc (length (z ∷ ys) - 1) ≡ length (y ∷ z ∷ ys) - 1 = omega arith in
    let inner : x ≡ get_or (z ∷ ys) (length (z ∷ ys) - 1) x = is ∙ ap (λ n. get_or (y ∷ z ∷ ys) n x) (sym count) in
    ap (λ l. y ∷ l) (last_apart (z ∷ ys) x more inner) ∙ ap (λ n. take n (y ∷ z ∷ ys) ++ x ∷ []) count

pub frames_apart : (fs : List Frame) (f : Frame) → seen.frames_of (fs ++ f ∷ []) ≡ seen.frame_of f ∷ seen.frames_of fs
frames_apart fs f = ap reverse (map-append seen.frame_of fs (f ∷ [])) ∙ reverse-append (map seen.frame_of fs) (seen.frame_of f ∷ [])

wholes_apart : (fs : List Frame) (f : Frame) → 1 ≤ length fs → f ≡ get_or fs (length fs - 1) f → wholes (seen.frames_of fs) ≡ added (made_in f) (wholes (seen.frames_of (take (length fs - 1) fs)))
wholes_apart fs f some is =
    ap (λ gs. wholes (seen.frames_of gs)) (last_apart fs f some is)
    ∙ ap wholes (frames_apart (take (length fs - 1) fs) f)
    ∙ made_outermost f.step f.node (seen.frames_of (take (length fs - 1) fs))

pub none_made : (fs : List Frame) (k : ℕ) → length fs < 1 → slice_get (wholes (seen.frames_of fs)) k ≡ None
none_made [] k none = refl
none_made (f ∷ fs) k none = absurd (omega (arith, none))

pub made_first : (fs : List Frame) (f : Frame) (k : ℕ) (p : stored.Place) → 1 ≤ length fs → f ≡ get_or fs (length fs - 1) f → made_in f ≡ Some p → k ≡ 0 → slice_get (wholes (seen.frames_of fs)) k ≡ Some p
made_first fs f zero p some is made first =
    ap (λ ps. slice_get ps 0) (wholes_apart fs f some is ∙ ap (λ m. added m (wholes (seen.frames_of (take (length fs - 1) fs)))) made)
made_first fs f (suc k) p some is made first = absurd (omega (arith, first))

pub made_later : (fs : List Frame) (f : Frame) (k j : ℕ) (p : stored.Place) → 1 ≤ length fs → f ≡ get_or fs (length fs - 1) f → made_in f ≡ Some p → j + 1 ≡ k → slice_get (wholes (seen.frames_of (take (length fs - 1) fs))) j ≡ slice_get (wholes (seen.frames_of fs)) k
made_later fs f zero j p some is made next = absurd (omega (arith, next))
made_later fs f (suc k) j p some is made next =
    let same : j ≡ k = omega (arith, next) in
    ap (slice_get (wholes (seen.frames_of (take (length fs - 1) fs)))) same
    ∙ sym (ap (λ ps. slice_get ps (suc k)) (wholes_apart fs f some is ∙ ap (λ m. added m (wholes (seen.frames_of (take (length fs - 1) fs)))) made))

pub made_outside : (fs : List Frame) (f : Frame) (k : ℕ) → 1 ≤ length fs → f ≡ get_or fs (length fs - 1) f → made_in f ≡ None → slice_get (wholes (seen.frames_of (take (length fs - 1) fs))) k ≡ slice_get (wholes (seen.frames_of fs)) k
made_outside fs f k some is made =
    sym (ap (λ ps. slice_get ps k) (wholes_apart fs f some is ∙ ap (λ m. added m (wholes (seen.frames_of (take (length fs - 1) fs)))) made))
