-- Which frames of the meaning are looked at where an object comes to stand, a mark is set or the initial `await_resume` is reached.
use Rattle.std.specs.Prelude.{◌≡◌, ℕ, Bool, false, List, ◌∷◌, Option, Some, None}
use Rattle.std.specs.Option.{option_map}
use Rattle.std.proofs.Common.{refl, ◌∙◌, ap}
use Rattle.std.proofs.lemmas.Bool.{true≢false}
use Rattle.co_core_tree.specs.declared.exprs.AwaitPlan.{AwaitPlan}
use Rattle.co_core_tree.specs.declared.exprs.CoreExpr.{CoreExpr, end_of-CoreExpr, end_of-DeletePlan, end_of-Init, end_of-NewPlan, more_of-CoreExpr, more_of-DeletePlan, more_of-Init, more_of-NewPlan}
use Rattle.co_core_tree.specs.declared.exprs.CoreExpr.TheVariants as expr
use Rattle.co_core_tree.specs.declared.exprs.DeletePlan.{DeletePlan}
use Rattle.co_core_tree.specs.declared.exprs.Init.{Init}
use Rattle.co_core_tree.specs.declared.exprs.Init.TheVariants as init
use Rattle.co_core_tree.specs.declared.exprs.NewPlan.{NewPlan}
use Rattle.co_core_tree.specs.declared.stmts.CoreStmt.{CoreStmt, end_of-CoreStmt, more_of-CoreStmt}
use Rattle.co_core_tree.specs.declared.stmts.CoreStmt.TheVariants as stmt
use Rattle.co_core_tree.specs.declared.units.CoreFunc.{CoreFunc}
use Rattle.co_base.specs.declared.ids.ClassId.{ClassId}
use Rattle.co_meaning_calls.specs.Coroutines.{reached}
use Rattle.co_meaning_calls.specs.Objects.{into_full, into_hold, into_scope, set_mark}
use Rattle.co_eval_commit.specs.declared.looked.Sort.{Sort}
use Rattle.co_eval_commit.specs.declared.looked.Sort.TheVariants as sort
use Rattle.co_eval_commit.specs.Looked.{sort_of, is_scope, is_full, has_temporaries, is_hold, is_guard}
use Rattle.co_meaning_data.specs.Frames as meaning
use Rattle.co_meaning_data.specs.Store.{Place}
use Rattle.co_eval_data.specs.Changed.{or_same}
use Rattle.co_eval_data.specs.Seen as seen
use Rattle.co_eval_data.specs.declared.frames.Alive.{Alive}
use Rattle.co_eval_data.specs.declared.frames.Hold.{Hold}
use Rattle.co_eval_data.specs.declared.frames.Temporal.{Temporal}
use Rattle.co_eval_data.specs.declared.values.Place as declared
use Rattle.co_eval_data.specs.declared.frames.Node.{Node}
use Rattle.co_eval_data.specs.declared.frames.Node.TheVariants as node
use Rattle.co_eval_data.specs.declared.frames.Step.{Step}
use Rattle.co_eval_data.specs.declared.frames.Step.TheVariants as step

abbrev pub sort_of_step : Step → Node → Sort
sort_of_step (step.Scope a) n = sort.Scope
sort_of_step (step.Full a) n = sort.Full
sort_of_step (step.AwaitSuspend a b) (node.Await plan) = sort.Await
sort_of_step (step.Holds a) n = sort.Hold
sort_of_step (step.Guards a) n = sort.Guard
sort_of_step s n = sort.Other

-- ---- the frames that depend on the part of the program

store_value : (e : Option CoreExpr) → sort_of (seen.store_value e) ≡ sort.Other
store_value (Some (expr.Store' n (more_of-CoreExpr p end_of-CoreExpr) m v at)) = refl
store_value e = refl

exchange_place : (e : Option CoreExpr) → sort_of (seen.exchange_place e) ≡ sort.Other
exchange_place (Some (expr.Exchange' n p m (more_of-CoreExpr v end_of-CoreExpr) at)) = refl
exchange_place e = refl

update_value : (e : Option CoreExpr) → sort_of (seen.update_value e) ≡ sort.Other
update_value (Some (expr.Update' o k n (more_of-CoreExpr p end_of-CoreExpr) m v old at)) = refl
update_value e = refl

update_at : (g : meaning.Given) (e : Option CoreExpr) → sort_of (seen.update_at g e) ≡ sort.Other
update_at g (Some (expr.Update' o k n p m v old at)) = refl
update_at g e = refl

update_from : (g : meaning.Given) (place : Place) (e : Option CoreExpr) → sort_of (seen.update_from g place e) ≡ sort.Other
update_from g place (Some (expr.Update' o k n p m v old at)) = refl
update_from g place e = refl

arith_right : (e : Option CoreExpr) → sort_of (seen.arith_right e) ≡ sort.Other
arith_right (Some (expr.Arith' o k n x m (more_of-CoreExpr y end_of-CoreExpr) at)) = refl
arith_right e = refl

arith_with : (g : meaning.Given) (e : Option CoreExpr) → sort_of (seen.arith_with g e) ≡ sort.Other
arith_with g (Some (expr.Arith' o k n x m y at)) = refl
arith_with g e = refl

same_right : (e : Option CoreExpr) → sort_of (seen.same_right e) ≡ sort.Other
same_right (Some (expr.Same' n x m (more_of-CoreExpr y end_of-CoreExpr) at)) = refl
same_right e = refl

both_right : (e : Option CoreExpr) → sort_of (seen.both_right e) ≡ sort.Other
both_right (Some (expr.Both' n x m (more_of-CoreExpr y end_of-CoreExpr) at)) = refl
both_right e = refl

either_right : (e : Option CoreExpr) → sort_of (seen.either_right e) ≡ sort.Other
either_right (Some (expr.Either' n x m (more_of-CoreExpr y end_of-CoreExpr) at)) = refl
either_right e = refl

pick_one : (e : Option CoreExpr) → sort_of (seen.pick_one e) ≡ sort.Other
pick_one (Some (expr.Pick' n e m (more_of-CoreExpr x end_of-CoreExpr) k (more_of-CoreExpr y end_of-CoreExpr) at)) = refl
pick_one e = refl

throw_of : (e : Option CoreExpr) → sort_of (seen.throw_of e) ≡ sort.Other
throw_of (Some (expr.Throw' of n e at)) = refl
throw_of e = refl

operands : (gs : List meaning.Given) (e : Option CoreExpr) → sort_of (seen.operands gs e) ≡ sort.Other
operands gs (Some (expr.Handle' o n list at)) = refl
operands gs (Some (expr.Atomic' o n list at)) = refl
operands gs (Some (expr.Lib' o n list at)) = refl
operands gs e = refl

with_new : (f : NewPlan → meaning.Frame) → ((plan : NewPlan) → sort_of (f plan) ≡ sort.Other) → (e : Option CoreExpr) → sort_of (seen.with_new f e) ≡ sort.Other
with_new f is (Some (expr.New' n (more_of-NewPlan of take may_be_null i give span end_of-NewPlan))) = is (record { of = of; take = take; may_be_null = may_be_null; init = i; give = give; span = span })
with_new f is e = refl

with_delete : (f : DeletePlan → meaning.Frame) → ((plan : DeletePlan) → sort_of (f plan) ≡ sort.Other) → (e : Option CoreExpr) → sort_of (seen.with_delete f e) ≡ sort.Other
with_delete f is (Some (expr.Delete' n (more_of-DeletePlan of pointer destroy give span end_of-DeletePlan))) = is (record { of = of; pointer = pointer; destroy = destroy; give = give; span = span })
with_delete f is e = refl

with_await : (f : AwaitPlan → meaning.Frame) → ((plan : AwaitPlan) → sort_of (f plan) ≡ sort.Other) → (plan : Option AwaitPlan) → sort_of (seen.with_await f plan) ≡ sort.Other
with_await f is None = refl
with_await f is (Some plan) = is plan

choose_one : (p : Option Place) (i : Option Init) → sort_of (seen.choose_one p i) ≡ sort.Other
choose_one p (Some (init.Choose' e n (more_of-Init x end_of-Init) m (more_of-Init y end_of-Init))) = refl
choose_one p i = refl

branch_on : (s : Option CoreStmt) → sort_of (seen.branch_on s) ≡ sort.Other
branch_on (Some (stmt.If' e n (more_of-CoreStmt x end_of-CoreStmt) m (more_of-CoreStmt y end_of-CoreStmt) at)) = refl
branch_on s = refl

with_loop : (f : CoreExpr → CoreExpr → CoreStmt → meaning.Frame) → ((e next : CoreExpr) (body : CoreStmt) → sort_of (f e next body) ≡ sort.Other) → (s : Option CoreStmt) → sort_of (seen.with_loop f s) ≡ sort.Other
with_loop f is (Some (stmt.Loop' e next n (more_of-CoreStmt body end_of-CoreStmt) at)) = is e next body
with_loop f is s = refl

tries : (s : Option CoreStmt) → sort_of (seen.tries s) ≡ sort.Other
tries (Some (stmt.Try' n body m handlers at)) = refl
tries s = refl

constructing_with : (p : Place) (class : ClassId) (built taken : ℕ) (body : List CoreStmt) (members : Option (List Init)) → sort_of (seen.constructing_with p class built taken body members) ≡ sort.Other
constructing_with p class built taken body None = refl
constructing_with p class built taken body (Some members) = refl

constructing : (p : Place) (class : ClassId) (built taken : ℕ) (left : Bool) (func : Option CoreFunc) → sort_of (seen.constructing p class built taken left func) ≡ sort.Other
constructing p class built taken left None = refl
constructing p class built taken left (Some func) = constructing_with p class built taken (seen.body_left left func.body) (seen.members_of func.role)

pub sort_is : (s : Step) (n : Node) → sort_of (seen.frame_with s n) ≡ sort_of_step s n
sort_is step.StoreValue n = store_value (seen.expr_in n)
sort_is step.ExchangePlace n = exchange_place (seen.expr_in n)
sort_is step.UpdateValue n = update_value (seen.expr_in n)
sort_is (step.UpdateAt a) n = update_at (seen.given_of a) (seen.expr_in n)
sort_is (step.UpdateFrom a b) n = update_from (seen.given_of a) (seen.place_of b) (seen.expr_in n)
sort_is step.ArithRight n = arith_right (seen.expr_in n)
sort_is (step.ArithWith a) n = arith_with (seen.given_of a) (seen.expr_in n)
sort_is step.SameRight n = same_right (seen.expr_in n)
sort_is step.BothRight n = both_right (seen.expr_in n)
sort_is step.EitherRight n = either_right (seen.expr_in n)
sort_is step.PickOne n = pick_one (seen.expr_in n)
sort_is step.ThrowOf n = throw_of (seen.expr_in n)
sort_is (step.Operands a) n = operands _ (seen.expr_in n)
sort_is step.NewTaken n = with_new (λ plan. meaning.NewTaken plan) (λ plan. refl) (seen.expr_in n)
sort_is (step.NewMade a b) n = with_new (λ plan. meaning.NewMade a b plan) (λ plan. refl) (seen.expr_in n)
sort_is step.DeleteOf n = with_delete (λ plan. meaning.DeleteOf plan) (λ plan. refl) (seen.expr_in n)
sort_is (step.DeleteEnded a b) n = with_delete (λ plan. meaning.DeleteEnded a b plan) (λ plan. refl) (seen.expr_in n)
sort_is (step.AwaitOperand a) n = with_await (λ plan. meaning.AwaitOperand plan (seen.place_if a)) (λ plan. refl) (seen.await_in n)
sort_is (step.AwaitReady a) n = with_await (λ plan. meaning.AwaitReady plan (seen.place_if a)) (λ plan. refl) (seen.await_in n)
sort_is (step.AwaitSuspend a b) (node.Await plan) = refl
sort_is (step.AwaitSuspend a b) n = refl
sort_is (step.AwaitResume a) n = with_await (λ plan. meaning.AwaitResume plan (seen.place_if a)) (λ plan. refl) (seen.await_in n)
sort_is (step.ChooseOne a) n = choose_one _ (seen.init_in n)
sort_is (step.Constructing a b c d e) n = constructing _ b c d e (seen.func_in n)
sort_is step.BranchOn n = branch_on (seen.stmt_in n)
sort_is step.LoopTest n = with_loop (λ e next body. meaning.LoopTest e next body) (λ e next body. refl) (seen.stmt_in n)
sort_is step.LoopBody n = with_loop (λ e next body. meaning.LoopBody e next body) (λ e next body. refl) (seen.stmt_in n)
sort_is step.LoopStep n = with_loop (λ e next body. meaning.LoopStep e next body) (λ e next body. refl) (seen.stmt_in n)
sort_is step.Tries n = tries (seen.stmt_in n)
sort_is s n = refl

pub other_step : (s : Step) (n : Node) → ((a : List Alive) → s ≡ step.Scope a → ⊥) → ((a : List Temporal) → s ≡ step.Full a → ⊥) → ((a : Option declared.Place) (b : List ℕ) → s ≡ step.AwaitSuspend a b → ⊥) → ((a : Hold) → s ≡ step.Holds a → ⊥) → ((a : Bool) → s ≡ step.Guards a → ⊥) → sort_of_step s n ≡ sort.Other
other_step (step.Scope a) n scope full await hold guard = absurd (scope a refl)
other_step (step.Full a) n scope full await hold guard = absurd (full a refl)
other_step (step.AwaitSuspend a b) n scope full await hold guard = absurd (await a b refl)
other_step (step.Holds a) n scope full await hold guard = absurd (hold a refl)
other_step (step.Guards a) n scope full await hold guard = absurd (guard a refl)
other_step s n scope full await hold guard = refl

-- ---- frames that are passed over

under_same : (f : meaning.Frame) (fs : List meaning.Frame) (gs : Option (List meaning.Frame)) → or_same (f ∷ fs) (option_map (λ hs. f ∷ hs) gs) ≡ f ∷ or_same fs gs
under_same f fs None = refl
under_same f fs (Some gs) = refl

passes_scope : (x : meaning.Alive) (f : meaning.Frame) (fs : List meaning.Frame) → is_scope (sort_of f) ≡ false → into_scope x (f ∷ fs) ≡ option_map (λ gs. f ∷ gs) (into_scope x fs)
passes_scope x (meaning.Scope alive rest) fs e = absurd (true≢false e)
passes_scope x f fs e = refl

passes_full : (slot : ℕ) (x : meaning.Alive) (f : meaning.Frame) (fs : List meaning.Frame) → has_temporaries (sort_of f) ≡ false → into_full slot x (f ∷ fs) ≡ option_map (λ gs. f ∷ gs) (into_full slot x fs)
passes_full slot x (meaning.Full ts) fs e = absurd (true≢false e)
passes_full slot x (meaning.AwaitSuspend plan into own) fs e = absurd (true≢false e)
passes_full slot x f fs e = refl

passes_hold : (x : meaning.Alive) (f : meaning.Frame) (fs : List meaning.Frame) → is_hold (sort_of f) ≡ false → into_hold x (f ∷ fs) ≡ option_map (λ gs. f ∷ gs) (into_hold x fs)
passes_hold x (meaning.Holds hold) fs e = absurd (true≢false e)
passes_hold x f fs e = refl

pub past_scope : (x : meaning.Alive) (f : meaning.Frame) (fs : List meaning.Frame) → is_scope (sort_of f) ≡ false → or_same (f ∷ fs) (into_scope x (f ∷ fs)) ≡ f ∷ or_same fs (into_scope x fs)
past_scope x f fs e = ap (or_same (f ∷ fs)) (passes_scope x f fs e) ∙ under_same f fs (into_scope x fs)

pub past_full : (slot : ℕ) (x : meaning.Alive) (f : meaning.Frame) (fs : List meaning.Frame) → has_temporaries (sort_of f) ≡ false → or_same (f ∷ fs) (into_full slot x (f ∷ fs)) ≡ f ∷ or_same fs (into_full slot x fs)
past_full slot x f fs e = ap (or_same (f ∷ fs)) (passes_full slot x f fs e) ∙ under_same f fs (into_full slot x fs)

pub past_hold : (x : meaning.Alive) (f : meaning.Frame) (fs : List meaning.Frame) → is_hold (sort_of f) ≡ false → or_same (f ∷ fs) (into_hold x (f ∷ fs)) ≡ f ∷ or_same fs (into_hold x fs)
past_hold x f fs e = ap (or_same (f ∷ fs)) (passes_hold x f fs e) ∙ under_same f fs (into_hold x fs)

pub past_mark : (slot : ℕ) (f : meaning.Frame) (fs : List meaning.Frame) → is_full (sort_of f) ≡ false → set_mark slot (f ∷ fs) ≡ f ∷ set_mark slot fs
past_mark slot (meaning.Full ts) fs e = absurd (true≢false e)
past_mark slot f fs e = refl

pub past_guard : (f : meaning.Frame) (fs : List meaning.Frame) → is_guard (sort_of f) ≡ false → reached (f ∷ fs) ≡ f ∷ reached fs
past_guard (meaning.Guards resumed) fs e = absurd (true≢false e)
past_guard f fs e = refl
