-- Expressions and initializers keep the frames in order.
use Rattle.std.proofs.Common.{ℕ, ◌≤◌, List, [], ◌∷◌, Bool, true, false, Some, None, arith, ap}
use Rattle.std.specs.Prelude.{slice_get, Option, is_none, ℤ}
use Rattle.co_base.specs.Integers.{arith_of, convert_of}
use Rattle.co_base.specs.declared.ids.FuncId.{FuncId}
use Rattle.co_base.specs.declared.kinds.Num.{Num}
use Rattle.co_base.specs.declared.kinds.Op.{Op}
use Rattle.co_base.specs.declared.kinds.Thrown.{Thrown}
use Rattle.co_base.specs.declared.kinds.Undef.TheVariants.{U4, U5, U9, U10, U11, U12}
use Rattle.co_base.specs.declared.span.Span.{Span}
use Rattle.co_types.specs.Types.{head_of}
use Rattle.co_types.specs.declared.types.CoType.{CoType}
use Rattle.co_types.specs.declared.types.Head.{Head}
use Rattle.co_types.specs.declared.types.Head.TheVariants as head
use Rattle.co_core_tree.specs.Sizes.{words}
use Rattle.co_core_tree.specs.declared.exprs.CoreExpr.{CoreExpr, end_of-AwaitPlan, end_of-CoreExpr, end_of-DeletePlan, end_of-Init, end_of-NewPlan, items-the_row-Init, more_of-AwaitPlan, more_of-CoreExpr, more_of-DeletePlan, more_of-Init, more_of-NewPlan}
use Rattle.co_core_tree.specs.declared.exprs.CoreExpr.TheVariants as expr
use Rattle.co_core_tree.specs.declared.exprs.DeletePlan.{DeletePlan}
use Rattle.co_core_tree.specs.declared.exprs.Init.{Init}
use Rattle.co_core_tree.specs.declared.exprs.Init.TheVariants as init
use Rattle.co_core_tree.specs.declared.exprs.NewPlan.{NewPlan}
use Rattle.co_core_tree.specs.declared.kinds.TakePlan.{TakePlan}
use Rattle.co_core_tree.specs.declared.kinds.TakePlan.TheVariants as take_plan
use Rattle.co_meaning_data.specs.Frames.{Alive, InFull, At, Building, Comes, Evaluate, Given, Gives, Joined, NewTaken, Outcome, Parts, Passes, Scalar, Writes}
use Rattle.co_meaning_data.specs.Store.{Place, object_at, type_at, whole}
use Rattle.co_meaning_data.specs.Turn.{Local, classes, gives, goes, nowhere, object_in, pointer, pushed, store, truth, under, with_frames}
use Rattle.co_meaning_data.specs.Undefined.{compares_dangling, is_no_place, is_no_room, is_not_new, is_null, is_same}
use Rattle.co_meaning_data.specs.declared.values.Value.{Value}
use Rattle.co_meaning_data.specs.declared.values.Value.TheVariants as value
use Rattle.co_meaning_calls.specs.Coroutines.{coroutines, is_zero, null_fault}
use Rattle.co_meaning_calls.specs.Objects.{set_mark, type_of_slot}
use Rattle.co_meaning.specs.Expressions.{at_object, wholes, at_whole, place_of, dereferenced, result_num, or_none, computed, arithmetic, converted, update_gives, update_writes, updated, tested, compared_with, both, either, picks, chooses, make_temporary, temporary_made, throw_place, throws, rethrow, rethrow_parts, takes, new_at, new_in, new_taken, new_made, new_left, delete_by, block_of_object, delete_in, delete_at, delete_of, delete_ended, evaluate, is_empty_type, members, initialize}
use Rattle.co_meaning_balance.proofs.CoroutinesOrder.{take_block-order}
use Rattle.co_meaning_balance.proofs.Frames.{counts, few, marks}
use Rattle.co_meaning_balance.proofs.ObjectsOrder.{if-order, lives-order, unless-order}
use Rattle.co_meaning_balance.specs.Order.{InOrder, frames_hold, made_strays, needs, object_needs, open_strays}

at_object-order : (l : Local) (o : Option ℕ) → open_strays l ≤ 0 → InOrder (at_object l o)
at_object-order l None known = tt
at_object-order l (Some x) known = omega (arith, known)

at_whole-order : (l : Local) (o : Option Place) → open_strays l ≤ 0 → InOrder (at_whole l o)
at_whole-order l None known = tt
at_whole-order l (Some p) known = omega (arith, known)

pub dereferenced-order : (g : Given) (at : Span) (l : Local) → open_strays l ≤ 0 → InOrder (dereferenced g at l)
dereferenced-order (Scalar v) at l known = unless-order (record { kind = U4; holds = is_null v } ∷ record { kind = U12; holds = is_no_place v } ∷ []) at l (gives (place_of v) l) (omega (arith, known)) (omega (arith, known))
dereferenced-order g at l known = tt

computed-order : (o : Op) (n : Num) (r : Option ℤ) (at : Span) (l : Local) → open_strays l ≤ 0 → InOrder (computed o n r at l)
computed-order o n r at l known = unless-order (record { kind = U5; holds = is_none r } ∷ []) at l (gives (Scalar (value.Number (result_num o n) (or_none r))) l) (omega (arith, known)) (omega (arith, known))

pub arithmetic-order : (o : Op) (n : Num) (g : Given) (h : Given) (at : Span) (l : Local) → open_strays l ≤ 0 → InOrder (arithmetic o n g h at l)
arithmetic-order o n (Scalar (value.Number j a)) (Scalar (value.Number k b)) at l known = computed-order o n (arith_of o n a b) at l (omega (arith, known))
arithmetic-order o n g h at l known = tt

pub converted-order : (n : Num) (g : Given) (l : Local) → open_strays l ≤ 0 → InOrder (converted n g l)
converted-order n (Scalar (value.Number k a)) l known = omega (arith, known)
converted-order n g l known = tt

update_writes-order : (n : Num) (a : ℤ) (r : Option ℤ) (p : Place) (old : Bool) (at : Span) (l : Local) → open_strays l ≤ 0 → InOrder (update_writes n a r p old at l)
update_writes-order n a r p old at l known = unless-order (record { kind = U5; holds = is_none r } ∷ []) at l (goes (Writes false p 0 (value.Number n (convert_of n (or_none r)) ∷ []) (update_gives old (value.Number n a) p) at) l) (omega (arith, known)) (omega (arith, known))

pub updated-order : (o : Op) (n : Num) (v : Given) (p : Place) (old : Bool) (g : Given) (at : Span) (l : Local) → open_strays l ≤ 0 → InOrder (updated o n v p old g at l)
updated-order o n (Scalar (value.Number k b)) p old (Scalar (value.Number m a)) at l known = update_writes-order m a (arith_of o n (convert_of n a) b) p old at l (omega (arith, known))
updated-order o n v p old g at l known = tt

pub tested-order : (g : Given) (l : Local) → open_strays l ≤ 0 → InOrder (tested g l)
tested-order (Scalar v) l known = omega (arith, known)
tested-order (Parts (v ∷ vs)) l known = omega (arith, known)
tested-order g l known = tt

pub compared_with-order : (g : Given) (h : Given) (at : Span) (l : Local) → open_strays l ≤ 0 → InOrder (compared_with g h at l)
compared_with-order (Scalar v) (Scalar w) at l known = unless-order (record { kind = U9; holds = compares_dangling (store l) (coroutines l) v w } ∷ []) at l (gives (truth (is_same (store l) (coroutines l) v w)) l) (omega (arith, known)) (omega (arith, known))
compared_with-order (Parts (v ∷ vs)) (Scalar w) at l known = omega (arith, known)
compared_with-order (Scalar v) (Parts (w ∷ ws)) at l known = omega (arith, known)
compared_with-order (Parts vs) (Parts ws) at l known = omega (arith, known)
compared_with-order g h at l known = tt

pub both-order : (right : CoreExpr) (g : Given) (l : Local) → open_strays l ≤ 0 → InOrder (both right g l)
both-order right (Scalar (value.Number n z)) l known = if-order (is_zero z) (gives (truth false) l) (under Joined (Evaluate right None) l) (omega (arith, known)) (omega (arith, known))
both-order right g l known = tt

pub either-order : (right : CoreExpr) (g : Given) (l : Local) → open_strays l ≤ 0 → InOrder (either right g l)
either-order right (Scalar (value.Number n z)) l known = if-order (is_zero z) (under Joined (Evaluate right None) l) (gives (truth true) l) (omega (arith, known)) (omega (arith, known))
either-order right g l known = tt

pub picks-order : (x : CoreExpr) (y : CoreExpr) (g : Given) (l : Local) → open_strays l ≤ 0 → InOrder (picks x y g l)
picks-order x y (Scalar (value.Number n z)) l known = omega (arith, known)
picks-order x y g l known = tt

pub chooses-order : (x : Init) (y : Init) (p : Option Place) (g : Given) (l : Local) → open_strays l ≤ 0 → InOrder (chooses x y p g l)
chooses-order x y p (Scalar (value.Number n z)) l known = omega (arith, known)
chooses-order x y p g l known = tt

make_temporary-order : (slot : ℕ) (i : Init) (l : Local) (o : Option CoType) → open_strays l ≤ 0 → InOrder (make_temporary slot i l o)
make_temporary-order slot i l None known = tt
make_temporary-order slot i l (Some of) known = let fact0 = counts l of (frames_hold l.top.coroutine l.top.frames) in omega (arith, known, fact0)

pub temporary_made-order : (slot : ℕ) (y : Alive) (l : Local) → made_strays y l ≤ 0 → InOrder (temporary_made slot y l)
temporary_made-order slot y l known =
    let alike = marks l.top.coroutine slot l.top.frames in
    let strays = alike.strays in
    let held = ap (λ n. object_needs l.top.coroutine n y.coroutine) alike.held in
    lives-order y (InFull slot) (Gives (At (whole y.object))) (with_frames (set_mark slot l.top.frames) l) (omega (arith, known, strays, held))

throw_place-order : (of : CoType) (h : Head) (p : Place) (at : Span) (l : Local) → open_strays l ≤ 0 → InOrder (throw_place of h p at l)
throw_place-order of (head.Class class) p at l known = omega (arith, known)
throw_place-order of h p at l known = tt

pub throws-order : (of : CoType) (g : Given) (at : Span) (l : Local) → open_strays l ≤ 0 → InOrder (throws of g at l)
throws-order of (Scalar (value.Number n z)) at l known = omega (arith, known)
throws-order of (At p) at l known = throw_place-order of (head_of of) p at l (omega (arith, known))
throws-order of g at l known = tt

rethrow-order : (list : List Thrown) (l : Local) → open_strays l ≤ 0 → InOrder (rethrow list l)
rethrow-order [] l known = omega (arith, known)
rethrow-order (v ∷ handled) l known = omega (arith, known)

pub rethrow_parts-order : (g : Given) (at : Span) (l : Local) → open_strays l ≤ 0 → InOrder (rethrow_parts g at l)
rethrow_parts-order (Parts (value.Kind k ∷ vs)) at l known = omega (arith, known)
rethrow_parts-order (Parts (value.Null ∷ vs)) at l known = unless-order null_fault at l None (omega (arith, known)) tt
rethrow_parts-order (Scalar value.Null) at l known = unless-order null_fault at l None (omega (arith, known)) tt
rethrow_parts-order g at l known = tt

takes-order : (plan : TakePlan) (n : NewPlan) (l : Local) → open_strays l ≤ 0 → InOrder (takes plan n l)
takes-order take_plan.Global plan l known = take_block-order (words (classes l) plan.of) l (omega (arith, known))
takes-order (take_plan.Own f) plan l known = omega (arith, known)
takes-order (take_plan.OwnWith f) plan l known = tt

new_at-order : (plan : NewPlan) (v : Value) (l : Local) → open_strays l ≤ 0 → InOrder (new_at plan v l)
new_at-order plan (value.Block b) l known = omega (arith, known)
new_at-order plan v l known = tt

new_in-order : (plan : NewPlan) (v : Value) (l : Local) → open_strays l ≤ 0 → InOrder (new_in plan v l)
new_in-order plan v l known = unless-order (record { kind = U10; holds = is_no_room (store l) (coroutines l) (words (classes l) plan.of) v } ∷ []) plan.span l (new_at plan v l) (omega (arith, known)) (new_at-order plan v l (omega (arith, known)))

pub new_taken-order : (plan : NewPlan) (v : Value) (l : Local) → open_strays l ≤ 0 → InOrder (new_taken plan v l)
new_taken-order plan value.Null l known = if-order plan.may_be_null (gives (Scalar value.Null) l) (new_in plan value.Null l) (omega (arith, known)) (new_in-order plan value.Null l (omega (arith, known)))
new_taken-order plan v l known = new_in-order plan v l (omega (arith, known))

pub new_made-order : (x : ℕ) (l : Local) → open_strays l ≤ 0 → InOrder (new_made x l)
new_made-order x l known = omega (arith, known)

pub new_left-order : (x : ℕ) (b : ℕ) (plan : NewPlan) (outcome : Outcome) (l : Local) → open_strays l ≤ 0 → InOrder (new_left x b plan outcome l)
new_left-order x b plan outcome l known = omega (arith, known)

delete_by-order : (x : ℕ) (b : ℕ) (plan : DeletePlan) (l : Local) (o : Option FuncId) → open_strays l ≤ 0 → InOrder (delete_by x b plan l o)
delete_by-order x b plan l None known = omega (arith, known)
delete_by-order x b plan l (Some f) known = omega (arith, known)

delete_in-order : (x : ℕ) (plan : DeletePlan) (l : Local) (o : Option ℕ) → open_strays l ≤ 0 → InOrder (delete_in x plan l o)
delete_in-order x plan l None known = tt
delete_in-order x plan l (Some b) known = delete_by-order x b plan l plan.destroy (omega (arith, known))

delete_at-order : (plan : DeletePlan) (v : Value) (l : Local) → open_strays l ≤ 0 → InOrder (delete_at plan v l)
delete_at-order plan (value.Pointer x path) l known = delete_in-order x plan l (block_of_object (object_at (store l) x)) (omega (arith, known))
delete_at-order plan v l known = tt

pub delete_of-order : (plan : DeletePlan) (v : Value) (l : Local) → open_strays l ≤ 0 → InOrder (delete_of plan v l)
delete_of-order plan value.Null l known = omega (arith, known)
delete_of-order plan v l known = unless-order (record { kind = U11; holds = is_not_new (store l) plan.of v } ∷ []) plan.span l (delete_at plan v l) (omega (arith, known)) (delete_at-order plan v l (omega (arith, known)))

pub delete_ended-order : (x : ℕ) (b : ℕ) (plan : DeletePlan) (l : Local) → open_strays l ≤ 0 → InOrder (delete_ended x b plan l)
delete_ended-order x b plan l known = omega (arith, known)

pub evaluate-order : (e : CoreExpr) (into : Option Place) (l : Local) → open_strays l ≤ 0 → InOrder (evaluate e into l)
evaluate-order (expr.Const n v at) into l known = omega (arith, known)
evaluate-order (expr.Null at) into l known = omega (arith, known)
evaluate-order (expr.Slot slot at) into l known = at_object-order l (object_in l slot.0) (omega (arith, known))
evaluate-order (expr.Global k at) into l known = omega (arith, known)
evaluate-order (expr.Field' n (more_of-CoreExpr e end_of-CoreExpr) k at) into l known = omega (arith, known)
evaluate-order (expr.Deref' n (more_of-CoreExpr e end_of-CoreExpr) at) into l known = omega (arith, known)
evaluate-order (expr.Address' n (more_of-CoreExpr e end_of-CoreExpr) at) into l known = omega (arith, known)
evaluate-order (expr.Whole k at) into l known = at_whole-order l (slice_get (wholes l.top.frames) k) (omega (arith, known))
evaluate-order (expr.Load' n (more_of-CoreExpr e end_of-CoreExpr) at) into l known = omega (arith, known)
evaluate-order (expr.Store' n (more_of-CoreExpr p end_of-CoreExpr) m (more_of-CoreExpr v end_of-CoreExpr) at) into l known = omega (arith, known)
evaluate-order (expr.Exchange' n (more_of-CoreExpr p end_of-CoreExpr) m (more_of-CoreExpr v end_of-CoreExpr) at) into l known = omega (arith, known)
evaluate-order (expr.Update' o k n (more_of-CoreExpr p end_of-CoreExpr) m (more_of-CoreExpr v end_of-CoreExpr) old at) into l known = omega (arith, known)
evaluate-order (expr.Arith' o k n (more_of-CoreExpr x end_of-CoreExpr) m (more_of-CoreExpr y end_of-CoreExpr) at) into l known = omega (arith, known)
evaluate-order (expr.Convert' k n (more_of-CoreExpr e end_of-CoreExpr) at) into l known = omega (arith, known)
evaluate-order (expr.Test' n (more_of-CoreExpr e end_of-CoreExpr) at) into l known = omega (arith, known)
evaluate-order (expr.Same' n (more_of-CoreExpr x end_of-CoreExpr) m (more_of-CoreExpr y end_of-CoreExpr) at) into l known = omega (arith, known)
evaluate-order (expr.Both' n (more_of-CoreExpr x end_of-CoreExpr) m (more_of-CoreExpr y end_of-CoreExpr) at) into l known = omega (arith, known)
evaluate-order (expr.Either' n (more_of-CoreExpr x end_of-CoreExpr) m (more_of-CoreExpr y end_of-CoreExpr) at) into l known = omega (arith, known)
evaluate-order (expr.Pick' n (more_of-CoreExpr e end_of-CoreExpr) m (more_of-CoreExpr x end_of-CoreExpr) k (more_of-CoreExpr y end_of-CoreExpr) at) into l known = omega (arith, known)
evaluate-order (expr.Call' f n args at) into l known = let fact0 = few (needs l.top.coroutine (frames_hold l.top.coroutine l.top.frames)) (items-the_row-Init _ args) in omega (arith, known, fact0)
evaluate-order (expr.Temp' slot n (more_of-Init i end_of-Init) at) into l known = make_temporary-order slot.0 i l (type_of_slot l slot.0) (omega (arith, known))
evaluate-order (expr.Throw' of n (more_of-CoreExpr e end_of-CoreExpr) at) into l known = omega (arith, known)
evaluate-order (expr.Rethrow at) into l known = rethrow-order l.handled l (omega (arith, known))
evaluate-order (expr.Terminate at) into l known = omega (arith, known)
evaluate-order (expr.Current at) into l known = omega (arith, known)
evaluate-order (expr.RethrowPtr' n (more_of-CoreExpr e end_of-CoreExpr) at) into l known = omega (arith, known)
evaluate-order (expr.Await' n (more_of-AwaitPlan operand holder ready suspend answer resume point span end_of-AwaitPlan)) into l known = omega (arith, known)
evaluate-order (expr.Handle' o n operands at) into l known = omega (arith, known)
evaluate-order (expr.Atomic' o n operands at) into l known = omega (arith, known)
evaluate-order (expr.Lib' o n operands at) into l known = omega (arith, known)
evaluate-order (expr.New' n (more_of-NewPlan of take may_be_null i give span end_of-NewPlan)) into l known = let plan : NewPlan = record { of = of; take = take; may_be_null = may_be_null; init = i; give = give; span = span } in (takes-order take plan (pushed (NewTaken plan) l) (omega (arith, known)))
evaluate-order (expr.Delete' n (more_of-DeletePlan of pointer destroy give span end_of-DeletePlan)) into l known = omega (arith, known)

pub members-order : (p : Place) (is : List Init) (l : Local) → open_strays l ≤ 0 → InOrder (members p is l)
members-order p is l known = if-order (is_empty_type (type_at (classes l) (store l) p)) (goes (Writes true p 0 (value.Empty ∷ []) Passes nowhere) l) (under (Building p 0 is) (Comes Passes) l) (omega (arith, known)) (omega (arith, known))

pub initialize-order : (i : Init) (p : Option Place) (l : Local) → open_strays l ≤ 0 → InOrder (initialize i p l)
initialize-order (init.Ctor' f n args) (Some p) l known = let fact0 = few (needs l.top.coroutine (frames_hold l.top.coroutine l.top.frames)) (items-the_row-Init _ args) in omega (arith, known, fact0)
initialize-order (init.Members' n is) (Some p) l known = members-order p (items-the_row-Init _ is) l (omega (arith, known))
initialize-order (init.Members' n is) None l known = omega (arith, known)
initialize-order (init.Value e) (Some p) l known = omega (arith, known)
initialize-order (init.Value e) None l known = omega (arith, known)
initialize-order (init.Result e) (Some p) l known = omega (arith, known)
initialize-order (init.Result e) None l known = omega (arith, known)
initialize-order init.Raw (Some p) l known = omega (arith, known)
initialize-order (init.Choose' e n (more_of-Init x end_of-Init) m (more_of-Init y end_of-Init)) p l known = omega (arith, known)
initialize-order i p l known = tt
