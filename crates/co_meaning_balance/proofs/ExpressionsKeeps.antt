-- Expressions and initializers lose no object.
use Rattle.std.proofs.Common.{ℕ, List, [], ◌∷◌, Bool, true, false, Some, None}
use Rattle.std.specs.Prelude.{slice_get, Option, is_none, ℤ}
use Rattle.co_base.specs.Integers.{arith_of, convert_of}
use Rattle.co_base.specs.declared.ids.FuncId.{FuncId}
use Rattle.co_base.specs.declared.kinds.Num.{Num}
use Rattle.co_base.specs.declared.kinds.Op.{Op}
use Rattle.co_base.specs.declared.kinds.Thrown.{Thrown}
use Rattle.co_base.specs.declared.kinds.Thrown.TheVariants as thrown
use Rattle.co_base.specs.declared.kinds.Undef.TheVariants.{U4, U5, U9, U10, U11, U12}
use Rattle.co_base.specs.declared.span.Span.{Span}
use Rattle.co_types.specs.Types.{head_of}
use Rattle.co_types.specs.declared.types.CoType.{CoType}
use Rattle.co_types.specs.declared.types.Head.{Head}
use Rattle.co_types.specs.declared.types.Head.TheVariants as head
use Rattle.co_core_tree.specs.Sizes.{words}
use Rattle.co_core_tree.specs.declared.exprs.CoreExpr.{CoreExpr, end_of-AwaitPlan, end_of-CoreExpr, end_of-DeletePlan, end_of-Init, end_of-NewPlan, items-the_row-Init, more_of-AwaitPlan, more_of-CoreExpr, more_of-DeletePlan, more_of-Init, more_of-NewPlan}
use Rattle.co_core_tree.specs.declared.exprs.CoreExpr.TheVariants as expr
use Rattle.co_core_tree.specs.declared.exprs.DeletePlan.{DeletePlan}
use Rattle.co_core_tree.specs.declared.exprs.Init.{Init}
use Rattle.co_core_tree.specs.declared.exprs.Init.TheVariants as init
use Rattle.co_core_tree.specs.declared.exprs.NewPlan.{NewPlan}
use Rattle.co_core_tree.specs.declared.kinds.TakePlan.{TakePlan}
use Rattle.co_core_tree.specs.declared.kinds.TakePlan.TheVariants as take_plan
use Rattle.co_meaning_data.specs.Frames.{Alive, InFull, At, Building, Comes, Evaluate, Given, Gives, Joined, NewTaken, Outcome, Parts, Passes, Scalar, Writes}
use Rattle.co_meaning_data.specs.Store.{Place, object_at, type_at, whole}
use Rattle.co_meaning_data.specs.Turn.{Local, classes, gives, goes, nowhere, object_in, pointer, pushed, store, truth, under, with_frames}
use Rattle.co_meaning_data.specs.Undefined.{compares_dangling, is_no_place, is_no_room, is_not_new, is_null, is_same}
use Rattle.co_meaning_data.specs.declared.values.Value.{Value}
use Rattle.co_meaning_data.specs.declared.values.Value.TheVariants as value
use Rattle.co_meaning_calls.specs.Coroutines.{coroutines, is_zero, null_fault}
use Rattle.co_meaning_calls.specs.Objects.{set_mark, type_of_slot}
use Rattle.co_meaning.specs.Expressions.{at_object, wholes, at_whole, place_of, dereferenced, result_num, or_none, computed, arithmetic, converted, update_gives, update_writes, updated, tested, compared_with, both, either, picks, chooses, make_temporary, temporary_made, throw_place, throws, newest, rethrow, rethrow_parts, takes, new_at, new_in, new_taken, new_made, new_left, delete_by, block_of_object, delete_in, delete_at, delete_of, delete_ended, evaluate, is_empty_type, members, initialize}
use Rattle.co_meaning_balance.proofs.Alive.{marks-alive}
use Rattle.co_meaning_balance.proofs.CallsKeeps.{as-before}
use Rattle.co_meaning_balance.proofs.CoroutinesKeeps.{take_block-keeps}
use Rattle.co_meaning_balance.proofs.Frames.{marks}
use Rattle.co_meaning_balance.proofs.ObjectsKeeps.{if-keeps, is_uncaught-keeps, lives-keeps, unless-keeps}
use Rattle.co_meaning_balance.specs.Places.{Keeps, Kept}

module _ (number item limit owed : ℕ) where
  at_object-keeps : (l : Local) (o : Option ℕ) → Kept number item limit owed l → Keeps number item limit owed (at_object l o)
  at_object-keeps l None known = tt
  at_object-keeps l (Some x) known = known

  at_whole-keeps : (l : Local) (o : Option Place) → Kept number item limit owed l → Keeps number item limit owed (at_whole l o)
  at_whole-keeps l None known = tt
  at_whole-keeps l (Some p) known = known

  pub dereferenced-keeps : (g : Given) (at : Span) (l : Local) → Kept number item limit owed l → Keeps number item limit owed (dereferenced g at l)
  dereferenced-keeps (Scalar v) at l known = unless-keeps number item limit owed (record { kind = U4; holds = is_null v } ∷ record { kind = U12; holds = is_no_place v } ∷ []) at l (gives (place_of v) l) known known
  dereferenced-keeps g at l known = tt

  computed-keeps : (o : Op) (n : Num) (r : Option ℤ) (at : Span) (l : Local) → Kept number item limit owed l → Keeps number item limit owed (computed o n r at l)
  computed-keeps o n r at l known = unless-keeps number item limit owed (record { kind = U5; holds = is_none r } ∷ []) at l (gives (Scalar (value.Number (result_num o n) (or_none r))) l) known known

  pub arithmetic-keeps : (o : Op) (n : Num) (g : Given) (h : Given) (at : Span) (l : Local) → Kept number item limit owed l → Keeps number item limit owed (arithmetic o n g h at l)
  arithmetic-keeps o n (Scalar (value.Number j a)) (Scalar (value.Number k b)) at l known = computed-keeps o n (arith_of o n a b) at l known
  arithmetic-keeps o n g h at l known = tt

  pub converted-keeps : (n : Num) (g : Given) (l : Local) → Kept number item limit owed l → Keeps number item limit owed (converted n g l)
  converted-keeps n (Scalar (value.Number k a)) l known = known
  converted-keeps n g l known = tt

  update_writes-keeps : (n : Num) (a : ℤ) (r : Option ℤ) (p : Place) (old : Bool) (at : Span) (l : Local) → Kept number item limit owed l → Keeps number item limit owed (update_writes n a r p old at l)
  update_writes-keeps n a r p old at l known = unless-keeps number item limit owed (record { kind = U5; holds = is_none r } ∷ []) at l (goes (Writes false p 0 (value.Number n (convert_of n (or_none r)) ∷ []) (update_gives old (value.Number n a) p) at) l) known known

  pub updated-keeps : (o : Op) (n : Num) (v : Given) (p : Place) (old : Bool) (g : Given) (at : Span) (l : Local) → Kept number item limit owed l → Keeps number item limit owed (updated o n v p old g at l)
  updated-keeps o n (Scalar (value.Number k b)) p old (Scalar (value.Number m a)) at l known = update_writes-keeps m a (arith_of o n (convert_of n a) b) p old at l known
  updated-keeps o n v p old g at l known = tt

  pub tested-keeps : (g : Given) (l : Local) → Kept number item limit owed l → Keeps number item limit owed (tested g l)
  tested-keeps (Scalar v) l known = known
  tested-keeps (Parts (v ∷ vs)) l known = known
  tested-keeps g l known = tt

  pub compared_with-keeps : (g : Given) (h : Given) (at : Span) (l : Local) → Kept number item limit owed l → Keeps number item limit owed (compared_with g h at l)
  compared_with-keeps (Scalar v) (Scalar w) at l known = unless-keeps number item limit owed (record { kind = U9; holds = compares_dangling (store l) (coroutines l) v w } ∷ []) at l (gives (truth (is_same (store l) (coroutines l) v w)) l) known known
  compared_with-keeps (Parts (v ∷ vs)) (Scalar w) at l known = known
  compared_with-keeps (Scalar v) (Parts (w ∷ ws)) at l known = known
  compared_with-keeps (Parts vs) (Parts ws) at l known = known
  compared_with-keeps g h at l known = tt

  pub both-keeps : (right : CoreExpr) (g : Given) (l : Local) → Kept number item limit owed l → Keeps number item limit owed (both right g l)
  both-keeps right (Scalar (value.Number n z)) l known = if-keeps number item limit owed (is_zero z) (gives (truth false) l) (under Joined (Evaluate right None) l) known known
  both-keeps right g l known = tt

  pub either-keeps : (right : CoreExpr) (g : Given) (l : Local) → Kept number item limit owed l → Keeps number item limit owed (either right g l)
  either-keeps right (Scalar (value.Number n z)) l known = if-keeps number item limit owed (is_zero z) (under Joined (Evaluate right None) l) (gives (truth true) l) known known
  either-keeps right g l known = tt

  pub picks-keeps : (x : CoreExpr) (y : CoreExpr) (g : Given) (l : Local) → Kept number item limit owed l → Keeps number item limit owed (picks x y g l)
  picks-keeps x y (Scalar (value.Number n z)) l known = known
  picks-keeps x y g l known = tt

  pub chooses-keeps : (x : Init) (y : Init) (p : Option Place) (g : Given) (l : Local) → Kept number item limit owed l → Keeps number item limit owed (chooses x y p g l)
  chooses-keeps x y p (Scalar (value.Number n z)) l known = known
  chooses-keeps x y p g l known = tt

  make_temporary-keeps : (slot : ℕ) (i : Init) (l : Local) (o : Option CoType) → Kept number item limit owed l → Keeps number item limit owed (make_temporary slot i l o)
  make_temporary-keeps slot i l None known = tt
  make_temporary-keeps slot i l (Some of) known = known

  pub temporary_made-keeps : (slot : ℕ) (y : Alive) (l : Local) → Kept number item limit owed l → Keeps number item limit owed (temporary_made slot y l)
  temporary_made-keeps slot y l known =
      lives-keeps number item limit owed y (InFull slot) (Gives (At (whole y.object))) (with_frames (set_mark slot l.top.frames) l)
      (as-before number item limit owed (Comes Passes) l.top.frames (set_mark slot l.top.frames) l (marks (Some number) slot l.top.frames).held (marks-alive number item slot l.top.frames) known)

  throw_place-keeps : (of : CoType) (h : Head) (p : Place) (at : Span) (l : Local) → Kept number item limit owed l → Keeps number item limit owed (throw_place of h p at l)
  throw_place-keeps of (head.Class class) p at l known = known
  throw_place-keeps of h p at l known = tt

  pub throws-keeps : (of : CoType) (g : Given) (at : Span) (l : Local) → Kept number item limit owed l → Keeps number item limit owed (throws of g at l)
  throws-keeps of (Scalar (value.Number n z)) at l known = known
  throws-keeps of (At p) at l known = throw_place-keeps of (head_of of) p at l known
  throws-keeps of g at l known = tt

  rethrow-keeps : (list : List Thrown) (l : Local) → Kept number item limit owed l → Keeps number item limit owed (rethrow list l)
  rethrow-keeps [] l known = is_uncaught-keeps number item limit owed thrown.None l known
  rethrow-keeps (v ∷ handled) l known = known

  pub rethrow_parts-keeps : (g : Given) (at : Span) (l : Local) → Kept number item limit owed l → Keeps number item limit owed (rethrow_parts g at l)
  rethrow_parts-keeps (Parts (value.Kind k ∷ vs)) at l known = known
  rethrow_parts-keeps (Parts (value.Null ∷ vs)) at l known = unless-keeps number item limit owed null_fault at l None known tt
  rethrow_parts-keeps (Scalar value.Null) at l known = unless-keeps number item limit owed null_fault at l None known tt
  rethrow_parts-keeps g at l known = tt

  takes-keeps : (plan : TakePlan) (n : NewPlan) (l : Local) → Kept number item limit owed l → Keeps number item limit owed (takes plan n l)
  takes-keeps take_plan.Global plan l known = take_block-keeps number item limit owed (words (classes l) plan.of) l known
  takes-keeps (take_plan.Own f) plan l known = known
  takes-keeps (take_plan.OwnWith f) plan l known = tt

  new_at-keeps : (plan : NewPlan) (v : Value) (l : Local) → Kept number item limit owed l → Keeps number item limit owed (new_at plan v l)
  new_at-keeps plan (value.Block b) l known = known
  new_at-keeps plan v l known = tt

  new_in-keeps : (plan : NewPlan) (v : Value) (l : Local) → Kept number item limit owed l → Keeps number item limit owed (new_in plan v l)
  new_in-keeps plan v l known = unless-keeps number item limit owed (record { kind = U10; holds = is_no_room (store l) (coroutines l) (words (classes l) plan.of) v } ∷ []) plan.span l (new_at plan v l) known (new_at-keeps plan v l known)

  pub new_taken-keeps : (plan : NewPlan) (v : Value) (l : Local) → Kept number item limit owed l → Keeps number item limit owed (new_taken plan v l)
  new_taken-keeps plan value.Null l known = if-keeps number item limit owed plan.may_be_null (gives (Scalar value.Null) l) (new_in plan value.Null l) known (new_in-keeps plan value.Null l known)
  new_taken-keeps plan v l known = new_in-keeps plan v l known

  pub new_made-keeps : (x : ℕ) (l : Local) → Kept number item limit owed l → Keeps number item limit owed (new_made x l)
  new_made-keeps x l known = known

  pub new_left-keeps : (x : ℕ) (b : ℕ) (plan : NewPlan) (outcome : Outcome) (l : Local) → Kept number item limit owed l → Keeps number item limit owed (new_left x b plan outcome l)
  new_left-keeps x b plan outcome l known = known

  delete_by-keeps : (x : ℕ) (b : ℕ) (plan : DeletePlan) (l : Local) (o : Option FuncId) → Kept number item limit owed l → Keeps number item limit owed (delete_by x b plan l o)
  delete_by-keeps x b plan l None known = known
  delete_by-keeps x b plan l (Some f) known = known

  delete_in-keeps : (x : ℕ) (plan : DeletePlan) (l : Local) (o : Option ℕ) → Kept number item limit owed l → Keeps number item limit owed (delete_in x plan l o)
  delete_in-keeps x plan l None known = tt
  delete_in-keeps x plan l (Some b) known = delete_by-keeps x b plan l plan.destroy known

  delete_at-keeps : (plan : DeletePlan) (v : Value) (l : Local) → Kept number item limit owed l → Keeps number item limit owed (delete_at plan v l)
  delete_at-keeps plan (value.Pointer x path) l known = delete_in-keeps x plan l (block_of_object (object_at (store l) x)) known
  delete_at-keeps plan v l known = tt

  pub delete_of-keeps : (plan : DeletePlan) (v : Value) (l : Local) → Kept number item limit owed l → Keeps number item limit owed (delete_of plan v l)
  delete_of-keeps plan value.Null l known = known
  delete_of-keeps plan v l known = unless-keeps number item limit owed (record { kind = U11; holds = is_not_new (store l) plan.of v } ∷ []) plan.span l (delete_at plan v l) known (delete_at-keeps plan v l known)

  pub delete_ended-keeps : (x : ℕ) (b : ℕ) (plan : DeletePlan) (l : Local) → Kept number item limit owed l → Keeps number item limit owed (delete_ended x b plan l)
  delete_ended-keeps x b plan l known = known

  pub evaluate-keeps : (e : CoreExpr) (into : Option Place) (l : Local) → Kept number item limit owed l → Keeps number item limit owed (evaluate e into l)
  evaluate-keeps (expr.Const n v at) into l known = known
  evaluate-keeps (expr.Null at) into l known = known
  evaluate-keeps (expr.Slot slot at) into l known = at_object-keeps l (object_in l slot.0) known
  evaluate-keeps (expr.Global k at) into l known = known
  evaluate-keeps (expr.Field' n (more_of-CoreExpr e end_of-CoreExpr) k at) into l known = known
  evaluate-keeps (expr.Deref' n (more_of-CoreExpr e end_of-CoreExpr) at) into l known = known
  evaluate-keeps (expr.Address' n (more_of-CoreExpr e end_of-CoreExpr) at) into l known = known
  evaluate-keeps (expr.Whole k at) into l known = at_whole-keeps l (slice_get (wholes l.top.frames) k) known
  evaluate-keeps (expr.Load' n (more_of-CoreExpr e end_of-CoreExpr) at) into l known = known
  evaluate-keeps (expr.Store' n (more_of-CoreExpr p end_of-CoreExpr) m (more_of-CoreExpr v end_of-CoreExpr) at) into l known = known
  evaluate-keeps (expr.Exchange' n (more_of-CoreExpr p end_of-CoreExpr) m (more_of-CoreExpr v end_of-CoreExpr) at) into l known = known
  evaluate-keeps (expr.Update' o k n (more_of-CoreExpr p end_of-CoreExpr) m (more_of-CoreExpr v end_of-CoreExpr) old at) into l known = known
  evaluate-keeps (expr.Arith' o k n (more_of-CoreExpr x end_of-CoreExpr) m (more_of-CoreExpr y end_of-CoreExpr) at) into l known = known
  evaluate-keeps (expr.Convert' k n (more_of-CoreExpr e end_of-CoreExpr) at) into l known = known
  evaluate-keeps (expr.Test' n (more_of-CoreExpr e end_of-CoreExpr) at) into l known = known
  evaluate-keeps (expr.Same' n (more_of-CoreExpr x end_of-CoreExpr) m (more_of-CoreExpr y end_of-CoreExpr) at) into l known = known
  evaluate-keeps (expr.Both' n (more_of-CoreExpr x end_of-CoreExpr) m (more_of-CoreExpr y end_of-CoreExpr) at) into l known = known
  evaluate-keeps (expr.Either' n (more_of-CoreExpr x end_of-CoreExpr) m (more_of-CoreExpr y end_of-CoreExpr) at) into l known = known
  evaluate-keeps (expr.Pick' n (more_of-CoreExpr e end_of-CoreExpr) m (more_of-CoreExpr x end_of-CoreExpr) k (more_of-CoreExpr y end_of-CoreExpr) at) into l known = known
  evaluate-keeps (expr.Call' f n args at) into l known = known
  evaluate-keeps (expr.Temp' slot n (more_of-Init i end_of-Init) at) into l known = make_temporary-keeps slot.0 i l (type_of_slot l slot.0) known
  evaluate-keeps (expr.Throw' of n (more_of-CoreExpr e end_of-CoreExpr) at) into l known = known
  evaluate-keeps (expr.Rethrow at) into l known = rethrow-keeps l.handled l known
  evaluate-keeps (expr.Terminate at) into l known = is_uncaught-keeps number item limit owed (newest l.handled) l known
  evaluate-keeps (expr.Current at) into l known = known
  evaluate-keeps (expr.RethrowPtr' n (more_of-CoreExpr e end_of-CoreExpr) at) into l known = known
  evaluate-keeps (expr.Await' n (more_of-AwaitPlan operand holder ready suspend answer resume point span end_of-AwaitPlan)) into l known = known
  evaluate-keeps (expr.Handle' o n operands at) into l known = known
  evaluate-keeps (expr.Atomic' o n operands at) into l known = known
  evaluate-keeps (expr.Lib' o n operands at) into l known = known
  evaluate-keeps (expr.New' n (more_of-NewPlan of take may_be_null i give span end_of-NewPlan)) into l known = let plan : NewPlan = record { of = of; take = take; may_be_null = may_be_null; init = i; give = give; span = span } in (takes-keeps take plan (pushed (NewTaken plan) l) known)
  evaluate-keeps (expr.Delete' n (more_of-DeletePlan of pointer destroy give span end_of-DeletePlan)) into l known = known

  members-keeps : (p : Place) (is : List Init) (l : Local) → Kept number item limit owed l → Keeps number item limit owed (members p is l)
  members-keeps p is l known = if-keeps number item limit owed (is_empty_type (type_at (classes l) (store l) p)) (goes (Writes true p 0 (value.Empty ∷ []) Passes nowhere) l) (under (Building p 0 is) (Comes Passes) l) known known

  pub initialize-keeps : (i : Init) (p : Option Place) (l : Local) → Kept number item limit owed l → Keeps number item limit owed (initialize i p l)
  initialize-keeps (init.Ctor' f n args) (Some p) l known = known
  initialize-keeps (init.Members' n is) (Some p) l known = members-keeps p (items-the_row-Init _ is) l known
  initialize-keeps (init.Members' n is) None l known = known
  initialize-keeps (init.Value e) (Some p) l known = known
  initialize-keeps (init.Value e) None l known = known
  initialize-keeps (init.Result e) (Some p) l known = known
  initialize-keeps (init.Result e) None l known = known
  initialize-keeps init.Raw (Some p) l known = known
  initialize-keeps (init.Choose' e n (more_of-Init x end_of-Init) m (more_of-Init y end_of-Init)) p l known = known
  initialize-keeps i p l known = tt
