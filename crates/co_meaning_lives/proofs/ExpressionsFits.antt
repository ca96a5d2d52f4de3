-- Expressions and initializers keep what is to come.
use Rattle.std.proofs.Common.{ℕ, ◌+◌, ◌≤◌, List, [], ◌∷◌, Bool, true, false, Some, None, arith, length}
use Rattle.std.specs.Prelude.{◌*◌, not, if◌then◌else◌, slice_get, Option, is_none, ℤ}
use Rattle.co_base.specs.Integers.{arith_of, convert_of}
use Rattle.co_base.specs.declared.ids.FuncId.{FuncId}
use Rattle.co_base.specs.declared.kinds.Num.{Num}
use Rattle.co_base.specs.declared.kinds.Op.{Op}
use Rattle.co_base.specs.declared.kinds.Thrown.{Thrown}
use Rattle.co_base.specs.declared.kinds.Undef.TheVariants.{U4, U5, U9, U10, U11, U12}
use Rattle.co_base.specs.declared.span.Span.{Span}
use Rattle.co_types.specs.declared.types.CoType.{CoType}
use Rattle.co_types.specs.declared.types.Head.{Head}
use Rattle.co_types.specs.Types.{head_of}
use Rattle.co_core_tree.specs.Sizes.{words}
use Rattle.co_core_tree.specs.declared.exprs.CoreExpr.{CoreExpr, end_of-AwaitPlan, end_of-CoreExpr, end_of-DeletePlan, end_of-Init, end_of-NewPlan, items-the_row-CoreExpr, items-the_row-Init, more_of-AwaitPlan, more_of-CoreExpr, more_of-DeletePlan, more_of-Init, more_of-NewPlan}
use Rattle.co_core_tree.specs.declared.exprs.DeletePlan.{DeletePlan}
use Rattle.co_core_tree.specs.declared.exprs.Init.{Init}
use Rattle.co_core_tree.specs.declared.exprs.NewPlan.{NewPlan}
use Rattle.co_core_tree.specs.declared.kinds.TakePlan.{TakePlan}
use Rattle.co_meaning_data.specs.declared.values.Value.{Value}
use Rattle.co_meaning_data.specs.Frames.{Alive, InFull, AddressOf, ArithRight, At, AwaitOperand, BothRight, Building, Calling, ChooseOne, Comes, ConvertTo, DeleteEnded, DeleteOf, Drops, EitherRight, Evaluate, ExchangePlace, FieldOf, Given, Gives, Initialize, Joined, LoadFrom, NewMade, NewTaken, Nothing, OfLibrary, OnAtomic, OnHandle, Operands, Outcome, Parts, Passes, PickOne, Reads, Referent, Releases, ResultInto, RethrowOf, SameRight, Scalar, StoreValue, TempMade, TestOf, ThrowOf, ThrowRead, Throwing, UpdateValue, ValueInto, Writes}
use Rattle.co_meaning_data.specs.Store.{Place, add_object, end_object, fields_of, make_live, next_object, object_at, raw_object, set_part, set_standing, type_at, whole}
use Rattle.co_meaning_data.specs.Undefined.{compares_dangling, is_no_place, is_no_room, is_not_new, is_null, is_same}
use Rattle.co_meaning_calls.specs.Coroutines.{coroutines, is_zero, null_fault, size_given}
use Rattle.co_meaning_calls.specs.Objects.{set_mark, call_with, counted_in, type_of_slot, with_raw}
use Rattle.co_meaning_data.specs.Turn.{Local, classes, gives, goes, nowhere, object_in, pointer, pushed, store, truth, under, with_frames, with_store}
use Rattle.co_meaning.specs.Expressions.{span_of, at_object, wholes, at_whole, place_of, dereferenced, result_num, or_none, computed, arithmetic, converted, update_gives, update_writes, updated, tested, same_parts, compared_with, both, either, picks, chooses, make_temporary, temporary_made, thrown_number, throw_place, throws, newest, rethrow, parts_of_thrown, thrown_of_kind, rethrow_parts, takes, new_at, new_in, new_taken, new_made, new_left, delete_by, block_of_object, delete_in, delete_at, delete_of, delete_ended, evaluate, is_empty_type, members, initialize}
use Rattle.co_meaning_lives.specs.Tokens.{Fits, credits, local_weighs, weighs}
use Rattle.co_meaning_lives.proofs.Weights.{make_live-count, set_standing-count, end_object-count, set_part-count, same, fresh, goes-fits, under-fits, gives-fits, passes-fits, leaves-fits, is_uncaught-fits, unless-fits, if-fits, marks}
use Rattle.co_base.specs.declared.kinds.Thrown.TheVariants as thrown
use Rattle.co_core_tree.specs.declared.exprs.CoreExpr.TheVariants as expr
use Rattle.co_core_tree.specs.declared.exprs.Init.TheVariants as init
use Rattle.co_core_tree.specs.declared.kinds.TakePlan.TheVariants as take_plan
use Rattle.co_meaning_data.specs.declared.values.Cell.TheVariants as cell
use Rattle.co_meaning_data.specs.declared.values.Standing.TheVariants as standing
use Rattle.co_meaning_data.specs.declared.values.Value.TheVariants as value
use Rattle.co_types.specs.declared.types.Head.TheVariants as head
use Rattle.co_meaning_lives.proofs.ObjectsFits.{lives-fits}
use Rattle.co_meaning_lives.proofs.CoroutinesFits.{take_block-fits}

module _ (item raw on_birth on_death credit each : ℕ) (small : on_birth + on_death ≤ raw + credit) where
  pub at_object-fits : (limit : ℕ) (y0 : Local) (y1 : Option ℕ) → local_weighs item raw on_birth on_death credit each y0 + each ≤ limit + credits item raw on_birth on_death credit each y0.seen → Fits item raw on_birth on_death credit each limit (at_object y0 y1)
  at_object-fits limit l None known = tt
  at_object-fits limit l (Some x) known = (gives-fits item raw on_birth on_death credit each small limit (At (whole x)) l (omega (arith, known)))

  pub at_whole-fits : (limit : ℕ) (y0 : Local) (y1 : Option Place) → local_weighs item raw on_birth on_death credit each y0 + each ≤ limit + credits item raw on_birth on_death credit each y0.seen → Fits item raw on_birth on_death credit each limit (at_whole y0 y1)
  at_whole-fits limit l None known = tt
  at_whole-fits limit l (Some p) known = (gives-fits item raw on_birth on_death credit each small limit (At p) l (omega (arith, known)))

  pub dereferenced-fits : (limit : ℕ) (y0 : Given) (y1 : Span) (y2 : Local) → local_weighs item raw on_birth on_death credit each y2 + each ≤ limit + credits item raw on_birth on_death credit each y2.seen → Fits item raw on_birth on_death credit each limit (dereferenced y0 y1 y2)
  dereferenced-fits limit (Scalar v) at l known = (unless-fits item raw on_birth on_death credit each small limit (record { kind = U4; holds = is_null v } ∷ record { kind = U12; holds = is_no_place v } ∷ []) at l (gives (place_of v) l) (omega (arith, known)) (gives-fits item raw on_birth on_death credit each small limit (place_of v) l (omega (arith, known))))
  dereferenced-fits limit g at l known = tt

  pub computed-fits : (limit : ℕ) (y0 : Op) (y1 : Num) (y2 : Option ℤ) (y3 : Span) (y4 : Local) → local_weighs item raw on_birth on_death credit each y4 + each ≤ limit + credits item raw on_birth on_death credit each y4.seen → Fits item raw on_birth on_death credit each limit (computed y0 y1 y2 y3 y4)
  computed-fits limit o n r at l known = (unless-fits item raw on_birth on_death credit each small limit (record { kind = U5; holds = is_none r } ∷ []) at l (gives (Scalar (value.Number (result_num o n) (or_none r))) l) (omega (arith, known)) (gives-fits item raw on_birth on_death credit each small limit (Scalar (value.Number (result_num o n) (or_none r))) l (omega (arith, known))))

  pub arithmetic-fits : (limit : ℕ) (y0 : Op) (y1 : Num) (y2 : Given) (y3 : Given) (y4 : Span) (y5 : Local) → local_weighs item raw on_birth on_death credit each y5 + each ≤ limit + credits item raw on_birth on_death credit each y5.seen → Fits item raw on_birth on_death credit each limit (arithmetic y0 y1 y2 y3 y4 y5)
  arithmetic-fits limit o n (Scalar (value.Number j a)) (Scalar (value.Number k b)) at l known = (computed-fits limit o n (arith_of o n a b) at l (omega (arith, known)))
  arithmetic-fits limit o n g h at l known = tt

  pub converted-fits : (limit : ℕ) (y0 : Num) (y1 : Given) (y2 : Local) → local_weighs item raw on_birth on_death credit each y2 + each ≤ limit + credits item raw on_birth on_death credit each y2.seen → Fits item raw on_birth on_death credit each limit (converted y0 y1 y2)
  converted-fits limit n (Scalar (value.Number k a)) l known = (gives-fits item raw on_birth on_death credit each small limit (Scalar (value.Number n (convert_of n a))) l (omega (arith, known)))
  converted-fits limit n g l known = tt

  pub update_writes-fits : (limit : ℕ) (y0 : Num) (y1 : ℤ) (y2 : Option ℤ) (y3 : Place) (y4 : Bool) (y5 : Span) (y6 : Local) → local_weighs item raw on_birth on_death credit each y6 + each ≤ limit + credits item raw on_birth on_death credit each y6.seen → Fits item raw on_birth on_death credit each limit (update_writes y0 y1 y2 y3 y4 y5 y6)
  update_writes-fits limit n a r p old at l known = (unless-fits item raw on_birth on_death credit each small limit (record { kind = U5; holds = is_none r } ∷ []) at l (goes (Writes false p 0 (value.Number n (convert_of n (or_none r)) ∷ []) (update_gives old (value.Number n a) p) at) l) (omega (arith, known)) (goes-fits item raw on_birth on_death credit each small limit (Writes false p 0 (value.Number n (convert_of n (or_none r)) ∷ []) (update_gives old (value.Number n a) p) at) l (omega (arith, known))))

  pub updated-fits : (limit : ℕ) (y0 : Op) (y1 : Num) (y2 : Given) (y3 : Place) (y4 : Bool) (y5 : Given) (y6 : Span) (y7 : Local) → local_weighs item raw on_birth on_death credit each y7 + each ≤ limit + credits item raw on_birth on_death credit each y7.seen → Fits item raw on_birth on_death credit each limit (updated y0 y1 y2 y3 y4 y5 y6 y7)
  updated-fits limit o n (Scalar (value.Number k b)) p old (Scalar (value.Number m a)) at l known = (update_writes-fits limit m a (arith_of o n (convert_of n a) b) p old at l (omega (arith, known)))
  updated-fits limit o n v p old g at l known = tt

  pub tested-fits : (limit : ℕ) (y0 : Given) (y1 : Local) → local_weighs item raw on_birth on_death credit each y1 + each ≤ limit + credits item raw on_birth on_death credit each y1.seen → Fits item raw on_birth on_death credit each limit (tested y0 y1)
  tested-fits limit (Scalar v) l known = (gives-fits item raw on_birth on_death credit each small limit (truth (not (is_null v))) l (omega (arith, known)))
  tested-fits limit (Parts (v ∷ vs)) l known = (gives-fits item raw on_birth on_death credit each small limit (truth (not (is_null v))) l (omega (arith, known)))
  tested-fits limit g l known = tt

  pub compared_with-fits : (limit : ℕ) (y0 : Given) (y1 : Given) (y2 : Span) (y3 : Local) → local_weighs item raw on_birth on_death credit each y3 + each ≤ limit + credits item raw on_birth on_death credit each y3.seen → Fits item raw on_birth on_death credit each limit (compared_with y0 y1 y2 y3)
  compared_with-fits limit (Scalar v) (Scalar w) at l known = (unless-fits item raw on_birth on_death credit each small limit (record { kind = U9; holds = compares_dangling (store l) (coroutines l) v w } ∷ []) at l (gives (truth (is_same (store l) (coroutines l) v w)) l) (omega (arith, known)) (gives-fits item raw on_birth on_death credit each small limit (truth (is_same (store l) (coroutines l) v w)) l (omega (arith, known))))
  compared_with-fits limit (Parts (v ∷ vs)) (Scalar w) at l known = (gives-fits item raw on_birth on_death credit each small limit (truth (is_null v)) l (omega (arith, known)))
  compared_with-fits limit (Scalar v) (Parts (w ∷ ws)) at l known = (gives-fits item raw on_birth on_death credit each small limit (truth (is_null w)) l (omega (arith, known)))
  compared_with-fits limit (Parts vs) (Parts ws) at l known = (gives-fits item raw on_birth on_death credit each small limit (truth (same_parts vs ws)) l (omega (arith, known)))
  compared_with-fits limit g h at l known = tt

  pub both-fits : (limit : ℕ) (y0 : CoreExpr) (y1 : Given) (y2 : Local) → local_weighs item raw on_birth on_death credit each y2 + each ≤ limit + credits item raw on_birth on_death credit each y2.seen → Fits item raw on_birth on_death credit each limit (both y0 y1 y2)
  both-fits limit right (Scalar (value.Number n z)) l known = (if-fits item raw on_birth on_death credit each small limit (is_zero z) (gives (truth false) l) (under Joined (Evaluate right None) l) (gives-fits item raw on_birth on_death credit each small limit (truth false) l (omega (arith, known))) (under-fits item raw on_birth on_death credit each small limit Joined (Evaluate right None) l (omega (arith, known))))
  both-fits limit right g l known = tt

  pub either-fits : (limit : ℕ) (y0 : CoreExpr) (y1 : Given) (y2 : Local) → local_weighs item raw on_birth on_death credit each y2 + each ≤ limit + credits item raw on_birth on_death credit each y2.seen → Fits item raw on_birth on_death credit each limit (either y0 y1 y2)
  either-fits limit right (Scalar (value.Number n z)) l known = (if-fits item raw on_birth on_death credit each small limit (is_zero z) (under Joined (Evaluate right None) l) (gives (truth true) l) (under-fits item raw on_birth on_death credit each small limit Joined (Evaluate right None) l (omega (arith, known))) (gives-fits item raw on_birth on_death credit each small limit (truth true) l (omega (arith, known))))
  either-fits limit right g l known = tt

  pub picks-fits : (limit : ℕ) (y0 : CoreExpr) (y1 : CoreExpr) (y2 : Given) (y3 : Local) → local_weighs item raw on_birth on_death credit each y3 + each ≤ limit + credits item raw on_birth on_death credit each y3.seen → Fits item raw on_birth on_death credit each limit (picks y0 y1 y2 y3)
  picks-fits limit x y (Scalar (value.Number n z)) l known = (under-fits item raw on_birth on_death credit each small limit Joined (Evaluate (if is_zero z then y else x) None) l (omega (arith, known)))
  picks-fits limit x y g l known = tt

  pub chooses-fits : (limit : ℕ) (y0 : Init) (y1 : Init) (y2 : Option Place) (y3 : Given) (y4 : Local) → local_weighs item raw on_birth on_death credit each y4 + each ≤ limit + credits item raw on_birth on_death credit each y4.seen → Fits item raw on_birth on_death credit each limit (chooses y0 y1 y2 y3 y4)
  chooses-fits limit x y p (Scalar (value.Number n z)) l known = (under-fits item raw on_birth on_death credit each small limit Joined (Initialize (if is_zero z then y else x) p) l (omega (arith, known)))
  chooses-fits limit x y p g l known = tt

  pub make_temporary-fits : (limit : ℕ) (y0 : ℕ) (y1 : Init) (y2 : Local) (y3 : Option CoType) → local_weighs item raw on_birth on_death credit each y2 + each ≤ limit + credits item raw on_birth on_death credit each y2.seen → Fits item raw on_birth on_death credit each limit (make_temporary y0 y1 y2 y3)
  make_temporary-fits limit slot i l None known = tt
  make_temporary-fits limit slot i l (Some of) known = (under-fits item raw on_birth on_death credit each small limit (TempMade slot (record { object = (next_object (store l)); coroutine = counted_in l of })) (Initialize i (Some (whole (next_object (store l))))) (with_raw slot of (counted_in l of) l) (let f0 = fresh item raw on_birth on_death credit each small (raw_object (classes l) of None (counted_in l of)) (store l) in omega (arith, known, f0)))

  pub temporary_made-fits : (limit : ℕ) (y0 : ℕ) (y1 : Alive) (y2 : Local) → weighs item raw on_birth on_death credit each y1.object raw + (local_weighs item raw on_birth on_death credit each y2) + each ≤ limit + credits item raw on_birth on_death credit each y2.seen → Fits item raw on_birth on_death credit each limit (temporary_made y0 y1 y2)
  temporary_made-fits limit slot x l known = (lives-fits item raw on_birth on_death credit each small limit x (InFull slot) (Gives (At (whole x.object))) (with_frames (set_mark slot l.top.frames) l) (let f0 = marks item raw on_birth on_death credit each small slot l.top.frames in omega (arith, known, f0)))

  pub throw_place-fits : (limit : ℕ) (y0 : CoType) (y1 : Head) (y2 : Place) (y3 : Span) (y4 : Local) → local_weighs item raw on_birth on_death credit each y4 + each ≤ limit + credits item raw on_birth on_death credit each y4.seen → Fits item raw on_birth on_death credit each limit (throw_place y0 y1 y2 y3 y4)
  throw_place-fits limit of (head.Class class) p at l known = (under-fits item raw on_birth on_death credit each small limit (ThrowRead class) (Reads p (length (fields_of (classes l) of)) [] at) l (omega (arith, known)))
  throw_place-fits limit of h p at l known = tt

  pub throws-fits : (limit : ℕ) (y0 : CoType) (y1 : Given) (y2 : Span) (y3 : Local) → local_weighs item raw on_birth on_death credit each y3 + each ≤ limit + credits item raw on_birth on_death credit each y3.seen → Fits item raw on_birth on_death credit each limit (throws y0 y1 y2 y3)
  throws-fits limit of (Scalar (value.Number n z)) at l known = (leaves-fits item raw on_birth on_death credit each small limit (Throwing (thrown_number n z)) l (omega (arith, known)))
  throws-fits limit of (At p) at l known = (throw_place-fits limit of (head_of of) p at l (omega (arith, known)))
  throws-fits limit of g at l known = tt

  pub rethrow-fits : (limit : ℕ) (y0 : List Thrown) (y1 : Local) → local_weighs item raw on_birth on_death credit each y1 + each ≤ limit + credits item raw on_birth on_death credit each y1.seen → Fits item raw on_birth on_death credit each limit (rethrow y0 y1)
  rethrow-fits limit [] l known = (is_uncaught-fits item raw on_birth on_death credit each small limit thrown.None l (omega (arith, known)))
  rethrow-fits limit (v ∷ handled) l known = (leaves-fits item raw on_birth on_death credit each small limit (Throwing v) l (omega (arith, known)))

  pub rethrow_parts-fits : (limit : ℕ) (y0 : Given) (y1 : Span) (y2 : Local) → local_weighs item raw on_birth on_death credit each y2 + each ≤ limit + credits item raw on_birth on_death credit each y2.seen → Fits item raw on_birth on_death credit each limit (rethrow_parts y0 y1 y2)
  rethrow_parts-fits limit (Parts (value.Kind k ∷ vs)) at l known = (leaves-fits item raw on_birth on_death credit each small limit (Throwing (thrown_of_kind k vs)) l (omega (arith, known)))
  rethrow_parts-fits limit (Parts (value.Null ∷ vs)) at l known = (unless-fits item raw on_birth on_death credit each small limit null_fault at l None (omega (arith, known)) tt)
  rethrow_parts-fits limit (Scalar value.Null) at l known = (unless-fits item raw on_birth on_death credit each small limit null_fault at l None (omega (arith, known)) tt)
  rethrow_parts-fits limit g at l known = tt

  pub takes-fits : (limit : ℕ) (y0 : TakePlan) (y1 : NewPlan) (y2 : Local) → local_weighs item raw on_birth on_death credit each y2 + each ≤ limit + credits item raw on_birth on_death credit each y2.seen → Fits item raw on_birth on_death credit each limit (takes y0 y1 y2)
  takes-fits limit take_plan.Global plan l known = (take_block-fits item raw on_birth on_death credit each small limit (words (classes l) plan.of) l (omega (arith, known)))
  takes-fits limit (take_plan.Own f) plan l known = (under-fits item raw on_birth on_death credit each small limit (call_with f (size_given (8 * words (classes l) plan.of) ∷ []) None plan.span) (Comes Passes) l (omega (arith, known)))
  takes-fits limit (take_plan.OwnWith f) plan l known = tt

  pub new_at-fits : (limit : ℕ) (y0 : NewPlan) (y1 : Value) (y2 : Local) → local_weighs item raw on_birth on_death credit each y2 + each ≤ limit + credits item raw on_birth on_death credit each y2.seen → Fits item raw on_birth on_death credit each limit (new_at y0 y1 y2)
  new_at-fits limit plan (value.Block b) l known = (under-fits item raw on_birth on_death credit each small limit (NewMade (next_object (store l)) b plan) (Initialize plan.init (Some (whole (next_object (store l))))) (with_store (set_standing b (standing.Object (next_object (store l))) (add_object (raw_object (classes l) plan.of (Some b) None) (store l))) l) (let f0 = same item raw on_birth on_death credit each small (set_standing b (standing.Object (next_object (store l))) (add_object (raw_object (classes l) plan.of (Some b) None) (store l))) (add_object (raw_object (classes l) plan.of (Some b) None) (store l)) (set_standing-count b (standing.Object (next_object (store l))) (add_object (raw_object (classes l) plan.of (Some b) None) (store l))) in let f1 = fresh item raw on_birth on_death credit each small (raw_object (classes l) plan.of (Some b) None) (store l) in omega (arith, known, f0, f1)))
  new_at-fits limit plan v l known = tt

  pub new_in-fits : (limit : ℕ) (y0 : NewPlan) (y1 : Value) (y2 : Local) → local_weighs item raw on_birth on_death credit each y2 + each ≤ limit + credits item raw on_birth on_death credit each y2.seen → Fits item raw on_birth on_death credit each limit (new_in y0 y1 y2)
  new_in-fits limit plan v l known = (unless-fits item raw on_birth on_death credit each small limit (record { kind = U10; holds = is_no_room (store l) (coroutines l) (words (classes l) plan.of) v } ∷ []) plan.span l (new_at plan v l) (omega (arith, known)) (new_at-fits limit plan v l (omega (arith, known))))

  pub new_taken-fits : (limit : ℕ) (y0 : NewPlan) (y1 : Value) (y2 : Local) → local_weighs item raw on_birth on_death credit each y2 + each ≤ limit + credits item raw on_birth on_death credit each y2.seen → Fits item raw on_birth on_death credit each limit (new_taken y0 y1 y2)
  new_taken-fits limit plan value.Null l known = (if-fits item raw on_birth on_death credit each small limit (plan.may_be_null) (gives (Scalar value.Null) l) (new_in plan value.Null l) (gives-fits item raw on_birth on_death credit each small limit (Scalar value.Null) l (omega (arith, known))) (new_in-fits limit plan value.Null l (omega (arith, known))))
  new_taken-fits limit plan v l known = (new_in-fits limit plan v l (omega (arith, known)))

  pub new_made-fits : (limit : ℕ) (y0 : ℕ) (y1 : Local) → local_weighs item raw on_birth on_death credit each y1 + each ≤ limit + credits item raw on_birth on_death credit each y1.seen → Fits item raw on_birth on_death credit each limit (new_made y0 y1)
  new_made-fits limit x l known = (gives-fits item raw on_birth on_death credit each small limit (Scalar (value.Pointer x [])) (with_store (make_live x (store l)) l) (let f0 = same item raw on_birth on_death credit each small (make_live x (store l)) (store l) (make_live-count x (store l)) in omega (arith, known, f0)))

  pub new_left-fits : (limit : ℕ) (y0 : ℕ) (y1 : ℕ) (y2 : NewPlan) (y3 : Outcome) (y4 : Local) → local_weighs item raw on_birth on_death credit each y4 + each ≤ limit + credits item raw on_birth on_death credit each y4.seen → Fits item raw on_birth on_death credit each limit (new_left y0 y1 y2 y3 y4)
  new_left-fits limit x b plan outcome l known = (goes-fits item raw on_birth on_death credit each small limit (Releases b (words (classes l) plan.of) plan.give outcome plan.span) (with_store (end_object x (store l)) l) (let f0 = same item raw on_birth on_death credit each small (end_object x (store l)) (store l) (end_object-count x (store l)) in omega (arith, known, f0)))

  pub delete_by-fits : (limit : ℕ) (y0 : ℕ) (y1 : ℕ) (y2 : DeletePlan) (y3 : Local) (y4 : Option FuncId) → local_weighs item raw on_birth on_death credit each y3 + each ≤ limit + credits item raw on_birth on_death credit each y3.seen → Fits item raw on_birth on_death credit each limit (delete_by y0 y1 y2 y3 y4)
  delete_by-fits limit x b plan l None known = (under-fits item raw on_birth on_death credit each small limit (DeleteEnded x b plan) (Comes Passes) l (omega (arith, known)))
  delete_by-fits limit x b plan l (Some f) known = (under-fits item raw on_birth on_death credit each small limit (call_with f (At (whole x) ∷ []) None plan.span) (Comes Passes) (pushed Drops (pushed (DeleteEnded x b plan) l)) (omega (arith, known)))

  pub delete_in-fits : (limit : ℕ) (y0 : ℕ) (y1 : DeletePlan) (y2 : Local) (y3 : Option ℕ) → local_weighs item raw on_birth on_death credit each y2 + each ≤ limit + credits item raw on_birth on_death credit each y2.seen → Fits item raw on_birth on_death credit each limit (delete_in y0 y1 y2 y3)
  delete_in-fits limit x plan l None known = tt
  delete_in-fits limit x plan l (Some b) known = (delete_by-fits limit x b plan l plan.destroy (omega (arith, known)))

  pub delete_at-fits : (limit : ℕ) (y0 : DeletePlan) (y1 : Value) (y2 : Local) → local_weighs item raw on_birth on_death credit each y2 + each ≤ limit + credits item raw on_birth on_death credit each y2.seen → Fits item raw on_birth on_death credit each limit (delete_at y0 y1 y2)
  delete_at-fits limit plan (value.Pointer x path) l known = (delete_in-fits limit x plan l (block_of_object (object_at (store l) x)) (omega (arith, known)))
  delete_at-fits limit plan v l known = tt

  pub delete_of-fits : (limit : ℕ) (y0 : DeletePlan) (y1 : Value) (y2 : Local) → local_weighs item raw on_birth on_death credit each y2 + each ≤ limit + credits item raw on_birth on_death credit each y2.seen → Fits item raw on_birth on_death credit each limit (delete_of y0 y1 y2)
  delete_of-fits limit plan value.Null l known = (gives-fits item raw on_birth on_death credit each small limit Nothing l (omega (arith, known)))
  delete_of-fits limit plan v l known = (unless-fits item raw on_birth on_death credit each small limit (record { kind = U11; holds = is_not_new (store l) plan.of v } ∷ []) plan.span l (delete_at plan v l) (omega (arith, known)) (delete_at-fits limit plan v l (omega (arith, known))))

  pub delete_ended-fits : (limit : ℕ) (y0 : ℕ) (y1 : ℕ) (y2 : DeletePlan) (y3 : Local) → local_weighs item raw on_birth on_death credit each y3 + each ≤ limit + credits item raw on_birth on_death credit each y3.seen → Fits item raw on_birth on_death credit each limit (delete_ended y0 y1 y2 y3)
  delete_ended-fits limit x b plan l known = (goes-fits item raw on_birth on_death credit each small limit (Releases b (words (classes l) plan.of) plan.give (Gives Nothing) plan.span) (with_store (end_object x (store l)) l) (let f0 = same item raw on_birth on_death credit each small (end_object x (store l)) (store l) (end_object-count x (store l)) in omega (arith, known, f0)))

  pub evaluate-fits : (limit : ℕ) (y0 : CoreExpr) (y1 : Option Place) (y2 : Local) → local_weighs item raw on_birth on_death credit each y2 + each ≤ limit + credits item raw on_birth on_death credit each y2.seen → Fits item raw on_birth on_death credit each limit (evaluate y0 y1 y2)
  evaluate-fits limit (expr.Const n v at) into l known = (gives-fits item raw on_birth on_death credit each small limit (Scalar (value.Number n v)) l (omega (arith, known)))
  evaluate-fits limit (expr.Null at) into l known = (gives-fits item raw on_birth on_death credit each small limit (Scalar value.Null) l (omega (arith, known)))
  evaluate-fits limit (expr.Slot slot at) into l known = (at_object-fits limit l (object_in l slot.0) (omega (arith, known)))
  evaluate-fits limit (expr.Global k at) into l known = (gives-fits item raw on_birth on_death credit each small limit (At (whole k)) l (omega (arith, known)))
  evaluate-fits limit (expr.Field' n (more_of-CoreExpr e end_of-CoreExpr) k at) into l known = (under-fits item raw on_birth on_death credit each small limit (FieldOf k) (Evaluate e None) l (omega (arith, known)))
  evaluate-fits limit (expr.Deref' n (more_of-CoreExpr e end_of-CoreExpr) at) into l known = (under-fits item raw on_birth on_death credit each small limit (Referent at) (Evaluate e None) l (omega (arith, known)))
  evaluate-fits limit (expr.Address' n (more_of-CoreExpr e end_of-CoreExpr) at) into l known = (under-fits item raw on_birth on_death credit each small limit AddressOf (Evaluate e None) l (omega (arith, known)))
  evaluate-fits limit (expr.Whole k at) into l known = (at_whole-fits limit l (slice_get (wholes l.top.frames) k) (omega (arith, known)))
  evaluate-fits limit (expr.Load' n (more_of-CoreExpr e end_of-CoreExpr) at) into l known = (under-fits item raw on_birth on_death credit each small limit (LoadFrom at) (Evaluate e None) l (omega (arith, known)))
  evaluate-fits limit (expr.Store' n (more_of-CoreExpr p end_of-CoreExpr) m (more_of-CoreExpr v end_of-CoreExpr) at) into l known = (under-fits item raw on_birth on_death credit each small limit (StoreValue p at) (Evaluate v None) l (omega (arith, known)))
  evaluate-fits limit (expr.Exchange' n (more_of-CoreExpr p end_of-CoreExpr) m (more_of-CoreExpr v end_of-CoreExpr) at) into l known = (under-fits item raw on_birth on_death credit each small limit (ExchangePlace v at) (Evaluate p None) l (omega (arith, known)))
  evaluate-fits limit (expr.Update' o k n (more_of-CoreExpr p end_of-CoreExpr) m (more_of-CoreExpr v end_of-CoreExpr) old at) into l known = (under-fits item raw on_birth on_death credit each small limit (UpdateValue o k p old at) (Evaluate v None) l (omega (arith, known)))
  evaluate-fits limit (expr.Arith' o k n (more_of-CoreExpr x end_of-CoreExpr) m (more_of-CoreExpr y end_of-CoreExpr) at) into l known = (under-fits item raw on_birth on_death credit each small limit (ArithRight o k y at) (Evaluate x None) l (omega (arith, known)))
  evaluate-fits limit (expr.Convert' k n (more_of-CoreExpr e end_of-CoreExpr) at) into l known = (under-fits item raw on_birth on_death credit each small limit (ConvertTo k) (Evaluate e None) l (omega (arith, known)))
  evaluate-fits limit (expr.Test' n (more_of-CoreExpr e end_of-CoreExpr) at) into l known = (under-fits item raw on_birth on_death credit each small limit TestOf (Evaluate e None) l (omega (arith, known)))
  evaluate-fits limit (expr.Same' n (more_of-CoreExpr x end_of-CoreExpr) m (more_of-CoreExpr y end_of-CoreExpr) at) into l known = (under-fits item raw on_birth on_death credit each small limit (SameRight y at) (Evaluate x None) l (omega (arith, known)))
  evaluate-fits limit (expr.Both' n (more_of-CoreExpr x end_of-CoreExpr) m (more_of-CoreExpr y end_of-CoreExpr) at) into l known = (under-fits item raw on_birth on_death credit each small limit (BothRight y) (Evaluate x None) l (omega (arith, known)))
  evaluate-fits limit (expr.Either' n (more_of-CoreExpr x end_of-CoreExpr) m (more_of-CoreExpr y end_of-CoreExpr) at) into l known = (under-fits item raw on_birth on_death credit each small limit (EitherRight y) (Evaluate x None) l (omega (arith, known)))
  evaluate-fits limit (expr.Pick' n (more_of-CoreExpr e end_of-CoreExpr) m (more_of-CoreExpr x end_of-CoreExpr) k (more_of-CoreExpr y end_of-CoreExpr) at) into l known = (under-fits item raw on_birth on_death credit each small limit (PickOne x y) (Evaluate e None) l (omega (arith, known)))
  evaluate-fits limit (expr.Call' f n args at) into l known = (under-fits item raw on_birth on_death credit each small limit (Calling (record { func = f; given = []; objects = []; rest = items-the_row-Init _ args; into = into; at = at })) (Comes Passes) l (omega (arith, known)))
  evaluate-fits limit (expr.Temp' slot n (more_of-Init i end_of-Init) at) into l known = (make_temporary-fits limit slot.0 i l (type_of_slot l slot.0) (omega (arith, known)))
  evaluate-fits limit (expr.Throw' of n (more_of-CoreExpr e end_of-CoreExpr) at) into l known = (under-fits item raw on_birth on_death credit each small limit (ThrowOf of at) (Evaluate e None) l (omega (arith, known)))
  evaluate-fits limit (expr.Rethrow at) into l known = (rethrow-fits limit l.handled l (omega (arith, known)))
  evaluate-fits limit (expr.Terminate at) into l known = (is_uncaught-fits item raw on_birth on_death credit each small limit (newest l.handled) l (omega (arith, known)))
  evaluate-fits limit (expr.Current at) into l known = (gives-fits item raw on_birth on_death credit each small limit (Parts (parts_of_thrown (newest l.handled))) l (omega (arith, known)))
  evaluate-fits limit (expr.RethrowPtr' n (more_of-CoreExpr e end_of-CoreExpr) at) into l known = (under-fits item raw on_birth on_death credit each small limit (RethrowOf at) (Evaluate e None) l (omega (arith, known)))
  evaluate-fits limit (expr.Await' n (more_of-AwaitPlan operand holder ready suspend answer resume point span end_of-AwaitPlan)) into l known = (under-fits item raw on_birth on_death credit each small limit (AwaitOperand (record { operand = operand; holder = holder; ready = ready; suspend = suspend; answer = answer; resume = resume; point = point; span = span }) into) (Evaluate operand None) l (omega (arith, known)))
  evaluate-fits limit (expr.Handle' o n operands at) into l known = (under-fits item raw on_birth on_death credit each small limit (Operands (OnHandle o) [] (items-the_row-CoreExpr _ operands) at) (Comes Passes) l (omega (arith, known)))
  evaluate-fits limit (expr.Atomic' o n operands at) into l known = (under-fits item raw on_birth on_death credit each small limit (Operands (OnAtomic o) [] (items-the_row-CoreExpr _ operands) at) (Comes Passes) l (omega (arith, known)))
  evaluate-fits limit (expr.Lib' o n operands at) into l known = (under-fits item raw on_birth on_death credit each small limit (Operands (OfLibrary o) [] (items-the_row-CoreExpr _ operands) at) (Comes Passes) l (omega (arith, known)))
  evaluate-fits limit (expr.New' n (more_of-NewPlan of take may_be_null i give span end_of-NewPlan)) into l known = (let plan : NewPlan = record { of = of; take = take; may_be_null = may_be_null; init = i; give = give; span = span } in (takes-fits limit take plan (pushed (NewTaken plan) l) (omega (arith, known))))
  evaluate-fits limit (expr.Delete' n (more_of-DeletePlan of pointer destroy give span end_of-DeletePlan)) into l known = (under-fits item raw on_birth on_death credit each small limit (DeleteOf (record { of = of; pointer = pointer; destroy = destroy; give = give; span = span })) (Evaluate pointer None) l (omega (arith, known)))

  pub members-fits : (limit : ℕ) (y0 : Place) (y1 : List Init) (y2 : Local) → local_weighs item raw on_birth on_death credit each y2 + each ≤ limit + credits item raw on_birth on_death credit each y2.seen → Fits item raw on_birth on_death credit each limit (members y0 y1 y2)
  members-fits limit p is l known = (if-fits item raw on_birth on_death credit each small limit (is_empty_type (type_at (classes l) (store l) p)) (goes (Writes true p 0 (value.Empty ∷ []) Passes nowhere) l) (under (Building p 0 is) (Comes Passes) l) (goes-fits item raw on_birth on_death credit each small limit (Writes true p 0 (value.Empty ∷ []) Passes nowhere) l (omega (arith, known))) (under-fits item raw on_birth on_death credit each small limit (Building p 0 is) (Comes Passes) l (omega (arith, known))))

  pub initialize-fits : (limit : ℕ) (y0 : Init) (y1 : Option Place) (y2 : Local) → local_weighs item raw on_birth on_death credit each y2 + each ≤ limit + credits item raw on_birth on_death credit each y2.seen → Fits item raw on_birth on_death credit each limit (initialize y0 y1 y2)
  initialize-fits limit (init.Ctor' f n args) (Some p) l known = (under-fits item raw on_birth on_death credit each small limit (Calling (record { func = f; given = At p ∷ []; objects = []; rest = items-the_row-Init _ args; into = None; at = nowhere })) (Comes Passes) (pushed Drops l) (omega (arith, known)))
  initialize-fits limit (init.Members' n is) (Some p) l known = (members-fits limit p (items-the_row-Init _ is) l (omega (arith, known)))
  initialize-fits limit (init.Members' n is) None l known = (gives-fits item raw on_birth on_death credit each small limit (Scalar value.Empty) l (omega (arith, known)))
  initialize-fits limit (init.Value e) (Some p) l known = (under-fits item raw on_birth on_death credit each small limit (ValueInto p (span_of e)) (Evaluate e None) l (omega (arith, known)))
  initialize-fits limit (init.Value e) None l known = (goes-fits item raw on_birth on_death credit each small limit (Evaluate e None) l (omega (arith, known)))
  initialize-fits limit (init.Result e) (Some p) l known = (under-fits item raw on_birth on_death credit each small limit ResultInto (Evaluate e (Some p)) l (omega (arith, known)))
  initialize-fits limit (init.Result e) None l known = (goes-fits item raw on_birth on_death credit each small limit (Evaluate e None) l (omega (arith, known)))
  initialize-fits limit init.Raw (Some p) l known = (passes-fits item raw on_birth on_death credit each small limit (with_store (set_part (classes l) p cell.Indeterminate (store l)) l) (let f0 = same item raw on_birth on_death credit each small (set_part (classes l) p cell.Indeterminate (store l)) (store l) (set_part-count (classes l) p cell.Indeterminate (store l)) in omega (arith, known, f0)))
  initialize-fits limit (init.Choose' e n (more_of-Init x end_of-Init) m (more_of-Init y end_of-Init)) p l known = (under-fits item raw on_birth on_death credit each small limit (ChooseOne x y p) (Evaluate e None) l (omega (arith, known)))
  initialize-fits limit i p l known = tt
