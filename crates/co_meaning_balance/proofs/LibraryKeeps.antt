-- The acts of the library lose no object.
use Rattle.std.proofs.Common.{ℕ, ◌≤◌, List, [], ◌∷◌, Bool, true, false, Some, None, arith}
use Rattle.std.specs.Prelude.{not, ◌||◌, Option}
use Rattle.co_base.specs.declared.ids.ClassId.{ClassId}
use Rattle.co_base.specs.declared.kinds.Print.{Print}
use Rattle.co_base.specs.declared.kinds.Print.TheVariants as print
use Rattle.co_base.specs.declared.kinds.Undef.TheVariants.{U3, U11}
use Rattle.co_base.specs.declared.span.Span.{Span}
use Rattle.co_core_tree.specs.declared.kinds.AtomicOp.{AtomicOp}
use Rattle.co_core_tree.specs.declared.kinds.AtomicOp.TheVariants as atomic
use Rattle.co_core_tree.specs.declared.kinds.HandleOp.{HandleOp}
use Rattle.co_core_tree.specs.declared.kinds.HandleOp.TheVariants as handle
use Rattle.co_core_tree.specs.declared.kinds.LibOp.{LibOp}
use Rattle.co_core_tree.specs.declared.kinds.LibOp.TheVariants as library
use Rattle.co_meaning_data.specs.Frames.{At, Coroutine, Given, Gives, Nothing, OfLibrary, OnAtomic, OnHandle, Operation, Scalar}
use Rattle.co_meaning_data.specs.Store.{Place, coroutine_in, object_at}
use Rattle.co_meaning_data.specs.Turn.{Local, gives, store, truth}
use Rattle.co_meaning_data.specs.Undefined.{at_final, is_no_block, not_suspended, numbered, wrong_object, address_of}
use Rattle.co_meaning_data.specs.declared.events.Event.TheVariants as event
use Rattle.co_meaning_data.specs.declared.values.Value.{Value}
use Rattle.co_meaning_data.specs.declared.values.Value.TheVariants as value
use Rattle.co_meaning_calls.specs.Coroutines.{coroutines, null_fault, release_value}
use Rattle.co_meaning.specs.Library.{is_done, wrong, promise_given, promise_by, promise_of, is_its_promise, handle_for, handle_in, from_promise_at, from_promise, address_given, given_or_none, has_class, from_address, on_handle, plus, minus, on_atomic, prints, post, words_for, gives_back, text_number, of_library, operate}
use Rattle.co_meaning_balance.proofs.AccessKeeps.{swap-keeps}
use Rattle.co_meaning_balance.proofs.CoroutinesKeeps.{destroy_handle-keeps, release_value-keeps, resume_handle-keeps, take_block-keeps}
use Rattle.co_meaning_balance.proofs.ObjectsKeeps.{happened, if-keeps, unless-keeps}
use Rattle.co_meaning_balance.specs.Order.{coroutines_stray}
use Rattle.co_meaning_balance.specs.Places.{Keeps, Kept}

module _ (number item limit owed : ℕ) where
  is_done-keeps : (v : Value) (at : Span) (l : Local) → Kept number item limit owed l → Keeps number item limit owed (is_done v at l)
  is_done-keeps (value.Handle n) at l known = unless-keeps number item limit owed (record { kind = U3; holds = not_suspended (coroutines l) n } ∷ []) at l (gives (truth (at_final (coroutines l) n)) l) known known
  is_done-keeps value.Noop at l known = known
  is_done-keeps value.Null at l known = unless-keeps number item limit owed null_fault at l None known tt
  is_done-keeps v at l known = tt

  wrong-keeps : (at : Span) (l : Local) → Kept number item limit owed l → Keeps number item limit owed (wrong at l)
  wrong-keeps at l known = unless-keeps number item limit owed (record { kind = U3; holds = true } ∷ []) at l None known tt

  promise_given-keeps : (false : Bool) (x : Option ℕ) (at : Span) (l : Local) → Kept number item limit owed l → Keeps number item limit owed (promise_given false x at l)
  promise_given-keeps false (Some x) at l known = known
  promise_given-keeps over x at l known = wrong-keeps at l known

  promise_by-keeps : (n : ℕ) (at : Span) (l : Local) (o : Option Coroutine) → Kept number item limit owed l → Keeps number item limit owed (promise_by n at l o)
  promise_by-keeps n at l None known = wrong-keeps at l known
  promise_by-keeps n at l (Some c) known = promise_given-keeps (wrong_object (coroutines l) n) c.promise at l known

  promise_of-keeps : (v : Value) (at : Span) (l : Local) → Kept number item limit owed l → Keeps number item limit owed (promise_of v at l)
  promise_of-keeps (value.Handle n) at l known = promise_by-keeps n at l (numbered (coroutines l) n) known
  promise_of-keeps value.Noop at l known = wrong-keeps at l known
  promise_of-keeps value.Null at l known = unless-keeps number item limit owed null_fault at l None known tt
  promise_of-keeps v at l known = tt

  handle_for-keeps : (x : ℕ) (n : ℕ) (at : Span) (l : Local) → Kept number item limit owed l → Keeps number item limit owed (handle_for x n at l)
  handle_for-keeps x n at l known = if-keeps number item limit owed (not (is_its_promise x (numbered (coroutines l) n)) || wrong_object (coroutines l) n) (wrong at l) (gives (Scalar (value.Handle n)) l) (wrong-keeps at l known) known

  handle_in-keeps : (x : ℕ) (at : Span) (l : Local) (o : Option ℕ) → Kept number item limit owed l → Keeps number item limit owed (handle_in x at l o)
  handle_in-keeps x at l None known = wrong-keeps at l known
  handle_in-keeps x at l (Some n) known = handle_for-keeps x n at l known

  from_promise_at-keeps : (x : ℕ) (list : List ℕ) (at : Span) (l : Local) → Kept number item limit owed l → Keeps number item limit owed (from_promise_at x list at l)
  from_promise_at-keeps x [] at l known = handle_in-keeps x at l (coroutine_in (object_at (store l) x)) known
  from_promise_at-keeps x (k ∷ path) at l known = wrong-keeps at l known

  from_promise-keeps : (p : Place) (at : Span) (l : Local) → Kept number item limit owed l → Keeps number item limit owed (from_promise p at l)
  from_promise-keeps p at l known = from_promise_at-keeps p.object p.path at l known

  given_or_none-keeps : (o : Option Value) (l : Local) → Kept number item limit owed l → Keeps number item limit owed (given_or_none o l)
  given_or_none-keeps None l known = tt
  given_or_none-keeps (Some v) l known = known

  from_address-keeps : (class : Option ClassId) (v : Value) (at : Span) (l : Local) → Kept number item limit owed l → Keeps number item limit owed (from_address class v at l)
  from_address-keeps class (value.Frame n) at l known = if-keeps number item limit owed (wrong_object (coroutines l) n || not (has_class l class (numbered (coroutines l) n))) (wrong at l) (gives (Scalar (value.Handle n)) l) (wrong-keeps at l known) known
  from_address-keeps None value.NoopFrame at l known = known
  from_address-keeps class value.Null at l known = known
  from_address-keeps class v at l known = wrong-keeps at l known

  on_handle-keeps : (o : HandleOp) (operands : List Given) (at : Span) (l : Local) → coroutines_stray 1 l.shared.coroutines ≤ 0 → Kept number item limit owed l → Keeps number item limit owed (on_handle o operands at l)
  on_handle-keeps handle.Resume (Scalar v ∷ []) at l order known = resume_handle-keeps number item limit owed v at l order known
  on_handle-keeps handle.Destroy (Scalar v ∷ []) at l order known = destroy_handle-keeps number item limit owed v at l order known
  on_handle-keeps handle.Done (Scalar v ∷ []) at l order known = is_done-keeps v at l known
  on_handle-keeps handle.Promise (Scalar v ∷ []) at l order known = promise_of-keeps v at l known
  on_handle-keeps handle.FromPromise (At p ∷ []) at l order known = from_promise-keeps p at l known
  on_handle-keeps handle.Address (Scalar v ∷ []) at l order known = given_or_none-keeps (address_given v) l known
  on_handle-keeps (handle.FromAddress class) (Scalar v ∷ []) at l order known = from_address-keeps class v at l known
  on_handle-keeps handle.Noop [] at l order known = known
  on_handle-keeps o operands at l order known = tt

  on_atomic-keeps : (o : AtomicOp) (operands : List Given) (at : Span) (l : Local) → Kept number item limit owed l → Keeps number item limit owed (on_atomic o operands at l)
  on_atomic-keeps atomic.Load (At p ∷ []) at l known = known
  on_atomic-keeps atomic.Store (Scalar v ∷ At p ∷ []) at l known = known
  on_atomic-keeps atomic.Swap (Scalar v ∷ At p ∷ []) at l known = swap-keeps number item limit owed (λ old. v) p at l known
  on_atomic-keeps atomic.Add (Scalar (value.Number n b) ∷ At p ∷ []) at l known = swap-keeps number item limit owed (plus b) p at l known
  on_atomic-keeps atomic.Sub (Scalar (value.Number n b) ∷ At p ∷ []) at l known = swap-keeps number item limit owed (minus b) p at l known
  on_atomic-keeps atomic.Cas (Scalar v ∷ At expected ∷ At p ∷ []) at l known = known
  on_atomic-keeps o operands at l known = tt

  prints-keeps : (line : Print) (l : Local) → Kept number item limit owed l → Keeps number item limit owed (prints line l)
  prints-keeps line l known = happened number item limit owed (event.Print l.worker line) l (omega arith) (omega arith) known

  post-keeps : (v : Value) (at : Span) (l : Local) → Kept number item limit owed l → Keeps number item limit owed (post v at l)
  post-keeps value.Null at l known = unless-keeps number item limit owed null_fault at l None known tt
  post-keeps v at l known = known

  gives_back-keeps : (v : Value) (at : Span) (l : Local) → Kept number item limit owed l → Keeps number item limit owed (gives_back v at l)
  gives_back-keeps value.Null at l known = known
  gives_back-keeps v at l known = unless-keeps number item limit owed (record { kind = U11; holds = is_no_block (store l) (coroutines l) v } ∷ []) at l (release_value (address_of (store l) (coroutines l) v) (Gives Nothing) at l) known (release_value-keeps number item limit owed (address_of (store l) (coroutines l) v) (Gives Nothing) at l known)

  of_library-keeps : (o : LibOp) (operands : List Given) (at : Span) (l : Local) → Kept number item limit owed l → Keeps number item limit owed (of_library o operands at l)
  of_library-keeps library.Print (Scalar (value.Number n z) ∷ []) at l known = prints-keeps (print.Num z) l known
  of_library-keeps library.Lit (Scalar (value.Number n z) ∷ []) at l known = prints-keeps (print.Lit (text_number z)) l known
  of_library-keeps library.Post (Scalar v ∷ []) at l known = post-keeps v at l known
  of_library-keeps library.Input (Scalar (value.Number n z) ∷ []) at l known = known
  of_library-keeps library.Inputs [] at l known = known
  of_library-keeps library.Take (Scalar (value.Number n z) ∷ []) at l known = take_block-keeps number item limit owed (words_for z) l known
  of_library-keeps library.Give (Scalar v ∷ []) at l known = gives_back-keeps v at l known
  of_library-keeps library.Give (g ∷ Scalar v ∷ []) at l known = gives_back-keeps v at l known
  of_library-keeps o operands at l known = tt

  pub operate-keeps : (o : Operation) (operands : List Given) (at : Span) (l : Local) → coroutines_stray 1 l.shared.coroutines ≤ 0 → Kept number item limit owed l → Keeps number item limit owed (operate o operands at l)
  operate-keeps (OnHandle o) operands at l order known = on_handle-keeps o operands at l order known
  operate-keeps (OnAtomic o) operands at l order known = on_atomic-keeps o operands at l known
  operate-keeps (OfLibrary o) operands at l order known = of_library-keeps o operands at l known
