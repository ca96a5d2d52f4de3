-- The acts of the library keep the frames in order.
use Rattle.std.proofs.Common.{ℕ, ◌≤◌, List, [], ◌∷◌, Bool, true, false, Some, None, arith}
use Rattle.std.specs.Prelude.{not, ◌||◌, Option}
use Rattle.co_base.specs.declared.ids.ClassId.{ClassId}
use Rattle.co_base.specs.declared.kinds.Print.{Print}
use Rattle.co_base.specs.declared.kinds.Print.TheVariants as print
use Rattle.co_base.specs.declared.kinds.Undef.TheVariants.{U3, U11}
use Rattle.co_base.specs.declared.span.Span.{Span}
use Rattle.co_core_tree.specs.declared.kinds.AtomicOp.{AtomicOp}
use Rattle.co_core_tree.specs.declared.kinds.AtomicOp.TheVariants as atomic
use Rattle.co_core_tree.specs.declared.kinds.HandleOp.{HandleOp}
use Rattle.co_core_tree.specs.declared.kinds.HandleOp.TheVariants as handle
use Rattle.co_core_tree.specs.declared.kinds.LibOp.{LibOp}
use Rattle.co_core_tree.specs.declared.kinds.LibOp.TheVariants as library
use Rattle.co_meaning_data.specs.Frames.{At, Coroutine, Given, Gives, Nothing, OfLibrary, OnAtomic, OnHandle, Operation, Scalar}
use Rattle.co_meaning_data.specs.Store.{Place, coroutine_in, object_at}
use Rattle.co_meaning_data.specs.Turn.{Local, gives, store, truth}
use Rattle.co_meaning_data.specs.Undefined.{at_final, is_no_block, not_suspended, numbered, wrong_object, address_of}
use Rattle.co_meaning_data.specs.declared.values.Value.{Value}
use Rattle.co_meaning_data.specs.declared.values.Value.TheVariants as value
use Rattle.co_meaning_calls.specs.Coroutines.{coroutines, null_fault, release_value}
use Rattle.co_meaning.specs.Library.{is_done, wrong, promise_given, promise_by, promise_of, is_its_promise, handle_for, handle_in, from_promise_at, from_promise, address_given, given_or_none, has_class, from_address, on_handle, plus, minus, on_atomic, prints, post, words_for, gives_back, text_number, of_library, operate}
use Rattle.co_meaning_balance.proofs.AccessOrder.{swap-order}
use Rattle.co_meaning_balance.proofs.CoroutinesOrder.{destroy_handle-order, release_value-order, resume_handle-order, take_block-order}
use Rattle.co_meaning_balance.proofs.ObjectsOrder.{if-order, unless-order}
use Rattle.co_meaning_balance.specs.Order.{InOrder, open_strays}

is_done-order : (v : Value) (at : Span) (l : Local) → open_strays l ≤ 0 → InOrder (is_done v at l)
is_done-order (value.Handle n) at l known = unless-order (record { kind = U3; holds = not_suspended (coroutines l) n } ∷ []) at l (gives (truth (at_final (coroutines l) n)) l) (omega (arith, known)) (omega (arith, known))
is_done-order value.Noop at l known = omega (arith, known)
is_done-order value.Null at l known = unless-order null_fault at l None (omega (arith, known)) tt
is_done-order v at l known = tt

wrong-order : (at : Span) (l : Local) → open_strays l ≤ 0 → InOrder (wrong at l)
wrong-order at l known = unless-order (record { kind = U3; holds = true } ∷ []) at l None (omega (arith, known)) tt

promise_given-order : (false : Bool) (x : Option ℕ) (at : Span) (l : Local) → open_strays l ≤ 0 → InOrder (promise_given false x at l)
promise_given-order false (Some x) at l known = omega (arith, known)
promise_given-order over x at l known = wrong-order at l (omega (arith, known))

promise_by-order : (n : ℕ) (at : Span) (l : Local) (o : Option Coroutine) → open_strays l ≤ 0 → InOrder (promise_by n at l o)
promise_by-order n at l None known = wrong-order at l (omega (arith, known))
promise_by-order n at l (Some c) known = promise_given-order (wrong_object (coroutines l) n) c.promise at l (omega (arith, known))

promise_of-order : (v : Value) (at : Span) (l : Local) → open_strays l ≤ 0 → InOrder (promise_of v at l)
promise_of-order (value.Handle n) at l known = promise_by-order n at l (numbered (coroutines l) n) (omega (arith, known))
promise_of-order value.Noop at l known = wrong-order at l (omega (arith, known))
promise_of-order value.Null at l known = unless-order null_fault at l None (omega (arith, known)) tt
promise_of-order v at l known = tt

handle_for-order : (x : ℕ) (n : ℕ) (at : Span) (l : Local) → open_strays l ≤ 0 → InOrder (handle_for x n at l)
handle_for-order x n at l known = if-order (not (is_its_promise x (numbered (coroutines l) n)) || wrong_object (coroutines l) n) (wrong at l) (gives (Scalar (value.Handle n)) l) (wrong-order at l (omega (arith, known))) (omega (arith, known))

handle_in-order : (x : ℕ) (at : Span) (l : Local) (o : Option ℕ) → open_strays l ≤ 0 → InOrder (handle_in x at l o)
handle_in-order x at l None known = wrong-order at l (omega (arith, known))
handle_in-order x at l (Some n) known = handle_for-order x n at l (omega (arith, known))

from_promise_at-order : (x : ℕ) (list : List ℕ) (at : Span) (l : Local) → open_strays l ≤ 0 → InOrder (from_promise_at x list at l)
from_promise_at-order x [] at l known = handle_in-order x at l (coroutine_in (object_at (store l) x)) (omega (arith, known))
from_promise_at-order x (k ∷ path) at l known = wrong-order at l (omega (arith, known))

from_promise-order : (p : Place) (at : Span) (l : Local) → open_strays l ≤ 0 → InOrder (from_promise p at l)
from_promise-order p at l known = from_promise_at-order p.object p.path at l (omega (arith, known))

given_or_none-order : (o : Option Value) (l : Local) → open_strays l ≤ 0 → InOrder (given_or_none o l)
given_or_none-order None l known = tt
given_or_none-order (Some v) l known = omega (arith, known)

from_address-order : (class : Option ClassId) (v : Value) (at : Span) (l : Local) → open_strays l ≤ 0 → InOrder (from_address class v at l)
from_address-order class (value.Frame n) at l known = if-order (wrong_object (coroutines l) n || not (has_class l class (numbered (coroutines l) n))) (wrong at l) (gives (Scalar (value.Handle n)) l) (wrong-order at l (omega (arith, known))) (omega (arith, known))
from_address-order None value.NoopFrame at l known = omega (arith, known)
from_address-order class value.Null at l known = omega (arith, known)
from_address-order class v at l known = wrong-order at l (omega (arith, known))

on_handle-order : (o : HandleOp) (operands : List Given) (at : Span) (l : Local) → open_strays l ≤ 0 → InOrder (on_handle o operands at l)
on_handle-order handle.Resume (Scalar v ∷ []) at l known = resume_handle-order v at l (omega (arith, known))
on_handle-order handle.Destroy (Scalar v ∷ []) at l known = destroy_handle-order v at l (omega (arith, known))
on_handle-order handle.Done (Scalar v ∷ []) at l known = is_done-order v at l (omega (arith, known))
on_handle-order handle.Promise (Scalar v ∷ []) at l known = promise_of-order v at l (omega (arith, known))
on_handle-order handle.FromPromise (At p ∷ []) at l known = from_promise-order p at l (omega (arith, known))
on_handle-order handle.Address (Scalar v ∷ []) at l known = given_or_none-order (address_given v) l (omega (arith, known))
on_handle-order (handle.FromAddress class) (Scalar v ∷ []) at l known = from_address-order class v at l (omega (arith, known))
on_handle-order handle.Noop [] at l known = omega (arith, known)
on_handle-order o operands at l known = tt

on_atomic-order : (o : AtomicOp) (operands : List Given) (at : Span) (l : Local) → open_strays l ≤ 0 → InOrder (on_atomic o operands at l)
on_atomic-order atomic.Load (At p ∷ []) at l known = omega (arith, known)
on_atomic-order atomic.Store (Scalar v ∷ At p ∷ []) at l known = omega (arith, known)
on_atomic-order atomic.Swap (Scalar v ∷ At p ∷ []) at l known = swap-order (λ old. v) p at l (omega (arith, known))
on_atomic-order atomic.Add (Scalar (value.Number n b) ∷ At p ∷ []) at l known = swap-order (plus b) p at l (omega (arith, known))
on_atomic-order atomic.Sub (Scalar (value.Number n b) ∷ At p ∷ []) at l known = swap-order (minus b) p at l (omega (arith, known))
on_atomic-order atomic.Cas (Scalar v ∷ At expected ∷ At p ∷ []) at l known = omega (arith, known)
on_atomic-order o operands at l known = tt

prints-order : (line : Print) (l : Local) → open_strays l ≤ 0 → InOrder (prints line l)
prints-order line l known = omega (arith, known)

post-order : (v : Value) (at : Span) (l : Local) → open_strays l ≤ 0 → InOrder (post v at l)
post-order value.Null at l known = unless-order null_fault at l None (omega (arith, known)) tt
post-order v at l known = omega (arith, known)

gives_back-order : (v : Value) (at : Span) (l : Local) → open_strays l ≤ 0 → InOrder (gives_back v at l)
gives_back-order value.Null at l known = omega (arith, known)
gives_back-order v at l known = unless-order (record { kind = U11; holds = is_no_block (store l) (coroutines l) v } ∷ []) at l (release_value (address_of (store l) (coroutines l) v) (Gives Nothing) at l) (omega (arith, known)) (release_value-order (address_of (store l) (coroutines l) v) (Gives Nothing) at l (omega (arith, known)))

of_library-order : (o : LibOp) (operands : List Given) (at : Span) (l : Local) → open_strays l ≤ 0 → InOrder (of_library o operands at l)
of_library-order library.Print (Scalar (value.Number n z) ∷ []) at l known = prints-order (print.Num z) l (omega (arith, known))
of_library-order library.Lit (Scalar (value.Number n z) ∷ []) at l known = prints-order (print.Lit (text_number z)) l (omega (arith, known))
of_library-order library.Post (Scalar v ∷ []) at l known = post-order v at l (omega (arith, known))
of_library-order library.Input (Scalar (value.Number n z) ∷ []) at l known = omega (arith, known)
of_library-order library.Inputs [] at l known = omega (arith, known)
of_library-order library.Take (Scalar (value.Number n z) ∷ []) at l known = take_block-order (words_for z) l (omega (arith, known))
of_library-order library.Give (Scalar v ∷ []) at l known = gives_back-order v at l (omega (arith, known))
of_library-order library.Give (g ∷ Scalar v ∷ []) at l known = gives_back-order v at l (omega (arith, known))
of_library-order o operands at l known = tt

pub operate-order : (o : Operation) (operands : List Given) (at : Span) (l : Local) → open_strays l ≤ 0 → InOrder (operate o operands at l)
operate-order (OnHandle o) operands at l known = on_handle-order o operands at l (omega (arith, known))
operate-order (OnAtomic o) operands at l known = on_atomic-order o operands at l (omega (arith, known))
operate-order (OfLibrary o) operands at l known = of_library-order o operands at l (omega (arith, known))
