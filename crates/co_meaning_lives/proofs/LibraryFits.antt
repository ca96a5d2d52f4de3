-- The acts of the library keep what is to come.
use Rattle.std.proofs.Common.{ℕ, ◌+◌, ◌≤◌, List, [], ◌∷◌, ◌++◌, Bool, true, false, Some, None, arith, length}
use Rattle.std.specs.Prelude.{not, ◌||◌, Option, pos}
use Rattle.co_base.specs.declared.ids.ClassId.{ClassId}
use Rattle.co_base.specs.declared.kinds.Print.{Print}
use Rattle.co_base.specs.declared.kinds.Undef.TheVariants.{U3, U11}
use Rattle.co_base.specs.declared.span.Span.{Span}
use Rattle.co_core_tree.specs.declared.kinds.AtomicOp.{AtomicOp}
use Rattle.co_core_tree.specs.declared.kinds.HandleOp.{HandleOp}
use Rattle.co_core_tree.specs.declared.kinds.LibOp.{LibOp}
use Rattle.co_meaning_data.specs.declared.values.Value.{Value}
use Rattle.co_meaning_data.specs.Frames.{At, CompareAt, Coroutine, Given, Gives, Nothing, OfLibrary, OnAtomic, OnHandle, Operation, Reads, Scalar, Writes}
use Rattle.co_meaning_data.specs.Store.{Place, coroutine_in, object_at, whole}
use Rattle.co_meaning_data.specs.Undefined.{at_final, is_no_block, not_suspended, numbered, wrong_object, address_of}
use Rattle.co_meaning_calls.specs.Coroutines.{coroutines, null_fault, release_value}
use Rattle.co_meaning_data.specs.Turn.{Local, gives, happens, store, truth}
use Rattle.co_meaning.specs.Library.{is_done, wrong, promise_given, promise_by, promise_of, is_its_promise, handle_for, handle_in, from_promise_at, from_promise, address_given, given_or_none, has_class, from_address, on_handle, plus, minus, on_atomic, prints, post, input, long_given, words_for, gives_back, text_number, of_library, operate}
use Rattle.co_meaning_lives.specs.Tokens.{Fits, credits, local_weighs}
use Rattle.co_meaning_lives.proofs.Weights.{goes-fits, under-fits, gives-fits, events-add, unless-fits, if-fits, credits-add}
use Rattle.co_base.specs.declared.kinds.Print.TheVariants as print
use Rattle.co_core_tree.specs.declared.kinds.AtomicOp.TheVariants as atomic
use Rattle.co_core_tree.specs.declared.kinds.HandleOp.TheVariants as handle
use Rattle.co_core_tree.specs.declared.kinds.LibOp.TheVariants as library
use Rattle.co_meaning_data.specs.declared.events.Event.TheVariants as event
use Rattle.co_meaning_data.specs.declared.values.Value.TheVariants as value
use Rattle.co_meaning_lives.proofs.AccessFits.{swap-fits}
use Rattle.co_meaning_lives.proofs.CoroutinesFits.{take_block-fits, release_value-fits, resume_handle-fits, destroy_handle-fits}

module _ (item raw on_birth on_death credit each : ℕ) (small : on_birth + on_death ≤ raw + credit) where
  pub is_done-fits : (limit : ℕ) (y0 : Value) (y1 : Span) (y2 : Local) → local_weighs item raw on_birth on_death credit each y2 + each ≤ limit + credits item raw on_birth on_death credit each y2.seen → Fits item raw on_birth on_death credit each limit (is_done y0 y1 y2)
  is_done-fits limit (value.Handle n) at l known = (unless-fits item raw on_birth on_death credit each small limit (record { kind = U3; holds = not_suspended (coroutines l) n } ∷ []) at l (gives (truth (at_final (coroutines l) n)) l) (omega (arith, known)) (gives-fits item raw on_birth on_death credit each small limit (truth (at_final (coroutines l) n)) l (omega (arith, known))))
  is_done-fits limit value.Noop at l known = (gives-fits item raw on_birth on_death credit each small limit (truth false) l (omega (arith, known)))
  is_done-fits limit value.Null at l known = (unless-fits item raw on_birth on_death credit each small limit null_fault at l None (omega (arith, known)) tt)
  is_done-fits limit v at l known = tt

  pub wrong-fits : (limit : ℕ) (y0 : Span) (y1 : Local) → local_weighs item raw on_birth on_death credit each y1 + each ≤ limit + credits item raw on_birth on_death credit each y1.seen → Fits item raw on_birth on_death credit each limit (wrong y0 y1)
  wrong-fits limit at l known = (unless-fits item raw on_birth on_death credit each small limit (record { kind = U3; holds = true } ∷ []) at l None (omega (arith, known)) tt)

  pub promise_given-fits : (limit : ℕ) (y0 : Bool) (y1 : Option ℕ) (y2 : Span) (y3 : Local) → local_weighs item raw on_birth on_death credit each y3 + each ≤ limit + credits item raw on_birth on_death credit each y3.seen → Fits item raw on_birth on_death credit each limit (promise_given y0 y1 y2 y3)
  promise_given-fits limit false (Some x) at l known = (gives-fits item raw on_birth on_death credit each small limit (At (whole x)) l (omega (arith, known)))
  promise_given-fits limit over x at l known = (wrong-fits limit at l (omega (arith, known)))

  pub promise_by-fits : (limit : ℕ) (y0 : ℕ) (y1 : Span) (y2 : Local) (y3 : Option Coroutine) → local_weighs item raw on_birth on_death credit each y2 + each ≤ limit + credits item raw on_birth on_death credit each y2.seen → Fits item raw on_birth on_death credit each limit (promise_by y0 y1 y2 y3)
  promise_by-fits limit n at l None known = (wrong-fits limit at l (omega (arith, known)))
  promise_by-fits limit n at l (Some c) known = (promise_given-fits limit (wrong_object (coroutines l) n) c.promise at l (omega (arith, known)))

  pub promise_of-fits : (limit : ℕ) (y0 : Value) (y1 : Span) (y2 : Local) → local_weighs item raw on_birth on_death credit each y2 + each ≤ limit + credits item raw on_birth on_death credit each y2.seen → Fits item raw on_birth on_death credit each limit (promise_of y0 y1 y2)
  promise_of-fits limit (value.Handle n) at l known = (promise_by-fits limit n at l (numbered (coroutines l) n) (omega (arith, known)))
  promise_of-fits limit value.Noop at l known = (wrong-fits limit at l (omega (arith, known)))
  promise_of-fits limit value.Null at l known = (unless-fits item raw on_birth on_death credit each small limit null_fault at l None (omega (arith, known)) tt)
  promise_of-fits limit v at l known = tt

  pub handle_for-fits : (limit : ℕ) (y0 : ℕ) (y1 : ℕ) (y2 : Span) (y3 : Local) → local_weighs item raw on_birth on_death credit each y3 + each ≤ limit + credits item raw on_birth on_death credit each y3.seen → Fits item raw on_birth on_death credit each limit (handle_for y0 y1 y2 y3)
  handle_for-fits limit x n at l known = (if-fits item raw on_birth on_death credit each small limit (not (is_its_promise x (numbered (coroutines l) n)) || wrong_object (coroutines l) n) (wrong at l) (gives (Scalar (value.Handle n)) l) (wrong-fits limit at l (omega (arith, known))) (gives-fits item raw on_birth on_death credit each small limit (Scalar (value.Handle n)) l (omega (arith, known))))

  pub handle_in-fits : (limit : ℕ) (y0 : ℕ) (y1 : Span) (y2 : Local) (y3 : Option ℕ) → local_weighs item raw on_birth on_death credit each y2 + each ≤ limit + credits item raw on_birth on_death credit each y2.seen → Fits item raw on_birth on_death credit each limit (handle_in y0 y1 y2 y3)
  handle_in-fits limit x at l None known = (wrong-fits limit at l (omega (arith, known)))
  handle_in-fits limit x at l (Some n) known = (handle_for-fits limit x n at l (omega (arith, known)))

  pub from_promise_at-fits : (limit : ℕ) (y0 : ℕ) (y1 : List ℕ) (y2 : Span) (y3 : Local) → local_weighs item raw on_birth on_death credit each y3 + each ≤ limit + credits item raw on_birth on_death credit each y3.seen → Fits item raw on_birth on_death credit each limit (from_promise_at y0 y1 y2 y3)
  from_promise_at-fits limit x [] at l known = (handle_in-fits limit x at l (coroutine_in (object_at (store l) x)) (omega (arith, known)))
  from_promise_at-fits limit x (k ∷ path) at l known = (wrong-fits limit at l (omega (arith, known)))

  pub from_promise-fits : (limit : ℕ) (y0 : Place) (y1 : Span) (y2 : Local) → local_weighs item raw on_birth on_death credit each y2 + each ≤ limit + credits item raw on_birth on_death credit each y2.seen → Fits item raw on_birth on_death credit each limit (from_promise y0 y1 y2)
  from_promise-fits limit p at l known = (from_promise_at-fits limit p.object p.path at l (omega (arith, known)))

  pub given_or_none-fits : (limit : ℕ) (y0 : Option Value) (y1 : Local) → local_weighs item raw on_birth on_death credit each y1 + each ≤ limit + credits item raw on_birth on_death credit each y1.seen → Fits item raw on_birth on_death credit each limit (given_or_none y0 y1)
  given_or_none-fits limit None l known = tt
  given_or_none-fits limit (Some v) l known = (gives-fits item raw on_birth on_death credit each small limit (Scalar v) l (omega (arith, known)))

  pub from_address-fits : (limit : ℕ) (y0 : Option ClassId) (y1 : Value) (y2 : Span) (y3 : Local) → local_weighs item raw on_birth on_death credit each y3 + each ≤ limit + credits item raw on_birth on_death credit each y3.seen → Fits item raw on_birth on_death credit each limit (from_address y0 y1 y2 y3)
  from_address-fits limit class (value.Frame n) at l known = (if-fits item raw on_birth on_death credit each small limit (wrong_object (coroutines l) n || not (has_class l class (numbered (coroutines l) n))) (wrong at l) (gives (Scalar (value.Handle n)) l) (wrong-fits limit at l (omega (arith, known))) (gives-fits item raw on_birth on_death credit each small limit (Scalar (value.Handle n)) l (omega (arith, known))))
  from_address-fits limit None value.NoopFrame at l known = (gives-fits item raw on_birth on_death credit each small limit (Scalar value.Noop) l (omega (arith, known)))
  from_address-fits limit class value.Null at l known = (gives-fits item raw on_birth on_death credit each small limit (Scalar value.Null) l (omega (arith, known)))
  from_address-fits limit class v at l known = (wrong-fits limit at l (omega (arith, known)))

  pub on_handle-fits : (limit : ℕ) (y0 : HandleOp) (y1 : List Given) (y2 : Span) (y3 : Local) → local_weighs item raw on_birth on_death credit each y3 + each ≤ limit + credits item raw on_birth on_death credit each y3.seen → Fits item raw on_birth on_death credit each limit (on_handle y0 y1 y2 y3)
  on_handle-fits limit handle.Resume (Scalar v ∷ []) at l known = (resume_handle-fits item raw on_birth on_death credit each small limit v at l (omega (arith, known)))
  on_handle-fits limit handle.Destroy (Scalar v ∷ []) at l known = (destroy_handle-fits item raw on_birth on_death credit each small limit v at l (omega (arith, known)))
  on_handle-fits limit handle.Done (Scalar v ∷ []) at l known = (is_done-fits limit v at l (omega (arith, known)))
  on_handle-fits limit handle.Promise (Scalar v ∷ []) at l known = (promise_of-fits limit v at l (omega (arith, known)))
  on_handle-fits limit handle.FromPromise (At p ∷ []) at l known = (from_promise-fits limit p at l (omega (arith, known)))
  on_handle-fits limit handle.Address (Scalar v ∷ []) at l known = (given_or_none-fits limit (address_given v) l (omega (arith, known)))
  on_handle-fits limit (handle.FromAddress class) (Scalar v ∷ []) at l known = (from_address-fits limit class v at l (omega (arith, known)))
  on_handle-fits limit handle.Noop [] at l known = (gives-fits item raw on_birth on_death credit each small limit (Scalar value.Noop) l (omega (arith, known)))
  on_handle-fits limit o operands at l known = tt

  pub on_atomic-fits : (limit : ℕ) (y0 : AtomicOp) (y1 : List Given) (y2 : Span) (y3 : Local) → local_weighs item raw on_birth on_death credit each y3 + each ≤ limit + credits item raw on_birth on_death credit each y3.seen → Fits item raw on_birth on_death credit each limit (on_atomic y0 y1 y2 y3)
  on_atomic-fits limit atomic.Load (At p ∷ []) at l known = (goes-fits item raw on_birth on_death credit each small limit (Reads p 1 [] at) l (omega (arith, known)))
  on_atomic-fits limit atomic.Store (Scalar v ∷ At p ∷ []) at l known = (goes-fits item raw on_birth on_death credit each small limit (Writes false p 0 (v ∷ []) (Gives Nothing) at) l (omega (arith, known)))
  on_atomic-fits limit atomic.Swap (Scalar v ∷ At p ∷ []) at l known = (swap-fits item raw on_birth on_death credit each small limit (λ old. v) p at l (omega (arith, known)))
  on_atomic-fits limit atomic.Add (Scalar (value.Number n b) ∷ At p ∷ []) at l known = (swap-fits item raw on_birth on_death credit each small limit (plus b) p at l (omega (arith, known)))
  on_atomic-fits limit atomic.Sub (Scalar (value.Number n b) ∷ At p ∷ []) at l known = (swap-fits item raw on_birth on_death credit each small limit (minus b) p at l (omega (arith, known)))
  on_atomic-fits limit atomic.Cas (Scalar v ∷ At expected ∷ At p ∷ []) at l known = (under-fits item raw on_birth on_death credit each small limit (CompareAt p expected (Scalar v) at) (Reads expected 1 [] at) l (omega (arith, known)))
  on_atomic-fits limit o operands at l known = tt

  pub prints-fits : (limit : ℕ) (y0 : Print) (y1 : Local) → local_weighs item raw on_birth on_death credit each y1 + each ≤ limit + credits item raw on_birth on_death credit each y1.seen → Fits item raw on_birth on_death credit each limit (prints y0 y1)
  prints-fits limit line l known = (gives-fits item raw on_birth on_death credit each small limit Nothing (happens (event.Print l.worker line) l) (let f0 = events-add item raw on_birth on_death credit each small l.seen (event.Print l.worker line) in let f1 = credits-add item raw on_birth on_death credit each small l.seen (event.Print l.worker line) in omega (arith, known, f0, f1)))

  pub post-fits : (limit : ℕ) (y0 : Value) (y1 : Span) (y2 : Local) → local_weighs item raw on_birth on_death credit each y2 + each ≤ limit + credits item raw on_birth on_death credit each y2.seen → Fits item raw on_birth on_death credit each limit (post y0 y1 y2)
  post-fits limit value.Null at l known = (unless-fits item raw on_birth on_death credit each small limit null_fault at l None (omega (arith, known)) tt)
  post-fits limit v at l known = (gives-fits item raw on_birth on_death credit each small limit Nothing (record l { shared = record l.shared { posted = l.shared.posted ++ v ∷ [] } }) (omega (arith, known)))

  pub gives_back-fits : (limit : ℕ) (y0 : Value) (y1 : Span) (y2 : Local) → local_weighs item raw on_birth on_death credit each y2 + each ≤ limit + credits item raw on_birth on_death credit each y2.seen → Fits item raw on_birth on_death credit each limit (gives_back y0 y1 y2)
  gives_back-fits limit value.Null at l known = (gives-fits item raw on_birth on_death credit each small limit Nothing l (omega (arith, known)))
  gives_back-fits limit v at l known = (unless-fits item raw on_birth on_death credit each small limit (record { kind = U11; holds = is_no_block (store l) (coroutines l) v } ∷ []) at l (release_value (address_of (store l) (coroutines l) v) (Gives Nothing) at l) (omega (arith, known)) (release_value-fits item raw on_birth on_death credit each small limit (address_of (store l) (coroutines l) v) (Gives Nothing) at l (omega (arith, known))))

  pub of_library-fits : (limit : ℕ) (y0 : LibOp) (y1 : List Given) (y2 : Span) (y3 : Local) → local_weighs item raw on_birth on_death credit each y3 + each ≤ limit + credits item raw on_birth on_death credit each y3.seen → Fits item raw on_birth on_death credit each limit (of_library y0 y1 y2 y3)
  of_library-fits limit library.Print (Scalar (value.Number n z) ∷ []) at l known = (prints-fits limit (print.Num z) l (omega (arith, known)))
  of_library-fits limit library.Lit (Scalar (value.Number n z) ∷ []) at l known = (prints-fits limit (print.Lit (text_number z)) l (omega (arith, known)))
  of_library-fits limit library.Post (Scalar v ∷ []) at l known = (post-fits limit v at l (omega (arith, known)))
  of_library-fits limit library.Input (Scalar (value.Number n z) ∷ []) at l known = (gives-fits item raw on_birth on_death credit each small limit (long_given (input l.program.inputs z)) l (omega (arith, known)))
  of_library-fits limit library.Inputs [] at l known = (gives-fits item raw on_birth on_death credit each small limit (long_given (pos (length l.program.inputs))) l (omega (arith, known)))
  of_library-fits limit library.Take (Scalar (value.Number n z) ∷ []) at l known = (take_block-fits item raw on_birth on_death credit each small limit (words_for z) l (omega (arith, known)))
  of_library-fits limit library.Give (Scalar v ∷ []) at l known = (gives_back-fits limit v at l (omega (arith, known)))
  of_library-fits limit library.Give (g ∷ Scalar v ∷ []) at l known = (gives_back-fits limit v at l (omega (arith, known)))
  of_library-fits limit o operands at l known = tt

  pub operate-fits : (limit : ℕ) (y0 : Operation) (y1 : List Given) (y2 : Span) (y3 : Local) → local_weighs item raw on_birth on_death credit each y3 + each ≤ limit + credits item raw on_birth on_death credit each y3.seen → Fits item raw on_birth on_death credit each limit (operate y0 y1 y2 y3)
  operate-fits limit (OnHandle o) operands at l known = (on_handle-fits limit o operands at l (omega (arith, known)))
  operate-fits limit (OnAtomic o) operands at l known = (on_atomic-fits limit o operands at l (omega (arith, known)))
  operate-fits limit (OfLibrary o) operands at l known = (of_library-fits limit o operands at l (omega (arith, known)))
