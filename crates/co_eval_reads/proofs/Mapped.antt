-- An item of a list, seen through what the items are in the meaning.
use Rattle.std.specs.Prelude.{◌≡◌, ℕ, zero, suc, ◌+◌, ◌-◌, List, [], ◌∷◌, map, length, slice_get, Option, None, Some}
use Rattle.std.specs.Option.{option_copied, option_map}
use Rattle.std.proofs.Common.{Bor, refl, ap, ◌∙◌, sym, arith}
use Rattle.std.proofs.lemmas.List.{length-map}
use Rattle.std.proofs.lemmas.Option.{slice_get-map}
use Rattle.co_base.specs.declared.kinds.Thrown.{Thrown}
use Rattle.co_base.specs.declared.kinds.Thrown.TheVariants as thrown
use Rattle.co_eval_data.specs.Agents.{block_of, coroutine_of, local_of, object_of}
use Rattle.co_eval_data.specs.declared.agents.Coroutine.{Coroutine}
use Rattle.co_eval_data.specs.declared.here.Here.{Here}
use Rattle.co_eval_data.specs.declared.stored.StoredBlock.{StoredBlock}
use Rattle.co_eval_data.specs.declared.stored.StoredObject.{StoredObject}
use Rattle.co_meaning.specs.Expressions.{newest}
use Rattle.co_meaning_calls.specs.Coroutines.{coroutines}
use Rattle.co_meaning_data.specs.Store as stored
use Rattle.co_meaning_data.specs.Turn.{store}
use Rattle.co_meaning_data.specs.Undefined.{numbered}
use Rattle.co_eval_reads.proofs.Rests.{newest_is_last}

read : {A B : Type 0} (f : A → B) (r : Option (Bor A)) → option_map (λ (x : Bor A). f x.now) r ≡ option_map f (option_copied r)
read f None = refl
read f (Some x) = refl

seen : {A B : Type 0} (f : A → B) (xs : List A) (k : ℕ) (r : Option (Bor A)) → option_copied r ≡ slice_get xs k → option_map (λ (x : Bor A). f x.now) r ≡ slice_get (map f xs) k
seen f xs k r e = read f r ∙ ap (option_map f) e ∙ sym (slice_get-map f xs k)

pub seen_object : (h : Here) (x : ℕ) (r : Option (Bor StoredObject)) → option_copied r ≡ slice_get h.shared.now.store.objects.items x → option_map (λ (o : Bor StoredObject). object_of o.now) r ≡ stored.object_at (store (local_of h)) x
unfolding local_of
seen_object h x r e = seen object_of h.shared.now.store.objects.items x r e

pub seen_block : (h : Here) (b : ℕ) (r : Option (Bor StoredBlock)) → option_copied r ≡ slice_get h.shared.now.store.blocks.items b → option_map (λ (o : Bor StoredBlock). block_of o.now) r ≡ stored.block_at (store (local_of h)) b
unfolding local_of
seen_block h b r e = seen block_of h.shared.now.store.blocks.items b r e

pub seen_coroutine : (h : Here) (n k : ℕ) (r : Option (Bor Coroutine)) → k + 1 ≡ n → option_copied r ≡ slice_get h.shared.now.coroutines.items k → option_map (λ (c : Bor Coroutine). coroutine_of c.now) r ≡ numbered (coroutines (local_of h)) n
unfolding local_of
seen_coroutine h zero k r less e = absurd (omega (arith, less))
seen_coroutine h (suc n) k r less e =
    let same : k ≡ n = omega (arith, less) in
    seen coroutine_of h.shared.now.coroutines.items n r (e ∙ ap (slice_get h.shared.now.coroutines.items) same)

pub no_coroutine : (h : Here) (n : ℕ) → n ≡ 0 → numbered (coroutines (local_of h)) n ≡ None
no_coroutine h zero e = refl
no_coroutine h (suc n) e = absurd (omega (arith, e))

pub objects_counted : (h : Here) → stored.next_object (store (local_of h)) ≡ length h.shared.now.store.objects.items
unfolding local_of
objects_counted h = length-map h.shared.now.store.objects.items object_of

pub blocks_counted : (h : Here) → stored.next_block (store (local_of h)) ≡ length h.shared.now.store.blocks.items
unfolding local_of
blocks_counted h = length-map h.shared.now.store.blocks.items block_of

pub handled_last : (h : Here) → slice_get (local_of h).handled 0 ≡ slice_get h.handled.now (length h.handled.now - 1)
unfolding local_of
handled_last h = newest_is_last h.handled.now

pub newest_first : (handled : List Thrown) (v : Thrown) → slice_get handled 0 ≡ Some v → newest handled ≡ v
newest_first [] v e = absurd (cc e)
newest_first (w ∷ handled) v e = cc e

pub newest_none : (handled : List Thrown) → slice_get handled 0 ≡ None → newest handled ≡ thrown.None
newest_none [] e = refl
newest_none (w ∷ handled) e = absurd (cc e)
