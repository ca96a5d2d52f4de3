-- What an agent sees after an effect that leaves its frames and its activations as they are.
use Rattle.std.specs.Prelude.{◌≡◌, ℕ, List, [], ◌∷◌, ◌++◌, reverse, length, Option, None, Some}
use Rattle.std.specs.Global.{Vec}
use Rattle.std.proofs.Common.{refl, ap, sym, ◌∙◌}
use Rattle.co_base.specs.declared.kinds.Thrown.{Thrown}
use Rattle.std.proofs.lemmas.List.{length-map, reverse-append}
use Rattle.co_eval_data.specs.Agents.{object_of, store_of, top_of}
use Rattle.co_eval_data.specs.Changed.{added, effected}
use Rattle.co_meaning_calls.specs.Coroutines.{promised_by}
use Rattle.co_meaning_data.specs.Store.{next_object}
use Rattle.co_eval_data.specs.declared.agents.Activation.{Activation}
use Rattle.co_eval_data.specs.declared.agents.Kind.{Kind}
use Rattle.co_eval_data.specs.declared.agents.Shared.{Shared}
use Rattle.co_eval_data.specs.declared.changes.Effect.{Effect}
use Rattle.co_eval_data.specs.declared.changes.Effect.TheVariants as effect
use Rattle.co_eval_data.specs.declared.changes.Wake.{Wake}
use Rattle.co_eval_data.specs.declared.frames.Alive.{Alive}
use Rattle.co_eval_data.specs.declared.frames.Frame.{Frame}
use Rattle.co_eval_data.specs.declared.frames.Spot.{Spot}
use Rattle.co_eval_data.specs.declared.stored.Store.{Store}
use Rattle.co_eval_data.specs.declared.stored.StoredObject.{StoredObject}
use Rattle.co_meaning_data.specs.Frames as meaning
use Rattle.co_meaning_data.specs.Store as stored
use Rattle.co_meaning_data.specs.Turn.{Local, with_store}
use Rattle.co_meaning_data.specs.declared.events.Event.{Event}
use Rattle.co_eval_commit.specs.InPlace.{IsQuiet, noted, seeing, sharing}

-- the store has changed
pub shares : (s : Shared) (store : Store) (made : stored.Store) (l : Local) → store_of store ≡ made → sharing (record s { store = store }) l ≡ with_store made (sharing s l)
shares s store made l e = ap (λ m. with_store m (sharing s l)) e

pub keeps : (s : Shared) (store : Store) (l : Local) → store_of store ≡ store_of s.store → sharing (record s { store = store }) l ≡ sharing s l
keeps s store l e = ap (λ m. with_store m (sharing s l)) e

-- an effect that is none on frames or activations
pub quiet_by : (e : Effect) → ((a : Alive) (b : Spot) → e ≡ effect.LivesAt a b → ⊥) → ((a : ℕ) (b : Alive) → e ≡ effect.LivesInFull a b → ⊥) → ((a : Alive) (b : Spot) → e ≡ effect.Stands a b → ⊥) → ((a : ℕ) (b : Alive) (c : Spot) → e ≡ effect.IsBorn a b c → ⊥) → (e ≡ effect.FieldMade → ⊥) → (e ≡ effect.Reached → ⊥) → ((a : List Frame) (b : List StoredObject) (c : Activation) → e ≡ effect.Enters a b c → ⊥) → (e ≡ effect.Returns → ⊥) → ((a : ℕ) (b : Kind) (c : Wake) → e ≡ effect.Wakes a b c → ⊥) → ((a b : ℕ) (c : List Frame) (d : Activation) → e ≡ effect.Suspends a b c d → ⊥) → ((a : ℕ) (b : List (Option ℕ)) (c : Vec Frame) → e ≡ effect.Escapes a b c → ⊥) → IsQuiet e
quiet_by (effect.LivesAt a b) lives in_full stands born field reached enters returns wakes suspends escapes = lives a b refl
quiet_by (effect.LivesInFull a b) lives in_full stands born field reached enters returns wakes suspends escapes = in_full a b refl
quiet_by (effect.Stands a b) lives in_full stands born field reached enters returns wakes suspends escapes = stands a b refl
quiet_by (effect.IsBorn a b c) lives in_full stands born field reached enters returns wakes suspends escapes = born a b c refl
quiet_by effect.FieldMade lives in_full stands born field reached enters returns wakes suspends escapes = field refl
quiet_by effect.Reached lives in_full stands born field reached enters returns wakes suspends escapes = reached refl
quiet_by (effect.Enters a b c) lives in_full stands born field reached enters returns wakes suspends escapes = enters a b c refl
quiet_by effect.Returns lives in_full stands born field reached enters returns wakes suspends escapes = returns refl
quiet_by (effect.Wakes a b c) lives in_full stands born field reached enters returns wakes suspends escapes = wakes a b c refl
quiet_by (effect.Suspends a b c d) lives in_full stands born field reached enters returns wakes suspends escapes = suspends a b c d refl
quiet_by (effect.Escapes a b c) lives in_full stands born field reached enters returns wakes suspends escapes = escapes a b c refl
quiet_by e lives in_full stands born field reached enters returns wakes suspends escapes = tt

-- the newest of the exceptions that are handled
pub newest_handled : (xs ys zs : List Thrown) (v : Thrown) → ys ≡ xs → zs ≡ ys ++ v ∷ [] → reverse zs ≡ v ∷ reverse xs
newest_handled xs ys zs v same more = ap reverse more ∙ reverse-append ys (v ∷ []) ∙ ap (λ list. v ∷ reverse list) same

-- ---- a promise

kept_coroutine : (s mid : Shared) (top now : Activation) (fs : List meaning.Frame) (l : Local) (slot : ℕ) (o : StoredObject) → seeing mid now fs l ≡ added slot (object_of o) (seeing s top fs l) → top.coroutine ≡ now.coroutine
kept_coroutine s mid top now fs l slot o made = sym (ap (λ m. m.top.coroutine) made)

pub promises : (s mid t : Shared) (top now : Activation) (fs : List meaning.Frame) (l : Local) (slot number : ℕ) (o : StoredObject) → ((m : Local) → sharing t m ≡ promised_by number (sharing mid m) now.coroutine) → seeing mid now fs l ≡ added slot (object_of o) (seeing s top fs l) → number ≡ length s.store.objects.items → seeing t now fs l ≡ effected (effect.AddsPromise slot o) (seeing s top fs l)
promises s mid t top now fs l slot number o set made numbers =
    set (record l { top = top_of now fs }) ∙ ap (λ m. promised_by number m now.coroutine) made ∙ ap (λ k. promised_by k (added slot (object_of o) (seeing s top fs l)) now.coroutine) (numbers ∙ sym (length-map s.store.objects.items object_of)) ∙ ap (promised_by (next_object (store_of s.store)) (added slot (object_of o) (seeing s top fs l))) (sym (kept_coroutine s mid top now fs l slot o made))

-- an event is seen whatever the activations below are
pub noted_below : (e : Option Event) (l : Local) (below : List meaning.Activation) → record (noted e l) { below = below } ≡ noted e (record l { below = below })
noted_below None l below = refl
noted_below (Some e) l below = refl
