-- What becomes of all coroutines, and of the activations, where one goes on.
use Rattle.std.specs.Prelude.{◌≡◌, ℕ, zero, suc, List, [], ◌∷◌, map, slice_get, slice_set, Some, None}
use Rattle.std.proofs.Common.{refl, ap, sym, ◌∙◌}
use Rattle.std.proofs.lemmas.List.{map-set}
use Rattle.std.proofs.lemmas.Option.{slice_get-map}
use Rattle.co_eval_data.specs.Agents as seen
use Rattle.co_eval_data.specs.Agents.{condition_of, coroutine_of, kind_of, shared_of}
use Rattle.co_eval_data.specs.Changed.{continuation_in, effected, serial_after, stands_as, woken}
use Rattle.co_eval_data.specs.declared.agents.Activation.{Activation}
use Rattle.co_eval_data.specs.declared.agents.Coroutine.{Coroutine}
use Rattle.co_eval_data.specs.declared.agents.Kind.{Kind}
use Rattle.co_eval_data.specs.declared.agents.Shared.{Shared}
use Rattle.co_eval_data.specs.declared.changes.Effect.TheVariants as effect
use Rattle.co_eval_data.specs.declared.changes.Wake.{Wake}
use Rattle.co_meaning_calls.specs.Coroutines.{activation_of, coroutines, set_condition}
use Rattle.co_meaning_data.specs.Frames.{Running}
use Rattle.co_meaning_data.specs.Turn.{Local}
use Rattle.co_meaning_data.specs.Undefined.{numbered}
use Rattle.co_eval_commit.specs.InPlace.{sharing}
use Rattle.co_eval_commit.proofs.Numbered.{with_all}

-- an item is set to one that is seen as the same
pub set_same : {A B : Type 0} (f : A → B) (xs : List A) (at : ℕ) (x y : A) → slice_get xs at ≡ Some x → f y ≡ f x → map f (slice_set xs at y) ≡ map f xs
set_same f [] at x y e same = refl
set_same f (z ∷ xs) zero x y e same = let h : z ≡ x = cc in ap (λ b. b ∷ map f xs) (same ∙ ap f (sym h))
set_same f (z ∷ xs) (suc at) x y e same = ap (λ l. f z ∷ l) (set_same f xs at x y e same)

pub kept : (s : Shared) (l : Local) (at : ℕ) (c d : Coroutine) → slice_get s.coroutines.items at ≡ Some c → coroutine_of d ≡ coroutine_of c → with_all s (slice_set s.coroutines.items at d) l ≡ sharing s l
kept s l at c d e same = ap (λ cs. record l { shared = record (shared_of s) { coroutines = cs } }) (set_same coroutine_of s.coroutines.items at c d e same)

pub none_woken : (s : Shared) (l : Local) (n at : ℕ) (k : Kind) (place : Wake) → n ≡ suc at → slice_get s.coroutines.items at ≡ None → sharing s l ≡ effected (effect.Wakes n k place) (sharing s l)
none_woken s l n at k place is e = rw (is, slice_get-map, e) refl

pub zero_woken : (s : Shared) (l : Local) (n : ℕ) (k : Kind) (place : Wake) → n ≡ 0 → sharing s l ≡ effected (effect.Wakes n k place) (sharing s l)
zero_woken s l n k place is = rw is refl

runs_now : (s : Shared) (l : Local) (n at : ℕ) (c d : Coroutine) → n ≡ suc at → slice_get s.coroutines.items at ≡ Some c → coroutine_of d ≡ record (coroutine_of c) { condition = Running (serial_after (condition_of c.condition)) } → with_all s (slice_set s.coroutines.items at d) l ≡ set_condition n (Running (serial_after (condition_of c.condition))) (sharing s l)
runs_now s l n at c d is e runs = rw (is, slice_get-map, e, map-set) (ap (λ k. record l { shared = record (shared_of s) { coroutines = slice_set (map coroutine_of s.coroutines.items) at k } }) runs)

found : (s : Shared) (l : Local) (n at : ℕ) (c : Coroutine) → n ≡ suc at → slice_get s.coroutines.items at ≡ Some c → numbered (coroutines (sharing s l)) n ≡ Some (coroutine_of c)
found s l n at c is e = rw (is, slice_get-map, e) refl

pub woken_at : (s : Shared) (l : Local) (n at : ℕ) (c d : Coroutine) (a : Activation) (k : Kind) (place : Wake) → n ≡ suc at → slice_get s.coroutines.items at ≡ Some c → coroutine_of d ≡ record (coroutine_of c) { condition = Running (serial_after (condition_of c.condition)) } → seen.activation_of a ≡ activation_of (kind_of k) n (coroutine_of c) (continuation_in (condition_of c.condition)) → stands_as place (seen.activation_of a) (with_all s (slice_set s.coroutines.items at d) l) ≡ effected (effect.Wakes n k place) (sharing s l)
woken_at s l n at c d a k place is e runs wakes =
    ap (λ x. stands_as place x (with_all s (slice_set s.coroutines.items at d) l)) wakes ∙ ap (λ x. stands_as place (activation_of (kind_of k) n (coroutine_of c) (continuation_in (condition_of c.condition))) x) (runs_now s l n at c d is e runs) ∙ ap (woken n (kind_of k) place (sharing s l)) (sym (found s l n at c is e))
