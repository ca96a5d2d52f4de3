-- What becomes of all coroutines where one is changed.
use Rattle.std.specs.Prelude.{◌≡◌, ℕ, suc, List, map, slice_get, slice_set, Some, None}
use Rattle.std.proofs.Common.{refl}
use Rattle.std.proofs.lemmas.List.{map-set}
use Rattle.std.proofs.lemmas.Option.{slice_get-map}
use Rattle.co_eval_data.specs.Agents.{condition_of, coroutine_of, shared_of}
use Rattle.co_eval_data.specs.declared.agents.Condition.{Condition}
use Rattle.co_eval_data.specs.declared.agents.Coroutine.{Coroutine}
use Rattle.co_eval_data.specs.declared.agents.Shared.{Shared}
use Rattle.co_meaning_calls.specs.Coroutines.{promised_by, set_condition}
use Rattle.co_meaning_data.specs.Turn.{Local}
use Rattle.co_eval_commit.specs.InPlace.{sharing}

-- all share this, with these coroutines
abbrev pub with_all : Shared → List Coroutine → Local → Local
with_all s cs l = record l { shared = record (shared_of s) { coroutines = map coroutine_of cs } }

pub conditioned : (s : Shared) (l : Local) (n at : ℕ) (c : Coroutine) (now : Condition) → n ≡ suc at → slice_get s.coroutines.items at ≡ Some c → with_all s (slice_set s.coroutines.items at (record c { condition = now })) l ≡ set_condition n (condition_of now) (sharing s l)
conditioned s l n at c now is e = rw (is, slice_get-map, e, map-set) refl

pub none_conditioned : (s : Shared) (l : Local) (n at : ℕ) (now : Condition) → n ≡ suc at → slice_get s.coroutines.items at ≡ None → sharing s l ≡ set_condition n (condition_of now) (sharing s l)
none_conditioned s l n at now is e = rw (is, slice_get-map, e) refl

pub promised : (s : Shared) (l : Local) (n at : ℕ) (c : Coroutine) (x : ℕ) → n ≡ suc at → slice_get s.coroutines.items at ≡ Some c → with_all s (slice_set s.coroutines.items at (record c { promise = Some x })) l ≡ promised_by x (sharing s l) (Some n)
promised s l n at c x is e = rw (is, slice_get-map, e, map-set) refl
