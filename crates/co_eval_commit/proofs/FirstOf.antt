-- The first temporary of a slot, which is found.
use Rattle.std.specs.Prelude.{◌≡◌, ℕ, ◌==◌, true, List, map, take, slice_get, slice_set, Option, Some, None}
use Rattle.std.specs.Option.{option_map}
use Rattle.std.proofs.Common.{ap, refl, sym, ◌∙◌}
use Rattle.co_eval_data.specs.Seen.{alive_of, temporal_of}
use Rattle.co_eval_data.specs.declared.frames.Alive.{Alive}
use Rattle.co_eval_data.specs.declared.frames.Temporal.{Temporal}
use Rattle.co_meaning_calls.specs.Objects.{live_temporaries, made_temporaries}
use Rattle.co_eval_commit.specs.Temporaries as first
use Rattle.co_eval_commit.specs.Temporaries.{AreOthers, IsFirst}
use Rattle.co_eval_commit.proofs.Slots.{live_at, made_at, made_once}

-- where none is found none is there
pub none_first : (slot : ℕ) (ts : List Temporal) (r : Option ℕ) → IsFirst slot ts r → r ≡ None → AreOthers slot ts
none_first slot ts None found is = found
none_first slot ts (Some at) found is = cc

pub live_found : (slot : ℕ) (ts : List Temporal) (at : ℕ) (t : Temporal) → IsFirst slot ts (Some at) → slice_get ts at ≡ Some t → map temporal_of (slice_set ts at (record t { live = true })) ≡ live_temporaries slot (map temporal_of ts)
live_found slot ts at t found e =
    let same : found.0 ≡ t = cc in
    live_at slot ts at t e (ap (λ (u : Temporal). u.slot == slot) (sym same) ∙ found.2) found.3

made_here : (slot : ℕ) (x : Alive) (ts : List Temporal) (at : ℕ) (t : Temporal) (o : Option Alive) → slice_get ts at ≡ Some t → (t.slot == slot) ≡ true → AreOthers slot (take at ts) → t.object ≡ o → made_temporaries slot (alive_of x) (map temporal_of ts) ≡ option_map (map temporal_of) (first.made_once x ts at t o)
made_here slot x ts at t None e is others object = made_at slot x ts at t e is others object
made_here slot x ts at t (Some y) e is others object = made_once slot x y ts at t e is others object

pub made_found : (slot : ℕ) (x : Alive) (ts : List Temporal) (at : ℕ) (t : Temporal) (made : Option (List Temporal)) → IsFirst slot ts (Some at) → slice_get ts at ≡ Some t → made ≡ first.made_once x ts at t t.object → made_temporaries slot (alive_of x) (map temporal_of ts) ≡ option_map (map temporal_of) made
made_found slot x ts at t made found e makes =
    let same : found.0 ≡ t = cc in
    made_here slot x ts at t t.object e (ap (λ (u : Temporal). u.slot == slot) (sym same) ∙ found.2) found.3 refl ∙ ap (option_map (map temporal_of)) (sym makes)
