-- What becomes of temporaries where the first one of a slot is changed.
use Rattle.std.specs.Prelude.{◌≡◌, ℕ, zero, suc, ◌==◌, Bool, true, false, List, [], ◌∷◌, map, take, slice_get, slice_set, Option, Some, None}
use Rattle.std.specs.Option.{option_map}
use Rattle.std.proofs.Common.{refl, ap, ◌∙◌}
use Rattle.co_eval_data.specs.Seen.{alive_of, temporal_of}
use Rattle.co_eval_data.specs.declared.frames.Alive.{Alive}
use Rattle.co_eval_data.specs.declared.frames.Temporal.{Temporal}
use Rattle.co_meaning_calls.specs.Objects.{live_temporaries, made_of, made_temporaries}
use Rattle.co_meaning_data.specs.Frames as meaning
use Rattle.co_eval_commit.specs.Temporaries.{AreOthers}

pub live_at : (slot : ℕ) (ts : List Temporal) (at : ℕ) (t : Temporal) → slice_get ts at ≡ Some t → (t.slot == slot) ≡ true → AreOthers slot (take at ts) → map temporal_of (slice_set ts at (record t { live = true })) ≡ live_temporaries slot (map temporal_of ts)
live_at slot [] at t e is others = cc
live_at slot (u ∷ ts) zero t e is others = let h : u ≡ t = cc in rw (h, is) refl
live_at slot (u ∷ ts) (suc at) t e is others = rw others.0 (ap (λ l. temporal_of u ∷ l) (live_at slot ts at t e is others.1))

pub none_live : (slot : ℕ) (ts : List Temporal) → AreOthers slot ts → map temporal_of ts ≡ live_temporaries slot (map temporal_of ts)
none_live slot [] others = refl
none_live slot (t ∷ ts) others = rw others.0 (ap (λ l. temporal_of t ∷ l) (none_live slot ts others.1))

-- one more of the temporaries is not that of the slot
pub one_more : (slot : ℕ) (ts : List Temporal) (at : ℕ) (t : Temporal) → slice_get ts at ≡ Some t → (t.slot == slot) ≡ false → AreOthers slot (take at ts) → AreOthers slot (take (suc at) ts)
one_more slot [] at t e is others = tt
one_more slot (u ∷ ts) zero t e is others = let h : u ≡ t = cc in (rw h is, tt)
one_more slot (u ∷ ts) (suc at) t e is others = (others.0, one_more slot ts at t e is others.1)

-- ---- a temporary gets its object

pub made_at : (slot : ℕ) (x : Alive) (ts : List Temporal) (at : ℕ) (t : Temporal) → slice_get ts at ≡ Some t → (t.slot == slot) ≡ true → AreOthers slot (take at ts) → t.object ≡ None → made_temporaries slot (alive_of x) (map temporal_of ts) ≡ Some (map temporal_of (slice_set ts at (record t { object = Some x })))
made_at slot x [] at t e is others none = cc
made_at slot x (u ∷ ts) zero t e is others none = let h : u ≡ t = cc in rw (h, is, none) refl
made_at slot x (u ∷ ts) (suc at) t e is others none = rw others.0 (ap (option_map (λ us. temporal_of u ∷ us)) (made_at slot x ts at t e is others.1 none))

pub made_once : (slot : ℕ) (x y : Alive) (ts : List Temporal) (at : ℕ) (t : Temporal) → slice_get ts at ≡ Some t → (t.slot == slot) ≡ true → AreOthers slot (take at ts) → t.object ≡ Some y → made_temporaries slot (alive_of x) (map temporal_of ts) ≡ None
made_once slot x y [] at t e is others some = cc
made_once slot x y (u ∷ ts) zero t e is others some = let h : u ≡ t = cc in rw (h, is, some) refl
made_once slot x y (u ∷ ts) (suc at) t e is others some = rw others.0 (ap (option_map (λ us. temporal_of u ∷ us)) (made_once slot x y ts at t e is others.1 some))

pub none_made : (slot : ℕ) (x : Alive) (ts : List Temporal) → AreOthers slot ts → made_temporaries slot (alive_of x) (map temporal_of ts) ≡ None
none_made slot x [] others = refl
none_made slot x (t ∷ ts) others = rw others.0 (ap (option_map (λ us. temporal_of t ∷ us)) (none_made slot x ts others.1))

-- ---- a temporary that gets its object and is live

live_under : (t : meaning.Temporal) (ts : List meaning.Temporal) (slot : ℕ) → (t.slot == slot) ≡ false → live_temporaries slot (t ∷ ts) ≡ t ∷ live_temporaries slot ts
live_under t ts slot e = rw e refl

live_made : (slot : ℕ) (x : meaning.Alive) (t : meaning.Temporal) (ts : List meaning.Temporal) (o : Option meaning.Alive) → (t.slot == slot) ≡ true → made_of x (record t { live = true }) ts o ≡ option_map (live_temporaries slot) (made_of x t ts o)
live_made slot x t ts None e = rw e refl
live_made slot x t ts (Some y) e = refl

mapped_twice : (slot : ℕ) (t : meaning.Temporal) (us : Option (List meaning.Temporal)) → (t.slot == slot) ≡ false → option_map (λ l. t ∷ l) (option_map (live_temporaries slot) us) ≡ option_map (live_temporaries slot) (option_map (λ l. t ∷ l) us)
mapped_twice slot t None e = refl
mapped_twice slot t (Some us) e = rw e refl

here_or_later : (slot : ℕ) (x : meaning.Alive) (t : meaning.Temporal) (ts : List meaning.Temporal) (b : Bool) → (t.slot == slot) ≡ b → made_temporaries slot x (live_temporaries slot ts) ≡ option_map (live_temporaries slot) (made_temporaries slot x ts) → made_temporaries slot x (live_temporaries slot (t ∷ ts)) ≡ option_map (live_temporaries slot) (made_temporaries slot x (t ∷ ts))
here_or_later slot x t ts true e later = rw (e, e) (live_made slot x t ts t.object e)
here_or_later slot x t ts false e later = rw (e, e) (ap (option_map (λ l. t ∷ l)) later ∙ mapped_twice slot t (made_temporaries slot x ts) e)

-- a live temporary gets its object as one that is not live does
pub made_live : (slot : ℕ) (x : meaning.Alive) (ts : List meaning.Temporal) → made_temporaries slot x (live_temporaries slot ts) ≡ option_map (live_temporaries slot) (made_temporaries slot x ts)
made_live slot x [] = refl
made_live slot x (t ∷ ts) = here_or_later slot x t ts (t.slot == slot) refl (made_live slot x ts)
