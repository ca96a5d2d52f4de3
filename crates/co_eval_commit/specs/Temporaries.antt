-- The first temporary of a slot.
use Rattle.std.specs.Prelude.{◌≡◌, ℕ, ◌==◌, true, false, List, [], ◌∷◌, take, slice_get, slice_set, Option, None, Some, ⊤}
use Rattle.co_eval_data.specs.declared.frames.Alive.{Alive}
use Rattle.co_eval_data.specs.declared.frames.Temporal.{Temporal}

-- none of the temporaries is that of the slot
abbrev pub AreOthers : ℕ → List Temporal → Type 0
AreOthers slot [] = ⊤
AreOthers slot (t ∷ ts) = ((t.slot == slot) ≡ false) × AreOthers slot ts

-- the temporary of that number is the first one of the slot
abbrev pub IsFirst : ℕ → List Temporal → Option ℕ → Type 0
IsFirst slot ts None = AreOthers slot ts
IsFirst slot ts (Some at) = (t : Temporal) × (slice_get ts at ≡ Some t) × ((t.slot == slot) ≡ true) × AreOthers slot (take at ts)

-- the temporaries where this one of that number gets its object, which is made once
abbrev pub made_once : Alive → List Temporal → ℕ → Temporal → Option Alive → Option (List Temporal)
made_once x ts at t None = Some (slice_set ts at (record t { object = Some x }))
made_once x ts at t (Some y) = None
