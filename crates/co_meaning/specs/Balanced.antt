-- When the births and the deaths of objects balance.
use Rattle.std.specs.Prelude.{ℕ, suc, ◌≡◌, ◌≤◌, ◌==◌, ◌&&◌, if◌then◌else◌, List, [], ◌∷◌, ◌++◌}
use Rattle.co_meaning_data.specs.declared.events.Event.{Event}
use Rattle.co_meaning_data.specs.declared.events.Event.TheVariants as event

-- how often the object is born
abbrev pub births : ℕ → List Event → ℕ
births x [] = 0
births x (event.Born c y ∷ events) = if x == y then suc (births x events) else births x events
births x (e ∷ events) = births x events

-- how often it dies
abbrev pub deaths : ℕ → List Event → ℕ
deaths x [] = 0
deaths x (event.Died c y ∷ events) = if x == y then suc (deaths x events) else deaths x events
deaths x (e ∷ events) = deaths x events

-- how often it is born as an object of this coroutine
abbrev pub births_in : ℕ → ℕ → List Event → ℕ
births_in c x [] = 0
births_in c x (event.Born d y ∷ events) = if (c == d) && (x == y) then suc (births_in c x events) else births_in c x events
births_in c x (e ∷ events) = births_in c x events

-- Each object is born at most once, and dies at most once and only after its birth. Before a coroutine ends each object that was
-- born in it has died.
pub record IsBalanced (events : List Event) : Type 0 where
  pub once : (x : ℕ) → births x events ≤ 1
  pub after : (before rest : List Event) → events ≡ before ++ rest → (x : ℕ) → deaths x before ≤ births x before
  pub ended : (before rest : List Event) (c : ℕ) → events ≡ before ++ event.Ended c ∷ rest → (x : ℕ) → births_in c x before ≤ deaths x before
