-- How contracts see shared words, a pass, and the words held through a pass.
use Rattle.std.specs.Prelude.{◌≡◌, ℕ, List}
use Rattle.atomic_table.specs.Seated.{TableId}
use Rattle.co_words.specs.declared.access.Access.{Access}
use Rattle.co_shared.specs.declared.told.Told.{Told}
use Rattle.co_shared.specs.Passes.{did}

-- which words, and what they were at the start
pub record Ground : Type 0 where
  pub id : TableId
  pub opening : List ℕ

-- whose pass, and what it has told
pub record Sight : Type 0 where
  pub id : TableId
  pub told : Told

pub record Grip : Type 0 where
  pub ground : Ground
  pub pass : Sight

abbrev pub sight : TableId → Told → Sight
sight id t = record { id = id; told = t }

-- the access a joined the pass's list with the word r that it found
abbrev pub advanced : Sight → Access → ℕ → Sight
advanced p a r = sight p.id (did p.told a r)

-- the access a through the pass answered r
abbrev pub Steps : Grip → Access → ℕ → Grip → Type 0
Steps h a r k = (k.ground ≡ h.ground) × (k.pass ≡ advanced h.pass a r)

-- the pass p later, which split off and took in none since
abbrev pub IsLater : Sight → Sight → Type 0
IsLater p q = (q.id ≡ p.id) × (q.told.number ≡ p.told.number) × (q.told.splits ≡ p.told.splits) × (q.told.ended ≡ p.told.ended)
