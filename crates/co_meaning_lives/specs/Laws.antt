-- How the objects of a run are born and die.
use Rattle.std.specs.Prelude.{ℕ, ◌≡◌, ◌≤◌, ◌++◌, List}
use Rattle.co_meaning_data.specs.Turn.{Program}
use Rattle.co_meaning_data.specs.declared.events.Event.{Event}
use Rattle.co_meaning_data.specs.declared.events.Move.{Move}
use Rattle.co_meaning.specs.Balanced.{births, deaths}
use Rattle.co_meaning.specs.Runs.{runs}

-- In every run, whatever its moves, each object is born at most once, dies at most once, and dies only after its birth [basic.life].
pub record LivesOnce : Type 0 where
  pub born : (p : Program) (more : ℕ) (moves : List Move) (x : ℕ) → births x (runs p more moves).events ≤ 1
  pub dead : (p : Program) (more : ℕ) (moves : List Move) (x : ℕ) → deaths x (runs p more moves).events ≤ 1
  pub after : (p : Program) (more : ℕ) (moves : List Move) (before rest : List Event) → (runs p more moves).events ≡ before ++ rest → (x : ℕ) → deaths x before ≤ births x before
