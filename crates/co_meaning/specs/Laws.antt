-- What holds of every step and of every run.
use Rattle.std.specs.Prelude.{ℕ, ◌≡◌, ◌≢◌, ◌++◌, true, List, None, Some, slice_get}
use Rattle.co_meaning_data.specs.declared.events.Event.{Event}
use Rattle.co_meaning_data.specs.declared.events.Move.{Move}
use Rattle.co_meaning_data.specs.declared.events.Move.TheVariants as move
use Rattle.co_meaning_data.specs.Frames.{Config}
use Rattle.co_meaning_data.specs.Turn.{Program}
use Rattle.co_meaning.specs.Runs.{runs_from, step}

-- the agent whose move it is
abbrev pub mover : Move → ℕ
mover (move.Go w) = w
mover (move.Take w i) = w
mover (move.Cut w) = w

-- After an undefined act there is no move, and a run stays as it is.
pub record EndsUndefined : Type 0 where
  pub no_move : (p : Program) (c : Config) (m : Move) → c.shared.undefined ≡ true → step p c m ≡ None
  pub stays : (p : Program) (c : Config) (moves : List Move) → c.shared.undefined ≡ true → runs_from p c moves ≡ c

-- A move of one agent leaves the activations of the others, what they do and the exceptions that they handle.
abbrev pub LeavesOthers : Type 0
LeavesOthers = (p : Program) (c d : Config) (m : Move) → step p c m ≡ Some d → (v : ℕ) → v ≢ mover m → slice_get d.agents v ≡ slice_get c.agents v

-- What was seen stays seen: a run adds events at the end.
abbrev pub EventsGrow : Type 0
EventsGrow = (p : Program) (c : Config) (moves : List Move) → (more : List Event) × ((runs_from p c moves).events ≡ c.events ++ more)

-- A run may be parted at each move.
abbrev pub RunsJoin : Type 0
RunsJoin = (p : Program) (c : Config) (first rest : List Move) → runs_from p c (first ++ rest) ≡ runs_from p (runs_from p c first) rest
