-- How the births and the deaths of the objects of a run balance.
use Rattle.std.specs.Prelude.{ℕ, List}
use Rattle.co_meaning_data.specs.Turn.{Program}
use Rattle.co_meaning_data.specs.declared.events.Move.{Move}
use Rattle.co_meaning.specs.Balanced.{IsBalanced}
use Rattle.co_meaning.specs.Runs.{runs}

-- In every run, whatever its moves, each object is born at most once, dies at most once and only after its birth, and before a coroutine
-- ends each object that was born in it has died.
abbrev pub RunsBalance : Type 0
RunsBalance = (p : Program) (more : ℕ) (moves : List Move) → IsBalanced (runs p more moves).events
