-- The lowest activation of an agent, after which it rests.
use Rattle.std.specs.Prelude.{Bool, true, false, List, [], ◌∷◌, None}
use Rattle.co_eval_data.specs.declared.agents.Task.TheVariants as task
use Rattle.co_eval_data.specs.declared.changes.Change.{Change}
use Rattle.co_eval_data.specs.declared.changes.Effect.{Effect}
use Rattle.co_meaning_data.specs.Frames.{Activation, Kind, OfFunction}

abbrev pub is_lowest : List Activation → Bool
is_lowest [] = true
is_lowest (a ∷ below) = false

abbrev pub is_of_function : Kind → Bool
is_of_function OfFunction = true
is_of_function k = false

-- the change that has this effect and leaves nothing more to do
abbrev pub resting : Effect → Change
resting e = record { taken = 0; effect = e; frames = []; doing = record { opens = None; task = task.Idle } }
