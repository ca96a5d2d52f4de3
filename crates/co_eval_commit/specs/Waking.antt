-- What a coroutine has left to be done, and its activation when it goes on.
use Rattle.std.specs.Prelude.{ℕ, ◌+◌, ◌≤◌, Option, None, Some, ⊤}
use Rattle.std.specs.Vec.{vec_len, vec_capacity}
use Rattle.co_eval_data.specs.Agents.{activation_of}
use Rattle.co_eval_data.specs.Changed.{stands_as}
use Rattle.co_eval_data.specs.declared.agents.Activation.{Activation}
use Rattle.co_eval_data.specs.declared.agents.Condition.{Condition}
use Rattle.co_eval_data.specs.declared.agents.Condition.TheVariants as condition
use Rattle.co_eval_data.specs.declared.changes.Wake.{Wake}
use Rattle.co_meaning_data.specs.Turn.{Local}

-- there is room for so many more frames in what is left to be done
abbrev pub HasRoom : ℕ → Condition → Type 0
HasRoom more (condition.Suspended point serial rest) = vec_len rest.frames + more ≤ vec_capacity rest.frames
HasRoom more (condition.Final point serial rest) = vec_len rest.frames + more ≤ vec_capacity rest.frames
HasRoom more c = ⊤

-- the activation stands there, if there is one
abbrev pub woken_as : Wake → Option Activation → Local → Local
woken_as place None l = l
woken_as place (Some a) l = stands_as place (activation_of a) l
