-- How a full-expression is opened where an effect comes first.
use Rattle.std.specs.Prelude.{List, Option}
use Rattle.co_core_tree.specs.Acts.{Act}
use Rattle.co_core_tree.specs.Slots.{temporaries}
use Rattle.co_eval_data.specs.Agents.{task_of}
use Rattle.co_eval_data.specs.Changed.{all_pushed, effected}
use Rattle.co_eval_data.specs.Seen.{frames_of}
use Rattle.co_eval_data.specs.declared.agents.Task.{Task}
use Rattle.co_eval_data.specs.declared.changes.Effect.{Effect}
use Rattle.co_eval_data.specs.declared.frames.Frame.{Frame}
use Rattle.co_meaning_calls.specs.Calls.{opens_with, unmade_all}
use Rattle.co_meaning_data.specs.Frames as meaning
use Rattle.co_meaning_data.specs.Turn.{Local, Turned, func_of}

-- the temporaries of a full-expression with these acts in the function of the agent: none is made, and the last stands first
abbrev pub unmade_here : List Act → Local → List meaning.Temporal
unmade_here list l = unmade_all (func_of l) (temporaries list)

-- The step that has this effect, leaves the outer frames, a full-expression with these acts and in it the inner frames, and goes
-- on in it with the task [intro.execution].
abbrev pub opens_after : List Act → Effect → List Frame → List Frame → Task → Local → Option Turned
opens_after list e outer inner t l = opens_with (unmade_here list l) (frames_of inner) (task_of t) (all_pushed outer (effected e l))
