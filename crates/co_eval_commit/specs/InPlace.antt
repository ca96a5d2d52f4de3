-- What an agent sees while a change is made in place.
use Rattle.std.specs.Prelude.{ℕ, Bool, true, false, List, [], reverse, Option, None, Some, ⊤}
use Rattle.co_base.specs.declared.kinds.Thrown.{Thrown}
use Rattle.co_eval_data.specs.Agents.{activations_of, program_of, shared_of, top_of}
use Rattle.co_eval_data.specs.declared.agents.Activation.{Activation}
use Rattle.co_eval_data.specs.declared.agents.Agent.{Agent}
use Rattle.co_eval_data.specs.declared.agents.Shared.{Shared}
use Rattle.co_eval_data.specs.declared.changes.Effect.{Effect}
use Rattle.co_eval_data.specs.declared.changes.Effect.TheVariants as effect
use Rattle.co_eval_data.specs.declared.here.Program.{Program}
use Rattle.co_meaning_data.specs.Frames as meaning
use Rattle.co_meaning_data.specs.Turn.{Local, happens}
use Rattle.co_meaning_data.specs.declared.events.Event.{Event}
use Rattle.co_meaning_data.specs.declared.events.Event.TheVariants as event

-- what it sees where all agents share this
abbrev pub sharing : Shared → Local → Local
sharing shared l = record l { shared = shared_of shared }

-- its newest activation has the slots of the coroutine
abbrev pub of_coroutine : ℕ → Local → Local
of_coroutine n l = record l { top = record l.top { coroutine = Some n } }

-- what it sees where it handles these exceptions
abbrev pub handling : List Thrown → Local → Local
handling handled l = record l { handled = reverse handled }

-- what it sees where its newest activation is this one, with these frames
abbrev pub topped : Activation → List meaning.Frame → Local → Local
topped a fs l = record l { top = top_of a fs }

-- what it sees where all agents share this and its newest activation is this one, with these frames
abbrev pub seeing : Shared → Activation → List meaning.Frame → Local → Local
seeing shared a fs l = record l { shared = shared_of shared; top = top_of a fs }

-- the same, where the activations below that one are these
abbrev pub seeing_all : Shared → Activation → List meaning.Frame → List Activation → Local → Local
seeing_all shared a fs below l = record l { shared = shared_of shared; top = top_of a fs; below = activations_of below }

-- the same of an agent of that number that handles these exceptions
abbrev pub sees : ℕ → Shared → List Thrown → Activation → List meaning.Frame → Local → Local
sees worker shared handled a fs l = record l { worker = worker; shared = shared_of shared; handled = reverse handled; top = top_of a fs }

-- the same, where the activations below that one are these
abbrev pub sees_all : ℕ → Shared → List Thrown → Activation → List meaning.Frame → List Activation → Local → Local
sees_all worker shared handled a fs below l = record l { worker = worker; shared = shared_of shared; handled = reverse handled; top = top_of a fs; below = activations_of below }

-- the event was seen, if there is one
abbrev pub noted : Option Event → Local → Local
noted None l = l
noted (Some e) l = happens e l

-- the event of an effect of the agent of a number
abbrev pub event_of : ℕ → Effect → Option Event
event_of worker (effect.Happens e) = Some e
event_of worker (effect.IsUndefined kind at) = Some (event.Undefined worker kind at)
event_of worker (effect.IsUncaught v) = Some (event.Uncaught worker v)
event_of worker (effect.IsBorn c x spot) = Some (event.Born c x.object)
event_of worker e = None

-- the effect leaves the frames and the activations as they are
abbrev pub IsQuiet : Effect → Type 0
IsQuiet (effect.LivesAt x spot) = ⊥
IsQuiet (effect.LivesInFull slot x) = ⊥
IsQuiet (effect.Stands x spot) = ⊥
IsQuiet (effect.IsBorn c x spot) = ⊥
IsQuiet effect.FieldMade = ⊥
IsQuiet effect.Reached = ⊥
IsQuiet (effect.Enters fs objects a) = ⊥
IsQuiet effect.Returns = ⊥
IsQuiet (effect.Wakes n k place) = ⊥
IsQuiet (effect.Suspends n point fs a) = ⊥
IsQuiet (effect.Escapes n slots fs) = ⊥
IsQuiet e = ⊤

-- what an agent of that number with these activations sees in a step
abbrev pub local_at : Program → ℕ → Shared → Agent → meaning.Activation → List meaning.Activation → Local
local_at program worker shared agent top below =
    record {
      program = program_of program;
      worker = worker;
      shared = shared_of shared;
      handled = reverse agent.handled.items;
      top = top;
      below = below;
      seen = [];
    }

-- the agent has nothing more to do after the effect
abbrev pub rests_after : Effect → Bool
rests_after effect.Rests = true
rests_after (effect.RestsAfterMain z) = true
rests_after e = false
