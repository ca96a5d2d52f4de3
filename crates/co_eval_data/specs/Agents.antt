-- What the agents and the coroutines of the runner are in the meaning, and what an agent sees in a step.
use Rattle.std.specs.Prelude.{ℕ, ◌≡◌, List, [], map, reverse, get_or, Option, None, Some}
use Rattle.co_base.specs.declared.ids.ClassId.{ClassId}
use Rattle.co_core_tree.specs.Sizes.{class_words}
use Rattle.co_eval_data.specs.declared.agents.Activation.{Activation}
use Rattle.co_eval_data.specs.declared.agents.Agent.{Agent}
use Rattle.co_eval_data.specs.declared.agents.Condition.{Condition}
use Rattle.co_eval_data.specs.declared.agents.Condition.TheVariants as condition
use Rattle.co_eval_data.specs.declared.agents.Configuration.{Configuration}
use Rattle.co_eval_data.specs.declared.agents.Continuation.{Continuation}
use Rattle.co_eval_data.specs.declared.agents.Coroutine.{Coroutine}
use Rattle.co_eval_data.specs.declared.agents.Doing.{Doing}
use Rattle.co_eval_data.specs.declared.agents.Kind.{Kind}
use Rattle.co_eval_data.specs.declared.agents.Kind.TheVariants as kind
use Rattle.co_eval_data.specs.declared.agents.Shared.{Shared}
use Rattle.co_eval_data.specs.declared.agents.Task.{Task}
use Rattle.co_eval_data.specs.declared.agents.Task.TheVariants as task
use Rattle.co_eval_data.specs.declared.here.Here.{Here}
use Rattle.co_eval_data.specs.declared.here.Program.{Program}
use Rattle.co_eval_data.specs.declared.stored.Store.{Store}
use Rattle.co_eval_data.specs.declared.stored.StoredBlock.{StoredBlock}
use Rattle.co_eval_data.specs.declared.stored.StoredObject.{StoredObject}
use Rattle.co_eval_data.specs.Seen.{alive_of, frames_of, newest_first, outcome_of, place_if, place_of, spot_of}
use Rattle.co_meaning_data.specs.Frames as meaning
use Rattle.co_meaning_data.specs.Store as stored
use Rattle.co_meaning_data.specs.Turn as turn

-- ---- what is done

abbrev pub task_of : Task → meaning.Doing
task_of task.Idle = meaning.Idle
task_of (task.Evaluate e p) = meaning.Evaluate e.now (place_if p)
task_of (task.Awaits plan p) = meaning.Awaits plan.now (place_if p)
task_of (task.Initialize i p) = meaning.Initialize i.now (place_if p)
task_of (task.Execute s) = meaning.Execute s.now
task_of (task.Reads p left done at) = meaning.Reads (place_of p) left done at
task_of (task.Writes initial p done left o at) = meaning.Writes initial (place_of p) done left (outcome_of o) at
task_of (task.Comes o) = meaning.Comes (outcome_of o)
task_of (task.IsBorn x spot o) = meaning.IsBorn (alive_of x) (spot_of spot) (outcome_of o)
task_of (task.Dies x) = meaning.Dies (alive_of x)
task_of (task.HasDied c x) = meaning.HasDied c x
task_of (task.Draws b) = meaning.Draws b
task_of (task.IsMade c) = meaning.IsMade c
task_of (task.HasEnded c b o) = meaning.HasEnded c b (outcome_of o)
task_of (task.Releases b words give o at) = meaning.Releases b words give (outcome_of o) at

abbrev pub opened : Option ℕ → meaning.Doing → meaning.Doing
opened None d = d
opened (Some marks) d = meaning.Opens marks d

abbrev pub doing_of : Doing → meaning.Doing
doing_of d = opened d.opens (task_of d.task)

-- ---- agents

abbrev pub kind_of : Kind → meaning.Kind
kind_of kind.OfFunction = meaning.OfFunction
kind_of kind.OfRamp = meaning.OfRamp
kind_of kind.OfBody = meaning.OfBody
kind_of kind.OfDestroy = meaning.OfDestroy
kind_of (kind.OfParked c serial a) = meaning.OfParked c serial a

abbrev pub activation_of : Activation → meaning.Activation
activation_of a = record { kind = kind_of a.kind; func = a.func.0; slots = a.slots; coroutine = a.coroutine; into = place_if a.into; frames = frames_of a.frames.items }

abbrev pub activations_of : List Activation → List meaning.Activation
activations_of list = newest_first activation_of list

abbrev pub agent_of : Agent → meaning.Agent
agent_of a = record { doing = doing_of a.doing; activations = activations_of a.activations.items; handled = reverse a.handled.items; halted = a.halted }

-- ---- coroutines

abbrev pub continuation_of : Continuation → meaning.Continuation
continuation_of c = record { slots = c.slots; frames = frames_of c.frames.items }

abbrev pub condition_of : Condition → meaning.Condition
condition_of (condition.Running serial) = meaning.Running serial
condition_of (condition.Suspended point serial rest) = meaning.Suspended point serial (continuation_of rest)
condition_of (condition.Final point serial rest) = meaning.Final point serial (continuation_of rest)
condition_of condition.Over = meaning.Over

abbrev pub coroutine_of : Coroutine → meaning.Coroutine
coroutine_of c = record { func = c.func.0; block = c.block; promise = c.promise; condition = condition_of c.condition }

-- ---- objects and blocks

abbrev pub object_of : StoredObject → stored.StoredObject
object_of o = record { of = o.of.now; cells = o.cells; lifetime = o.lifetime; block = o.block; coroutine = o.coroutine }

abbrev pub block_of : StoredBlock → stored.StoredBlock
block_of b = record { words = b.words; released = b.released; standing = b.standing }

abbrev pub store_of : Store → stored.Store
store_of s = record { objects = map object_of s.objects.items; blocks = map block_of s.blocks.items }

-- ---- configurations

abbrev pub shared_of : Shared → meaning.Shared
shared_of s = record { store = store_of s.store; coroutines = map coroutine_of s.coroutines.items; posted = s.posted.items; main = s.main; undefined = s.undefined }

-- the configuration of the meaning that this is
abbrev pub config_of : Configuration → meaning.Config
config_of c = record { shared = shared_of c.shared; agents = map agent_of c.agents.items; events = c.events.items }

-- ---- what an agent sees

abbrev pub program_of : Program → turn.Program
program_of p = record { unit = p.unit.now; inputs = p.inputs; sizes = p.sizes }

-- the words of each class are those that the program has noted, and 1 where it has noted none
abbrev pub IsTabled : Program → Type 0
IsTabled p = (class : ClassId) → get_or p.words class.0 1 ≡ class_words p.unit.now.classes class

abbrev pub top_of : Activation → List meaning.Frame → meaning.Activation
top_of a frames = record { kind = kind_of a.kind; func = a.func.0; slots = a.slots; coroutine = a.coroutine; into = place_if a.into; frames = frames }

unfoldable pub local_of : Here → turn.Local
local_of h =
    record {
      program = program_of h.program.now;
      worker = h.worker;
      shared = shared_of h.shared.now;
      handled = reverse h.handled.now;
      top = top_of h.top.now (frames_of h.frames.now);
      below = activations_of h.below.now;
      seen = [];
    }
