-- Runs: the start of a program, its moves, and the configuration after a list of moves.
use Rattle.std.specs.Prelude.{ℕ, suc, Bool, true, false, if◌then◌else◌, List, [], ◌∷◌, ◌++◌, length, replicate, slice_get, slice_set, take, drop, Option, None, Some, ℤ}
use Rattle.co_base.specs.declared.kinds.AtomicKind.{AtomicKind}
use Rattle.co_base.specs.declared.kinds.AtomicKind.TheVariants as atomic
use Rattle.co_base.specs.declared.kinds.Num.TheVariants as num
use Rattle.co_types.specs.declared.types.Head.{Head}
use Rattle.co_types.specs.declared.types.Head.TheVariants as head
use Rattle.co_types.specs.Types.{head_of}
use Rattle.co_core_tree.specs.declared.units.CoreFunc.{CoreFunc}
use Rattle.co_core_tree.specs.declared.units.GlobalInfo.{GlobalInfo}
use Rattle.co_core_tree.specs.declared.units.UnitParts.{UnitParts}
use Rattle.co_meaning_data.specs.declared.events.Event.TheVariants as event
use Rattle.co_meaning_data.specs.declared.events.Move.{Move}
use Rattle.co_meaning_data.specs.declared.events.Move.TheVariants as move
use Rattle.co_meaning_data.specs.declared.values.Cell.TheVariants as cell
use Rattle.co_meaning_data.specs.declared.values.Value.{Value}
use Rattle.co_meaning_data.specs.declared.values.Value.TheVariants as value
use Rattle.co_meaning_data.specs.Frames.{Activation, Agent, Config, Execute, Idle, OfBody, OfFunction}
use Rattle.co_meaning_data.specs.Store.{StoredObject, live_object}
use Rattle.co_meaning_calls.specs.Calls.{around}
use Rattle.co_meaning_calls.specs.Coroutines.{transfer}
use Rattle.co_meaning.specs.Step.{act}
use Rattle.co_meaning_data.specs.Turn.{Local, Program, Turned, nowhere}

-- ---- the start

abbrev pub global_atomic : AtomicKind → ℤ → Value
global_atomic atomic.Int z = value.Number num.Int z
global_atomic atomic.Long z = value.Number num.Long z
global_atomic atomic.Bool z = value.Number num.Bool z
global_atomic atomic.VoidPointer z = value.Null

abbrev pub global_value : Head → ℤ → Value
global_value (head.Num n) z = value.Number n z
global_value (head.Atomic k) z = global_atomic k z
global_value h z = value.Null

abbrev pub global_object : GlobalInfo → StoredObject
global_object global = live_object global.of (cell.Holds (global_value (head_of global.of) global.value) ∷ [])

abbrev pub global_objects : List GlobalInfo → List StoredObject
global_objects [] = []
global_objects (global ∷ globals) = global_object global ∷ global_objects globals

abbrev pub idle_agent : Agent
idle_agent = record { doing = Idle; activations = []; handled = []; halted = false }

abbrev pub main_activation : UnitParts → CoreFunc → Activation
main_activation unit func =
    record { kind = OfFunction; func = unit.main.0; slots = replicate (length func.slots) None; coroutine = None; into = None; frames = around func [] }

abbrev pub main_agent : UnitParts → Option CoreFunc → Agent
main_agent unit None = idle_agent
main_agent unit (Some func) = record { doing = Execute func.body; activations = main_activation unit func ∷ []; handled = []; halted = false }

-- Agent 0 is in `main`, the other `more` have nothing to do, and each global has its constant [basic.start.main].
abbrev pub start : UnitParts → ℕ → Config
start unit more =
    record {
      shared = record { store = record { objects = global_objects unit.globals; blocks = [] }; coroutines = []; posted = []; main = None; undefined = false };
      agents = main_agent unit (slice_get unit.funcs unit.main.0) ∷ replicate more idle_agent;
      events = [];
    }

-- ---- moves

-- the configuration after a step of the agent of this number
abbrev pub after_turn : ℕ → Config → Option Turned → Option Config
after_turn w c None = None
after_turn w c (Some t) = Some (record { shared = t.shared; agents = slice_set c.agents w t.agent; events = c.events ++ t.seen })

abbrev pub local_of : Program → ℕ → Config → Agent → Activation → List Activation → Local
local_of program w c a top below = record { program = program; worker = w; shared = c.shared; handled = a.handled; top = top; below = below; seen = [] }

abbrev pub go_on : Program → ℕ → Config → Agent → List Activation → Option Turned
go_on program w c a [] = None
go_on program w c a (top ∷ below) = act a.doing (local_of program w c a top below)

-- an agent with an activation goes on with what it does
abbrev pub go : Program → ℕ → Config → Agent → Option Turned
go program w c a = go_on program w c a a.activations

-- a place for the activation of a posted handle that is taken
abbrev pub vacant : Activation
vacant = record { kind = OfBody; func = 0; slots = []; coroutine = None; into = None; frames = [] }

abbrev pub without_posted : ℕ → Config → Config
without_posted i c = record c { shared = record c.shared { posted = take i c.shared.posted ++ drop (suc i) c.shared.posted } }

abbrev pub take_value : Program → ℕ → Config → Agent → Option Value → Option Turned
take_value program w c a None = None
take_value program w c a (Some v) = transfer v nowhere (local_of program w c a vacant [])

abbrev pub take_on : Program → ℕ → ℕ → Config → Agent → List Activation → Option Turned
take_on program w i c a [] = take_value program w (without_posted i c) a (slice_get c.shared.posted i)
take_on program w i c a (top ∷ below) = None

-- an agent without activation takes the i-th posted handle and resumes it
abbrev pub take_posted : Program → ℕ → ℕ → Config → Agent → Option Turned
take_posted program w i c a = take_on program w i c a a.activations

-- an agent is halted from the outside
abbrev pub cut : ℕ → Config → Agent → Option Turned
cut w c a = Some (record { shared = c.shared; agent = record a { halted = true }; seen = event.Cut w ∷ [] })

abbrev pub unless_halted : Option Agent → (Agent → Option Turned) → Option Turned
unless_halted None f = None
unless_halted (Some a) f = if a.halted then None else f a

abbrev pub move_of : Program → Config → Move → Option Config
move_of program c (move.Go w) = after_turn w c (unless_halted (slice_get c.agents w) (go program w c))
move_of program c (move.Take w i) = after_turn w c (unless_halted (slice_get c.agents w) (take_posted program w i c))
move_of program c (move.Cut w) = after_turn w c (unless_halted (slice_get c.agents w) (cut w c))

abbrev pub unless_over : Bool → Option Config → Option Config
unless_over true after = None
unless_over false after = after

-- The configuration after a move; none where the move is none of this configuration. After an undefined act there are no moves.
abbrev pub step : Program → Config → Move → Option Config
step program c m = unless_over c.shared.undefined (move_of program c m)

-- ---- runs

abbrev pub or_same : Config → Option Config → Config
or_same c None = c
or_same c (Some d) = d

-- the configuration after a list of moves, of which those that are none of their configuration are left out
abbrev pub runs_from : Program → Config → List Move → Config
runs_from program c [] = c
runs_from program c (m ∷ moves) = runs_from program (or_same c (step program c m)) moves

-- The run of a program with so many agents beside that of `main`.
abbrev pub runs : Program → ℕ → List Move → Config
runs program more moves = runs_from program (start program.unit more) moves
