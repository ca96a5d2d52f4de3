-- What the parts of what an agent sees are.
use Rattle.std.specs.Prelude.{◌≡◌, [], reverse}
use Rattle.std.proofs.Common.{refl}
use Rattle.co_eval_data.specs.Agents.{activations_of, kind_of, local_of, shared_of}
use Rattle.co_eval_data.specs.Seen.{frames_of, place_if}
use Rattle.co_eval_data.specs.declared.here.Here.{Here}

pub unit_seen : (h : Here) → (local_of h).program.unit ≡ h.program.now.unit.now
unfolding local_of
unit_seen h = refl

pub inputs_seen : (h : Here) → (local_of h).program.inputs ≡ h.program.now.inputs
unfolding local_of
inputs_seen h = refl

pub worker_seen : (h : Here) → (local_of h).worker ≡ h.worker
unfolding local_of
worker_seen h = refl

pub shared_seen : (h : Here) → (local_of h).shared ≡ shared_of h.shared.now
unfolding local_of
shared_seen h = refl

pub handled_seen : (h : Here) → (local_of h).handled ≡ reverse h.handled.now
unfolding local_of
handled_seen h = refl

pub kind_seen : (h : Here) → (local_of h).top.kind ≡ kind_of h.top.now.kind
unfolding local_of
kind_seen h = refl

pub func_seen : (h : Here) → (local_of h).top.func ≡ h.top.now.func.0
unfolding local_of
func_seen h = refl

pub slots_seen : (h : Here) → (local_of h).top.slots ≡ h.top.now.slots
unfolding local_of
slots_seen h = refl

pub coroutine_seen : (h : Here) → (local_of h).top.coroutine ≡ h.top.now.coroutine
unfolding local_of
coroutine_seen h = refl

pub into_seen : (h : Here) → (local_of h).top.into ≡ place_if h.top.now.into
unfolding local_of
into_seen h = refl

pub frames_seen : (h : Here) → (local_of h).top.frames ≡ frames_of h.frames.now
unfolding local_of
frames_seen h = refl

pub below_seen : (h : Here) → (local_of h).below ≡ activations_of h.below.now
unfolding local_of
below_seen h = refl

pub no_events : (h : Here) → (local_of h).seen ≡ []
unfolding local_of
no_events h = refl

pub ruleset parts = (unit_seen, inputs_seen, worker_seen, shared_seen, handled_seen, kind_seen, func_seen, slots_seen, coroutine_seen, into_seen, frames_seen, below_seen, no_events)
