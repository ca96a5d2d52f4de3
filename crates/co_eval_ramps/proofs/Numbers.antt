-- How many coroutines there are.
use Rattle.std.specs.Prelude.{◌≡◌, length}
use Rattle.std.proofs.lemmas.List.{length-map}
use Rattle.co_eval_data.specs.Agents.{coroutine_of, local_of}
use Rattle.co_eval_data.specs.declared.here.Here.{Here}
use Rattle.co_meaning_calls.specs.Coroutines.{coroutines}

pub coroutines_counted : (h : Here) → length (coroutines (local_of h)) ≡ length h.shared.now.coroutines.items
unfolding local_of
coroutines_counted h = length-map h.shared.now.coroutines.items coroutine_of
