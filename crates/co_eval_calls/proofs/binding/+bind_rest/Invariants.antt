use Rattle.std.proofs.Common.{length}
use Rattle.co_eval_calls.proofs.binding.+bind_rest.Given as goal

abbrev pub decreases-bind_rest : goal.decreases-bind_rest
decreases-bind_rest l = length l.slots.now
