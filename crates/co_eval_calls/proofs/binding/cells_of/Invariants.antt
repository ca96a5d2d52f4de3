use Rattle.std.proofs.Common.{◌≡◌, take}
use Rattle.co_meaning_calls.specs.Calls.{cells_of}
use Rattle.co_eval_calls.proofs.binding.cells_of.Given as goal

abbrev pub invariant-loop-value : goal.invariant-loop-value
invariant-loop-value l = l.cells ≡ cells_of (take l.value-index l.values)
