use Rattle.std.proofs.Common.{◌≡◌, length}
use Rattle.co_core_tree.specs.Sizes.{destructor_among}
use Rattle.co_eval_reads.proofs.funcs.destructor_among.Given as goal

abbrev pub invariant-loop-rest : goal.invariant-loop-rest
invariant-loop-rest l = destructor_among l.class l.rest ≡ destructor_among l.class l.funcs

abbrev pub decreases-loop-rest : goal.decreases-loop-rest
decreases-loop-rest l = length l.rest
