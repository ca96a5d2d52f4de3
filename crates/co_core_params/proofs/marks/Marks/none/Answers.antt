use Rattle.co_core_params.proofs.Marking.{none_in}
use Rattle.co_core_params.proofs.marks.Marks.none.Goals as goal

pub returns-clause-none : goal.returns-clause-none
returns-clause-none c = λ k. none_in 4096 k
