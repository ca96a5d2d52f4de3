use Rattle.co_core_kept.proofs.Marking.{none_marked}
use Rattle.co_core_kept.proofs.holders.Holders.none.Goals as goal

pub returns-clause-none : goal.returns-clause-none
returns-clause-none c = λ k. none_marked 4096 k
