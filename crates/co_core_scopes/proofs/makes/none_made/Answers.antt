use Rattle.co_core_scopes.proofs.Marks.{none_in}
use Rattle.co_core_scopes.proofs.makes.none_made.Goals as goal

pub returns-clause-none : goal.returns-clause-none
returns-clause-none c = λ k. none_in 4096 k
