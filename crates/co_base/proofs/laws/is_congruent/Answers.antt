use Rattle.co_base.proofs.Ranges.{is_congruent}
use Rattle.co_base.proofs.laws.is_congruent.Goals as goal

pub returns : goal.returns
returns c = is_congruent
