use Rattle.co_meaning_lives.proofs.Once.{once}
use Rattle.co_meaning_lives.proofs.laws.lives_once.Goals as goal

pub returns : goal.returns
returns c = once
