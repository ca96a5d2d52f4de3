use Rattle.co_covers.proofs.Files.{rules_cover}
use Rattle.co_covers.proofs.laws.rules_cover.Goals as goal

pub returns : goal.returns
returns c = rules_cover
