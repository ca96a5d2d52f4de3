use Rattle.co_shared.proofs.Logs.{stands}
use Rattle.co_shared.proofs.laws.old_words_stand.Goals as goal

pub returns : goal.returns
returns c = stands
