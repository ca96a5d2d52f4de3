use Rattle.co_meaning_balance.proofs.Runs.{balance}
use Rattle.co_meaning_balance.proofs.laws.runs_balance.Goals as goal

pub returns : goal.returns
returns c = balance
