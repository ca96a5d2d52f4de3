use Rattle.co_machine.proofs.Rest.{idles_counted}
use Rattle.co_machine.proofs.laws.counts_idles.Goals as goal

pub returns : goal.returns
returns c = idles_counted
