use Rattle.co_eval_data.proofs.Made.{is_made}
use Rattle.co_eval_data.proofs.here.Here.opens.Goals as goal

pub returns : goal.returns
returns c = search (is_made, c.requires)
