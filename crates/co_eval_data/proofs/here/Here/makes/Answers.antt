use Rattle.co_eval_data.proofs.Made.{is_made}
use Rattle.co_eval_data.proofs.here.Here.makes.Goals as goal

pub returns : goal.returns
returns c = search (is_made, c.requires)
