use Rattle.co_eval_data.proofs.Made.{goes_above}
use Rattle.co_eval_data.proofs.here.Here.above.Goals as goal

-- src/here.rt:76:5
pub returns : goal.returns
returns c = search (goes_above)
