use Rattle.co_eval_data.proofs.Made.{goes_on}
use Rattle.co_eval_data.proofs.here.Here.goes.Goals as goal

-- src/here.rt:43:5
pub returns : goal.returns
returns c = search (goes_on, c.new.ensures)
