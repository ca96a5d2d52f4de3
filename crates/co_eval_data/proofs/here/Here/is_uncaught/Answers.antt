use Rattle.co_eval_data.proofs.Made.{is_halted}
use Rattle.co_eval_data.proofs.here.Here.is_uncaught.Goals as goal

pub returns : goal.returns
returns c = search (is_halted, c.new.ensures)
