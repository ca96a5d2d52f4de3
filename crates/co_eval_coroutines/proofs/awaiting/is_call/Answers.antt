use Rattle.std.proofs.Common.{◌≡◌}
use Rattle.co_eval_coroutines.proofs.Loaded.{load_of}
use Rattle.co_eval_coroutines.proofs.awaiting.is_call.Goals as goal

pub returns-in-Load : goal.returns-in-Load
returns-in-Load c = search (load_of, c.in-Load.is, c.get.ensures, c.is_plain_call.ensures)
