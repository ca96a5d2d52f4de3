use Rattle.std.proofs.Common.{◌≡◌}
use Rattle.co_eval_data.proofs.Opening.{choose_one}
use Rattle.co_eval_nodes.proofs.expressions.choice_in.Goals as goal

pub returns-in-Choose-clause-some : goal.returns-in-Choose-clause-some
returns-in-Choose-clause-some c p = search (choose_one, c.in-Choose.is, c.get.ensures, c.get-in-Choose.ensures, c.in-Init.is, c.in-Init.init-is)
