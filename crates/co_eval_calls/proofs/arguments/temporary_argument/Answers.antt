use Rattle.std.proofs.Common.{◌≡◌}
use Rattle.co_eval_calls.proofs.Params.{a_temporary}
use Rattle.co_eval_calls.proofs.arguments.temporary_argument.Goals as goal

pub object_argument-requires-clause-temporary : goal.object_argument-requires-clause-temporary
object_argument-requires-clause-temporary c = search (a_temporary, c.in-Temp.is, c.get.ensures)
