use Rattle.std.proofs.Common.{length}
use Rattle.co_eval_expressions.proofs.values.+has_same_parts.Given as goal

abbrev pub decreases-has_same_parts : goal.decreases-has_same_parts
decreases-has_same_parts l = length l.a.now
