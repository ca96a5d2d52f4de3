use Rattle.std.proofs.Common.{length}
use Rattle.co_eval_expressions.proofs.places.+made_among.Given as goal

abbrev pub decreases-made_among : goal.decreases-made_among
decreases-made_among l = length l.frames.now
