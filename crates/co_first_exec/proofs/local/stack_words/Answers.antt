use Rattle.std.proofs.Common.{refl}
use Rattle.co_first_exec.specs.Opening.{stack_words}
use Rattle.co_first_exec.proofs.local.stack_words.Goals as goal

pub returns : goal.returns
unfolding stack_words
returns c = refl
