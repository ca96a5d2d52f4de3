use Rattle.co_tree.proofs.Tokens.{reads_tokens}
use Rattle.co_tree.proofs.laws.reads_tokens.Goals as goal

pub returns : goal.returns
returns c = reads_tokens
