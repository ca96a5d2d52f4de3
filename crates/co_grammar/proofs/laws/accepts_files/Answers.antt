use Rattle.co_grammar.proofs.Exact.{accepts_files}
use Rattle.co_grammar.proofs.laws.accepts_files.Goals as goal

pub returns : goal.returns
returns c = accepts_files
