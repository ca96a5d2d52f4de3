use Rattle.co_first_parse.proofs.File.{one_file}
use Rattle.co_first_parse.proofs.has_one_tree.Goals as goal

pub returns : goal.returns
returns c = one_file
