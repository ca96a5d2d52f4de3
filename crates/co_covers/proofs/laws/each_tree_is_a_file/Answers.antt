use Rattle.co_covers.proofs.Files.{each_tree_is_a_file}
use Rattle.co_covers.proofs.laws.each_tree_is_a_file.Goals as goal

pub returns : goal.returns
returns c = each_tree_is_a_file
