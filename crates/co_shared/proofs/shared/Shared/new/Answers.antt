use Rattle.std.proofs.Common.{rules}
use Rattle.co_shared.proofs.Keeps.{opens}
use Rattle.co_shared.proofs.shared.Shared.new.Goals as goal

pub of_words-requires : goal.of_words-requires
of_words-requires c = search (rules, opens)
