use Rattle.std.proofs.Common.{rules}
use Rattle.co_words.specs.declared.access.Access.TheVariants.{Load}
use Rattle.co_shared.proofs.Keeps.{takes}
use Rattle.co_shared.proofs.shared.Shared.load.Goals as goal

pub load-requires : goal.load-requires
load-requires c = (search rules, search rules, takes _ _ _ _ (Load c.args.at) c.pass.invariant.1)
