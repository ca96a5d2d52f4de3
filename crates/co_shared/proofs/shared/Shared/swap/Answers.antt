use Rattle.std.proofs.Common.{rules}
use Rattle.co_words.specs.declared.access.Access.TheVariants.{Swap}
use Rattle.co_shared.proofs.Keeps.{takes}
use Rattle.co_shared.proofs.shared.Shared.swap.Goals as goal

pub swap-requires : goal.swap-requires
swap-requires c = (search rules, search rules, takes _ _ _ _ (Swap c.args.at c.args.v) c.pass.invariant.1)
