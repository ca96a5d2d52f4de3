use Rattle.std.proofs.Common.{rules}
use Rattle.co_words.specs.declared.access.Access.TheVariants.{Store}
use Rattle.co_shared.proofs.Keeps.{takes}
use Rattle.co_shared.proofs.shared.Shared.store.Goals as goal

pub store-requires : goal.store-requires
store-requires c = (search rules, search rules, takes _ _ _ _ (Store c.args.at c.args.v) c.pass.invariant.1)
