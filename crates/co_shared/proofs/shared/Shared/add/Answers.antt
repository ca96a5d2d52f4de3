use Rattle.std.proofs.Common.{rules}
use Rattle.co_words.specs.declared.access.Access.TheVariants.{Add}
use Rattle.co_shared.proofs.Keeps.{takes}
use Rattle.co_shared.proofs.shared.Shared.add.Goals as goal

pub fetch_add-requires : goal.fetch_add-requires
fetch_add-requires c = (search rules, search rules, takes _ _ _ _ (Add c.args.at c.args.v) c.pass.invariant.1)
