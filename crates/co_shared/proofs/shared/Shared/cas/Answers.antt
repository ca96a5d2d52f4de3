use Rattle.std.proofs.Common.{rules}
use Rattle.co_words.specs.declared.access.Access.TheVariants.{Cas}
use Rattle.co_shared.proofs.Keeps.{takes}
use Rattle.co_shared.proofs.shared.Shared.cas.Goals as goal

pub compare_exchange-requires : goal.compare_exchange-requires
compare_exchange-requires c = (search rules, search rules, takes _ _ _ _ (Cas c.args.at c.args.was c.args.v) c.pass.invariant.1)
