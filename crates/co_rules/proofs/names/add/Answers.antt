use Rattle.std.proofs.Common.{refl}
use Rattle.co_rules.proofs.Classes.{gained}
use Rattle.co_rules.proofs.names.add.Goals as goal

pub returns : goal.returns
returns c = (gained _ (λ k. k.items) _ _ _ _ (λ x. refl) c.in_ok-insert.ensures.keys c.in_ok-name.ensures.items, refl)
