use Rattle.std.proofs.Common.{rules}
use Rattle.co_shared.proofs.Keeps.{joins}
use Rattle.co_shared.proofs.shared.Shared.join.Goals as goal

pub join_seat-requires : goal.join_seat-requires
join_seat-requires c = (search rules, search rules, search rules, search rules, joins _ _ _ _ _ c.pass.invariant.1 (search rules) c.other.invariant.1)
