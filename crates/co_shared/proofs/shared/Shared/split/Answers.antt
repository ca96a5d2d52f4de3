use Rattle.std.proofs.Common.{rules}
use Rattle.co_shared.proofs.Keeps.{splits}
use Rattle.co_shared.proofs.shared.Shared.split.Goals as goal

pub split_seat-seat-requires : goal.split_seat-seat-requires
split_seat-seat-requires c = (search rules, search rules, splits _ _ _ c.pass.invariant.1 (search rules))
