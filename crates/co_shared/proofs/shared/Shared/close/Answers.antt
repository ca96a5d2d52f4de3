use Rattle.std.proofs.Common.{rules}
use Rattle.co_shared.proofs.Keeps.{closes}
use Rattle.co_shared.proofs.shared.Shared.close.Goals as goal

pub returns : goal.returns
returns c =
    closes _ _ _ _ _ _ _ _ _ c.close_with-closed.ensures.values.2 c.pass.invariant.1 c.requires.whole.1 c.requires.whole.2 (search rules) (search rules) c.word-stamp.ensures c.word-stop.ensures
