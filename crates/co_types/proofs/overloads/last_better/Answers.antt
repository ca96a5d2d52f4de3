use Rattle.std.proofs.Common.{◌+◌, subst, sym}
use Rattle.co_types.specs.Choosing.{IsHeld}
use Rattle.co_types.proofs.Best.{kept_held}
use Rattle.co_types.proofs.overloads.last_better.Goals as goal

pub loop-at-preserved : goal.loop-at-preserved
loop-at-preserved c =
    subst (λ o. IsHeld c.args.candidates.now c.args.args.now (c.loop-at.at + 1) o) (sym c.kept-best.ensures)
    (kept_held c.args.candidates.now c.args.args.now c.loop-at.at c.loop-at.best c.loop-at-test.true c.loop-at.invariant)
