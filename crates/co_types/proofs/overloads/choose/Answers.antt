use Rattle.co_types.proofs.Best.{best_of, no_best}
use Rattle.co_types.proofs.overloads.choose.Goals as goal

pub returns-then-beats_all : goal.returns-then-beats_all
returns-then-beats_all c =
    best_of c.args.candidates.now c.args.args.now c.in-Some.best c.in-Some.ensures (c.beats_all.ensures.all c.if-beats_all.true)

pub returns-else-beats_all : goal.returns-else-beats_all
returns-else-beats_all c =
    let held = c.in-Some.ensures in
    ((c.in-Some.best, held.0, held.1), no_best c.args.candidates.now c.args.args.now c.in-Some.best held (c.beats_all.ensures.none c.if-beats_all.false))
