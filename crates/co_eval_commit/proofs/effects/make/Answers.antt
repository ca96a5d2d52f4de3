use Rattle.co_eval_data.specs.Seen.{frames_of}
use Rattle.co_meaning_data.specs.Turn.{happens}
use Rattle.co_meaning_data.specs.declared.events.Event.TheVariants as event
use Rattle.co_eval_commit.specs.InPlace.{sees_all}
use Rattle.co_eval_commit.proofs.Beside.{quiet_by}
use Rattle.co_eval_commit.proofs.effects.make.Goals as goal

pub returns-in-LivesAt-clause-made : goal.returns-in-LivesAt-clause-made
returns-in-LivesAt-clause-made c l = rw c.in-LivesAt.is (c.live_at.ensures.made (sees_all c.args.worker c.args.shared.now c.args.handled.now.items c.args.top.now (frames_of c.args.top.now.frames.items) c.args.below.now.items l))

pub returns-in-LivesInFull-clause-made : goal.returns-in-LivesInFull-clause-made
returns-in-LivesInFull-clause-made c l = rw c.in-LivesInFull.is (c.live_in_full.ensures.made (sees_all c.args.worker c.args.shared.now c.args.handled.now.items c.args.top.now (frames_of c.args.top.now.frames.items) c.args.below.now.items l))

pub returns-in-Stands-clause-made : goal.returns-in-Stands-clause-made
returns-in-Stands-clause-made c l = rw c.in-Stands.is (c.stand_in.ensures.made (sees_all c.args.worker c.args.shared.now c.args.handled.now.items c.args.top.now (frames_of c.args.top.now.frames.items) c.args.below.now.items l) (sees_all c.args.worker c.args.shared.now c.args.handled.now.items c.args.top.now (frames_of c.args.top.now.frames.items) c.args.below.now.items l))

pub returns-in-FieldMade-clause-made : goal.returns-in-FieldMade-clause-made
returns-in-FieldMade-clause-made c l = rw c.in-FieldMade.is (c.field_made_in.ensures.made (sees_all c.args.worker c.args.shared.now c.args.handled.now.items c.args.top.now (frames_of c.args.top.now.frames.items) c.args.below.now.items l))

pub returns-in-Reached-clause-made : goal.returns-in-Reached-clause-made
returns-in-Reached-clause-made c l = rw c.in-Reached.is (c.reached_in.ensures.made (sees_all c.args.worker c.args.shared.now c.args.handled.now.items c.args.top.now (frames_of c.args.top.now.frames.items) c.args.below.now.items l))

pub returns-in-Enters-clause-made : goal.returns-in-Enters-clause-made
returns-in-Enters-clause-made c l = rw c.in-Enters.is (c.enter.ensures.made (sees_all c.args.worker c.args.shared.now c.args.handled.now.items c.args.top.now (frames_of c.args.top.now.frames.items) c.args.below.now.items l))

pub returns-in-Returns-clause-made : goal.returns-in-Returns-clause-made
returns-in-Returns-clause-made c l = rw c.in-Returns.is (c.return_below.ensures.made (sees_all c.args.worker c.args.shared.now c.args.handled.now.items c.args.top.now (frames_of c.args.top.now.frames.items) c.args.below.now.items l))

pub returns-in-Wakes-clause-made : goal.returns-in-Wakes-clause-made
returns-in-Wakes-clause-made c l = rw c.in-Wakes.is (c.wake.ensures.made (sees_all c.args.worker c.args.shared.now c.args.handled.now.items c.args.top.now (frames_of c.args.top.now.frames.items) c.args.below.now.items l))

pub returns-in-Suspends-clause-made : goal.returns-in-Suspends-clause-made
returns-in-Suspends-clause-made c l = rw c.in-Suspends.is (c.suspend.ensures.made (sees_all c.args.worker c.args.shared.now c.args.handled.now.items c.args.top.now (frames_of c.args.top.now.frames.items) c.args.below.now.items l))

pub returns-in-Escapes-clause-made : goal.returns-in-Escapes-clause-made
returns-in-Escapes-clause-made c l = rw c.in-Escapes.is (c.escape.ensures.made (sees_all c.args.worker c.args.shared.now c.args.handled.now.items c.args.top.now (frames_of c.args.top.now.frames.items) c.args.below.now.items l))

pub returns-in-IsBorn-clause-made : goal.returns-in-IsBorn-clause-made
returns-in-IsBorn-clause-made c l = rw c.in-IsBorn.is (c.stand_in-in-IsBorn.ensures.made (sees_all c.args.worker c.args.shared.now c.args.handled.now.items c.args.top.now (frames_of c.args.top.now.frames.items) c.args.below.now.items (happens (event.Born c.in-IsBorn.field-0 c.in-IsBorn.x.object) l)) (sees_all c.args.worker c.args.shared.now c.args.handled.now.items c.args.top.now (frames_of c.args.top.now.frames.items) c.args.below.now.items l))

pub make_quiet_and_cut-requires-clause-quiet : goal.make_quiet_and_cut-requires-clause-quiet
make_quiet_and_cut-requires-clause-quiet c =
    let d = c.in_default in
    quiet_by c.args.effect d.not-LivesAt d.not-LivesInFull d.not-Stands d.not-IsBorn d.not-FieldMade d.not-Reached d.not-Enters d.not-Returns d.not-Wakes d.not-Suspends d.not-Escapes

pub returns-in_default-clause-made : goal.returns-in_default-clause-made
returns-in_default-clause-made c l = c.make_quiet_and_cut.ensures.made c.args.below.now.items l
