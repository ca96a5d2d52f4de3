use Rattle.std.proofs.Common.{refl}
use Rattle.co_eval_commit.specs.InPlace.{sees}
use Rattle.co_eval_commit.proofs.Beside.{shares}
use Rattle.co_eval_commit.proofs.quiet.make_quiet.Goals as goal

pub returns-in-IsUndefined-clause-made : goal.returns-in-IsUndefined-clause-made
returns-in-IsUndefined-clause-made c l fs quiet = rw c.in-IsUndefined.is (refl)

pub returns-in-Lives-clause-made : goal.returns-in-Lives-clause-made
returns-in-Lives-clause-made c l fs quiet = rw c.in-Lives.is (shares c.args.shared.now c.make_live.new.store _ (sees c.args.worker c.args.shared.now c.args.handled.now.items c.args.top.now fs l) c.make_live.ensures)

pub returns-in-Ends-clause-made : goal.returns-in-Ends-clause-made
returns-in-Ends-clause-made c l fs quiet = rw c.in-Ends.is (shares c.args.shared.now c.end_object.new.store _ (sees c.args.worker c.args.shared.now c.args.handled.now.items c.args.top.now fs l) c.end_object.ensures)

pub returns-in-Writes-clause-made : goal.returns-in-Writes-clause-made
returns-in-Writes-clause-made c l fs quiet = rw c.in-Writes.is (shares c.args.shared.now c.write_cell.new.store _ (sees c.args.worker c.args.shared.now c.args.handled.now.items c.args.top.now fs l) c.write_cell.ensures)

pub returns-in-Releases-clause-made : goal.returns-in-Releases-clause-made
returns-in-Releases-clause-made c l fs quiet = rw c.in-Releases.is (shares c.args.shared.now c.release.new.store _ (sees c.args.worker c.args.shared.now c.args.handled.now.items c.args.top.now fs l) c.release.ensures)

pub returns-in-AddsIn-clause-made : goal.returns-in-AddsIn-clause-made
returns-in-AddsIn-clause-made c l fs quiet = rw c.in-AddsIn.is (c.adds_in.ensures (sees c.args.worker c.args.shared.now c.args.handled.now.items c.args.top.now fs l))

pub returns-in-Fills-clause-made : goal.returns-in-Fills-clause-made
returns-in-Fills-clause-made c l fs quiet = rw c.in-Fills.is (c.fills.ensures (sees c.args.worker c.args.shared.now c.args.handled.now.items c.args.top.now fs l))

pub returns-in-AddsBlock-clause-made : goal.returns-in-AddsBlock-clause-made
returns-in-AddsBlock-clause-made c l fs quiet = rw c.in-AddsBlock.is (c.adds_block.ensures (sees c.args.worker c.args.shared.now c.args.handled.now.items c.args.top.now fs l))

pub returns-in-Closes-clause-made : goal.returns-in-Closes-clause-made
returns-in-Closes-clause-made c l fs quiet = rw c.in-Closes.is (c.closes.ensures (sees c.args.worker c.args.shared.now c.args.handled.now.items c.args.top.now fs l))

pub returns-in-Posts-clause-made : goal.returns-in-Posts-clause-made
returns-in-Posts-clause-made c l fs quiet = rw c.in-Posts.is (c.posts.ensures (sees c.args.worker c.args.shared.now c.args.handled.now.items c.args.top.now fs l))

pub returns-in-Handles-clause-made : goal.returns-in-Handles-clause-made
returns-in-Handles-clause-made c l fs quiet = rw c.in-Handles.is (c.handles.ensures (sees c.args.worker c.args.shared.now c.args.handled.now.items c.args.top.now fs l))

pub returns-in-HandlesNoMore-clause-made : goal.returns-in-HandlesNoMore-clause-made
returns-in-HandlesNoMore-clause-made c l fs quiet = rw c.in-HandlesNoMore.is (c.forget_newest.ensures (sees c.args.worker c.args.shared.now c.args.handled.now.items c.args.top.now fs l))

pub returns-in-Adds-clause-made : goal.returns-in-Adds-clause-made
returns-in-Adds-clause-made c l fs quiet = rw c.in-Adds.is (c.adds.ensures.made (sees c.args.worker c.args.shared.now c.args.handled.now.items c.args.top.now fs l) fs)

pub returns-in-AddsPromise-clause-made : goal.returns-in-AddsPromise-clause-made
returns-in-AddsPromise-clause-made c l fs quiet = rw c.in-AddsPromise.is (c.adds_promise.ensures.made (sees c.args.worker c.args.shared.now c.args.handled.now.items c.args.top.now fs l) fs)

pub returns-in-Draws-clause-made : goal.returns-in-Draws-clause-made
returns-in-Draws-clause-made c l fs quiet = rw c.in-Draws.is (c.draws.ensures.made (sees c.args.worker c.args.shared.now c.args.handled.now.items c.args.top.now fs l) fs)

pub returns-in-Catches-clause-made : goal.returns-in-Catches-clause-made
returns-in-Catches-clause-made c l fs quiet = rw c.in-Catches.is (c.catches.ensures.made c.args.worker (sees c.args.worker c.args.shared.now c.args.handled.now.items c.args.top.now fs l) fs)

pub returns-in-RestsAfterMain-clause-made : goal.returns-in-RestsAfterMain-clause-made
returns-in-RestsAfterMain-clause-made c l fs quiet = rw c.in-RestsAfterMain.is (refl)
