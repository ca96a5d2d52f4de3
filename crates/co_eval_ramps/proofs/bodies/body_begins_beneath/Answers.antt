use Rattle.std.specs.Prelude.{◌≡◌, ◌+◌, Some}
use Rattle.std.proofs.lemmas.Result.{IfOk-weaker}
use Rattle.co_eval_data.specs.Agents.{local_of}
use Rattle.co_eval_data.specs.Changed.{turned_by}
use Rattle.co_eval_data.specs.Seen.{frames_of, hold_of}
use Rattle.co_eval_data.specs.declared.changes.Change.{Change}
use Rattle.co_eval_ramps.proofs.Beneath.{beneath, seen_beneath}
use Rattle.co_meaning_calls.specs.Coroutines.{body_begins}
use Rattle.co_meaning_data.specs.Frames as meaning
use Rattle.co_meaning_data.specs.Turn.{with_frames}
use Rattle.co_eval_ramps.proofs.bodies.body_begins_beneath.Goals as goal

pub returns : goal.returns
returns c =
    let h = c.args.here.now in
    let l = local_of h in
    let m = local_of (record h { frames = c.args.below }) in
    let below = frames_of c.args.below.now in
    let plan = c.args.plan.now in
    let hold = hold_of c.args.hold.now in
    let change = c.in_ok-change.change in
    IfOk-weaker c.takes_more.result
    (λ (x : Change). x ≡ record change { taken = change.taken + 1 })
    (λ (x : Change). Some (turned_by x l) ≡ body_begins plan hold (with_frames below l))
    (λ x is. beneath change x l m (meaning.Holds hold) below (body_begins plan hold) c.requires (seen_beneath h c.args.below) is c.in_ok-change.ensures)
    c.takes_more.ensures
