use Rattle.std.specs.Prelude.{◌≡◌, drop, Some}
use Rattle.std.proofs.lemmas.Result.{IfOk-weaker}
use Rattle.co_eval_calls.proofs.Constructed.{body_done}
use Rattle.co_eval_data.specs.Agents.{local_of}
use Rattle.co_eval_data.specs.Changed.{turned_by}
use Rattle.co_eval_data.specs.Seen.{body_left, frame_with, place_of}
use Rattle.co_eval_data.specs.declared.changes.Change.{Change}
use Rattle.co_meaning_calls.specs.Calls.{next_member}
use Rattle.co_meaning_data.specs.Frames as meaning
use Rattle.co_meaning_data.specs.Turn.{under}
use Rattle.co_eval_calls.proofs.members.body_next.Goals as goal

pub returns : goal.returns
returns c =
    let l = local_of c.args.here.now in
    let m = c.args.making in
    let func = c.args.func.now in
    let members = c.args.members.now in
    IfOk-weaker c.under.result
    (λ (x : Change). Some (turned_by x l) ≡ under (frame_with c.in_ok-step.step c.args.node) (meaning.Execute func.body) l)
    (λ (x : Change). Some (turned_by x l) ≡ next_member (place_of m.place.now) m.class m.built (drop m.taken members) (body_left m.left func.body) l)
    (λ x is. body_done m.place.now m.class m.built m.taken m.left c.args.node func members c.in_ok-step.step l (Some (turned_by x l)) c.requires.func c.requires.members c.requires.made c.requires.left c.in_ok-step.ensures is)
    c.under.ensures
