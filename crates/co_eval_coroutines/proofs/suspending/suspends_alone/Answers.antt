use Rattle.std.specs.Prelude.{◌≡◌, [], Some}
use Rattle.std.proofs.lemmas.Result.{IfOk-weaker}
use Rattle.co_eval_coroutines.proofs.Suspension.{is_parked}
use Rattle.co_eval_coroutines.specs.Calling.{suspended_under}
use Rattle.co_eval_data.specs.Agents.{activation_of, local_of}
use Rattle.co_eval_data.specs.Changed.{dropped, turned_by}
use Rattle.co_eval_data.specs.Seen.{frames_of, place_if}
use Rattle.co_eval_data.specs.declared.changes.Change.{Change}
use Rattle.co_meaning_calls.specs.Coroutines.{suspend_as}
use Rattle.co_meaning_data.specs.Frames as meaning
use Rattle.co_meaning_data.specs.Turn.{goes}
use Rattle.co_eval_coroutines.proofs.suspending.suspends_alone.Goals as goal

pub returns : goal.returns
returns c =
    let l = local_of c.args.here.now in
    let n = c.args.coroutine in
    let plan = c.args.plan.now in
    let into = place_if c.args.into.now in
    let o = meaning.Gives meaning.Nothing in
    IfOk-weaker c.suspends.result
    (λ (x : Change). Some (turned_by x l) ≡ goes (meaning.Comes o) (suspended_under n plan into (activation_of c.parked-parked.result) (dropped 0 l)))
    (λ (x : Change). Some (turned_by x l) ≡ suspend_as n plan into [] [] o l)
    (λ x is. is_parked n c.in_ok-serial.serial plan into [] [] (frames_of c.in_ok-frames.frames.items) (activation_of c.parked-parked.result) o l (Some (turned_by x l))
    c.in_ok-serial.ensures c.in_ok-frames.ensures c.parked-parked.ensures is)
    c.suspends.ensures
