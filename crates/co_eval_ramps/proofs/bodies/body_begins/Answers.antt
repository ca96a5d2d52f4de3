use Rattle.std.specs.Prelude.{◌≡◌, None, Some}
use Rattle.std.proofs.lemmas.Result.{IfOk-weaker}
use Rattle.co_eval_data.specs.Agents.{local_of}
use Rattle.co_eval_data.specs.Changed.{turned_by}
use Rattle.co_eval_data.specs.Seen.{hold_of}
use Rattle.co_eval_data.specs.declared.agents.Task.TheVariants as task
use Rattle.co_eval_data.specs.declared.changes.Change.{Change}
use Rattle.co_eval_data.specs.declared.changes.Effect.TheVariants as effect
use Rattle.co_eval_fulls.specs.Fulls.{opens_after}
use Rattle.co_eval_ramps.proofs.Begun.{begun_as}
use Rattle.co_meaning_calls.specs.Coroutines.{await_acts, body_begins}
use Rattle.co_eval_ramps.proofs.bodies.body_begins.Goals as goal

pub returns : goal.returns
returns c =
    let l = local_of c.args.here.now in
    let plan = c.args.plan.now in
    let hold = hold_of c.args.hold.now in
    let objects = c.new-objects.result in
    let outer = c.new-outer.result in
    let inner = c.new-inner.result in
    IfOk-weaker c.open_await.result
    (λ (x : Change). Some (turned_by x l) ≡ opens_after (await_acts l c.args.initial.now) (effect.Enters c.in_ok-left.left objects c.in_ok-body.body) outer inner (task.Awaits c.args.initial None) l)
    (λ (x : Change). Some (turned_by x l) ≡ body_begins plan hold l)
    (λ x is. begun_as plan c.args.initial hold c.in_ok-left.left outer inner objects c.in_ok-body.body l (Some (turned_by x l))
    c.requires c.in_ok-left.ensures c.in_ok-body.ensures c.new-objects.ensures c.new-outer.ensures c.new-inner.ensures is)
    c.open_await.ensures
