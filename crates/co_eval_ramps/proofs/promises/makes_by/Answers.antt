use Rattle.std.specs.Prelude.{◌≡◌, Some}
use Rattle.std.proofs.lemmas.Result.{IfOk-weaker}
use Rattle.co_core_tree.specs.Slots.{class_params}
use Rattle.co_eval_data.specs.Agents.{local_of}
use Rattle.co_eval_data.specs.Changed.{turned_by}
use Rattle.co_eval_data.specs.declared.agents.Task.TheVariants as task
use Rattle.co_eval_data.specs.declared.changes.Change.{Change}
use Rattle.co_eval_data.specs.declared.changes.Effect.TheVariants as effect
use Rattle.co_eval_data.specs.declared.outcomes.Outcome.TheVariants as outcome
use Rattle.co_eval_fulls.specs.Fulls.{opens_after}
use Rattle.co_eval_ramps.proofs.Promised.{constructed_as}
use Rattle.co_meaning_calls.specs.Calls.{arguments_acts, without}
use Rattle.co_meaning_calls.specs.Coroutines.{make_promise_in}
use Rattle.co_meaning_data.specs.Turn.{funcs}
use Rattle.co_eval_ramps.proofs.promises.makes_by.Goals as goal

pub returns : goal.returns
returns c =
    let l = local_of c.args.here.now in
    let plan = c.args.plan.now in
    let f = c.args.func in
    let of = c.args.of.now in
    let args = c.making_arguments-args.result.now in
    let raw = c.in_ok-raw.raw in
    IfOk-weaker c.open_call.result
    (λ (x : Change). Some (turned_by x l) ≡ opens_after (arguments_acts (funcs l) (without 1 (class_params (funcs l) f)) args) (effect.AddsPromise c.args.slot raw) c.in_ok-outer.outer c.in_ok-inner.inner (task.Comes outcome.Passes) l)
    (λ (x : Change). Some (turned_by x l) ≡ make_promise_in plan c.args.slot l (Some of))
    (λ x is. constructed_as plan c.args.slot of f args c.next_object-object.result c.counted_in-coroutine.result raw c.in_ok-outer.outer c.in_ok-inner.inner l (Some (turned_by x l))
    c.requires.constructor c.making_arguments-args.ensures c.counted_in-coroutine.ensures c.next_object-object.ensures c.in_ok-raw.ensures c.in_ok-outer.ensures c.in_ok-inner.ensures is)
    c.open_call.ensures
