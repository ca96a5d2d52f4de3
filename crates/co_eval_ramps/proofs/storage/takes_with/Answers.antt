use Rattle.std.specs.Prelude.{◌≡◌, [], ◌∷◌, Some}
use Rattle.std.proofs.lemmas.Result.{IfOk-weaker}
use Rattle.co_core_tree.specs.Slots.{class_params}
use Rattle.co_eval_data.specs.Agents.{local_of}
use Rattle.co_eval_data.specs.Changed.{turned_by}
use Rattle.co_eval_data.specs.declared.agents.Task.TheVariants as task
use Rattle.co_eval_data.specs.declared.changes.Change.{Change}
use Rattle.co_eval_data.specs.declared.changes.Effect.TheVariants as effect
use Rattle.co_eval_data.specs.declared.outcomes.Outcome.TheVariants as outcome
use Rattle.co_eval_fulls.specs.Fulls.{opens_after}
use Rattle.co_eval_ramps.proofs.Taken.{taken_with}
use Rattle.co_meaning_calls.specs.Calls.{arguments_acts, call_acts, opens, without}
use Rattle.co_meaning_calls.specs.Coroutines.{take_call}
use Rattle.co_meaning_data.specs.Frames as meaning
use Rattle.co_meaning_data.specs.Turn.{funcs, pushed}
use Rattle.co_eval_ramps.proofs.storage.takes_with.Goals as goal

pub returns : goal.returns
returns c =
    let l = local_of c.args.here.now in
    let f = c.args.func in
    let call = take_call f c.args.args.now l in
    let rest = c.as_slice-rest.result.now in
    IfOk-weaker c.open_call.result
    (λ (x : Change). Some (turned_by x l) ≡ opens_after (arguments_acts (funcs l) (without 1 (class_params (funcs l) f)) rest) effect.Nothing c.in_ok-outer.outer c.in_ok-inner.inner (task.Comes outcome.Passes) l)
    (λ (x : Change). Some (turned_by x l) ≡ opens (call_acts l call) (meaning.Calling call ∷ []) (meaning.Comes meaning.Passes) (pushed meaning.RampTaken l))
    (λ x is. taken_with f c.args.args.now rest c.in_ok-outer.outer c.in_ok-inner.inner l (Some (turned_by x l)) c.as_slice-rest.ensures c.in_ok-outer.ensures c.in_ok-inner.ensures is)
    c.open_call.ensures
